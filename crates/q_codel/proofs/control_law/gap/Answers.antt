use Rattle.std.proofs.Common.{arith, rules}
use Rattle.q_codel.proofs.Root.{gap_of_is, IsGap_at_end}
use Rattle.q_codel.proofs.control_law.gap.Goals as goal

pub returns-else-not-is_too_long-clause-value : goal.returns-else-not-is_too_long-clause-value
returns-else-not-is_too_long-clause-value c =
    gap_of_is _ _ _ (IsGap_at_end _ _ _ c.requires.counted c.loop-d-2.invariant.0 c.loop-d-2.invariant.1 (λ below. (search rules))) c.loop-d-2.invariant.0

pub returns-after-loop-d-2-clause-value : goal.returns-after-loop-d-2-clause-value
returns-after-loop-d-2-clause-value c =
    gap_of_is _ _ _ (IsGap_at_end _ _ _ c.requires.counted c.loop-d-2.invariant.0 c.loop-d-2.invariant.1 (λ below. absurd (omega arith))) c.loop-d-2.invariant.0

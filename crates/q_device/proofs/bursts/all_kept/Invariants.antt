use Rattle.std.specs.Prelude.{◌≡◌, ◌++◌, drop, replicate}
use Rattle.q_model.specs.declared.fate.Fate.TheVariants.{Kept}
use Rattle.q_device.proofs.bursts.all_kept.Given as goal

abbrev pub invariant-loop-i : goal.invariant-loop-i
invariant-loop-i g l = l.fates ≡ replicate l.i (g.A.Answer.answer Kept) ++ drop l.i l.initial.fates

use Rattle.std.proofs.Common.{◌-◌, ◌≡◌, ◌≤◌, ◌*◌, nat_lt, false}
use Rattle.q_codel.proofs.control_law.gap.Given as goal

abbrev pub invariant-loop-d : goal.invariant-loop-d
invariant-loop-d l = l.d ≤ l.interval

abbrev pub decreases-loop-d : goal.decreases-loop-d
decreases-loop-d l = l.d

abbrev pub invariant-loop-d-2 : goal.invariant-loop-d-2
invariant-loop-d-2 l = (l.d ≤ l.interval) × (nat_lt (l.interval * l.interval) (l.d * l.d * l.count) ≡ false)

abbrev pub decreases-loop-d-2 : goal.decreases-loop-d-2
decreases-loop-d-2 l = l.interval - l.d

use Rattle.std.proofs.Common.{◌≡◌, ◌≤◌, ◌*◌, ◌^◌, take}
use Rattle.std.specs.Prelude.{sum_by}
use Rattle.q_drr.specs.Schedule.{Class}
use Rattle.q_tree.proofs.answers.ways.quanta_of.Given as goal

-- the quanta of the classes so far
abbrev pub invariant-loop-place : goal.invariant-loop-place
invariant-loop-place l = (l.quanta ≡ sum_by (λ (c : Class). c.quantum) (take l.place l.active.classes)) × (l.quanta ≤ l.place * 2 ^ 32)

use Rattle.std.proofs.Common.{◌≡◌}
use Rattle.std.specs.List.{sum_by}
use Rattle.q_drr.specs.Schedule.{quantum_of}
use Rattle.q_drr.specs.Take.{need}
use Rattle.q_tree.specs.arrival.KeepSteps.{no_sink}
use Rattle.q_tree.specs.departure.GiveSteps.{nothing_shown}
use Rattle.q_tree.proofs.disciplines.RoundsServed.{IsInRound}
use Rattle.q_tree.proofs.disciplines.ServeLemmas.{AreClassesAsked, heads_of}
use Rattle.q_tree.proofs.departure.giving.give_from_classes.Given as goal

abbrev pub invariant-loop-place : goal.invariant-loop-place
invariant-loop-place l =
    AreClassesAsked l.fn.now l.fn.active l.active l.fn.classes l.classes l.unasked nothing_shown no_sink no_sink
    × IsInRound l.fn.now l.fn.active l.active l.fn.classes l.unasked l.round
    × (l.classes ≡ l.fn.classes)
    × (l.out ≡ l.fn.out)

-- each grant lowers one class's need of grants by one
abbrev pub decreases-loop-place : goal.decreases-loop-place
decreases-loop-place l = sum_by (need (λ m. quantum_of m l.active.classes) (heads_of l.fn.now l.fn.active l.fn.classes)) l.active.active

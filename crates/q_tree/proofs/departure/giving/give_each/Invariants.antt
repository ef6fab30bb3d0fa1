use Rattle.std.proofs.Common.{None}
use Rattle.q_tree.specs.departure.GiveMany.{AreGivenIn}
use Rattle.q_tree.specs.departure.GiveSteps.{IsNoFifo, IsQuickIn}
use Rattle.q_tree.specs.Seen.{children_seen, discipline_seen}
use Rattle.q_tree.proofs.departure.giving.give_each.Given as goal

abbrev pub invariant-loop-i : goal.invariant-loop-i
invariant-loop-i g l =
    AreGivenIn g.T.Told.told l.fn.now (record { packets = l.i; bytes = l.bytes }) l.initial.places l.places l.initial.discipline l.discipline
    × IsQuickIn None (children_seen l.discipline) (discipline_seen l.discipline)
    × (IsNoFifo (discipline_seen l.initial.discipline) → IsNoFifo (discipline_seen l.discipline))

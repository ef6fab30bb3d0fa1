use Rattle.qtree_c.proofs.device.UndoneLemmas.{IsTelling}
use Rattle.qtree_c.proofs.device.set_up.tell.Given as goal

abbrev pub invariant-loop-i : goal.invariant-loop-i
invariant-loop-i l = IsTelling l.i l.undone l.initial.places l.places

use Rattle.q_codel.proofs.BurstLemmas.{IsPopping}
use Rattle.q_codel.proofs.fifo.pop_burst.Given as goal

abbrev pub invariant-loop-i : goal.invariant-loop-i
invariant-loop-i g l = IsPopping g.T.Told.told l.i l.bytes l.initial.places l.places l.initial.ring l.ring

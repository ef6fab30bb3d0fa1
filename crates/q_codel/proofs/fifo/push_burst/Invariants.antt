use Rattle.q_codel.proofs.BurstLemmas.{IsPushing}
use Rattle.q_codel.proofs.fifo.push_burst.Given as goal

abbrev pub invariant-loop-i : goal.invariant-loop-i
invariant-loop-i l = IsPushing l.i l.now l.longest l.packets l.bytes l.initial.ring l.ring

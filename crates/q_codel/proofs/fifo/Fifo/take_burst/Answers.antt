use Rattle.q_codel.proofs.BurstLemmas.{kept-rest}
use Rattle.q_codel.proofs.fifo.Fifo.take_burst.Goals as goal

pub invariant_of-self : goal.invariant_of-self
invariant_of-self g c =
    kept-rest c.self.inside.bytes c.pop_burst-bytes.result _ c.self.inside.packets c.pop_burst-bytes.new.ring c.self.invariant
    c.pop_burst-bytes.ensures.rest c.pop_burst-bytes.ensures.bytes

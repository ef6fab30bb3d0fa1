use Rattle.std.proofs.Common.{arith}
use Rattle.q_codel.proofs.Counted.{one_more}
use Rattle.q_codel.proofs.fifo.Fifo.put_from.Goals as goal

pub overflow_add-self : goal.overflow_add-self
overflow_add-self c = let h = one_more _ _ c.len.result c.self.invariant.counted (omega arith) in omega arith

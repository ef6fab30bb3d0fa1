use Rattle.std.proofs.Common.{arith}
use Rattle.q_codel.proofs.Counted.{one_more}
use Rattle.q_codel.proofs.fifo.Fifo.fits.Goals as goal

pub overflow_add-result : goal.overflow_add-result
overflow_add-result c = let h = one_more _ _ c.args.len c.self.invariant.counted (omega arith) in omega arith

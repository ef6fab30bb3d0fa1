use Rattle.std.proofs.Common.{arith}
use Rattle.std.specs.Prelude.{slice_get}
use Rattle.q_tree.proofs.departure.GivenInto.{head-len}
use Rattle.q_tree.proofs.disciplines.fifo.dequeue_head.Goals as goal

pub quiet-requires-clause-len : goal.quiet-requires-clause-len
quiet-requires-clause-len c =
    head-len (slice_get c.args.fifo.now.packets 0) c.take_into-len.result c.args.out.now c.take_into-len.new.out (omega (arith, c.if-len-eq0.false))
    c.take_into-len.ensures.len c.take_into-len.ensures.given

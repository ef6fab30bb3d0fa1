use Rattle.std.proofs.Common.{List, length, ap, arith}
use Rattle.q_packet.specs.declared.stamped.Stamped.{Stamped}
use Rattle.std.proofs.lemmas.Result.{on_ok_weaker}
use Rattle.q_codel.specs.FifoState.{FifoState}
use Rattle.q_codel.proofs.fifo.Fifo.grow.Goals as goal

pub returns-clause-ok : goal.returns-clause-ok
returns-clause-ok c =
    let same = ap (λ (l : List Stamped). length l) c.grow.ensures.packets in
    on_ok_weaker c.grow.result (λ grown. omega
    (arith, c.requires, grown, same, ap (λ (s : FifoState). length s.packets) c.self.view_is, ap (λ (s : FifoState). s.places) c.self.view_is))
    c.grow.ensures.grown

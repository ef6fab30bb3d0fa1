use Rattle.std.proofs.Common.{◌∙◌, ap}
use Rattle.std.proofs.Math.Seq.{map-set_same}
use Rattle.q_ports.specs.Placed.{PortSeen, ring_of_port}
use Rattle.q_threads_tests.proofs.common.offer_at.Goals as goal

pub returns-clause-rings : goal.returns-clause-rings
returns-clause-rings c =
    map-set_same ring_of_port c.args.ports.now.items c.args.at c.offer.new.port c.index_mut.result.now
    (c.offer.ensures ∙ ap (λ (v : PortSeen). ring_of_port v) c.index_mut.ensures.value)

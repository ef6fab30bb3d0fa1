use Rattle.std.proofs.Common.{◌∙◌, List, true, subst, arith}
use Rattle.std.proofs.lemmas.List.{take_all}
use Rattle.q_packet.specs.Descriptor.{Descriptor}
use Rattle.q_ports.specs.Offered.{Offered}
use Rattle.q_ports.proofs.OfferLemmas.{offered-more, offered-none}
use Rattle.q_ports.proofs.sender.send.Goals as goal

pub loop-packet-init : goal.loop-packet-init
loop-packet-init g c = record { offered = offered-none c.args.tries true c.args.port; few = omega arith }

pub overflow_add-given_up : goal.overflow_add-given_up
overflow_add-given_up g c =
    let small = c.args.load.small in omega (
      arith,
      c.loop-packet.invariant.few,
      c.count_given_up-given_up.ensures.few,
      c.loop-packet-test.true,
      c.deref-packet-items.ensures.len,
    )

pub loop-packet-preserved : goal.loop-packet-preserved
loop-packet-preserved g c =
    let one = c.count_given_up-given_up in
    record {
      offered =
          offered-more c.args.tries true c.args.port c.loop-packet.port one.new.port c.deref-packet-items.result.now c.loop-packet.packet-index
          c.packet-item.result c.loop-packet.given_up one.result c.loop-packet.invariant.offered c.loop-packet-test.true
          c.packet-item.is one.ensures.offered one.ensures.full;
      few = omega (arith, c.loop-packet.invariant.few, one.ensures.few);
    }

pub returns-clause-offered : goal.returns-clause-offered
returns-clause-offered g c =
    let items = c.deref-packet-items.result.now in
    let all = take_all c.loop-packet.packet-index items (omega (arith, c.loop-packet-test.false)) in
    subst (λ (ps : List Descriptor). Offered c.args.tries true c.args.port ps c.loop-packet.port c.loop-packet.given_up) (all ∙ c.deref-packet-items.ensures.value) c.loop-packet.invariant.offered

use Rattle.std.proofs.Common.{◌<◌, ◌≤◌, ap, refl, arith}
use Rattle.q_packet.specs.Descriptor.{Descriptor}
use Rattle.q_tree.proofs.arrival.Arriving.{arrived-as}
use Rattle.q_tree.proofs.arrival.TreeArrivals.{above-root, above-told, at-root, at-root-told}
use Rattle.q_tree.proofs.arrival.enqueue.enqueue_below.Goals as goal

pub returns-then-packet-mtu-clause-arrives : goal.returns-then-packet-mtu-clause-arrives
returns-then-packet-mtu-clause-arrives g c =
    let long : c.args.mtu < c.args.packet.now.len = omega (arith, c.if-packet-mtu.true, ap (λ (q : Descriptor). q.len) c.packet.view_is) in
    arrived-as c.refuse.result
    (above-root c.args.now c.args.packet.now c.args.mtu c.args.root.now c.args.root.now c.refuse.result long refl _ refl c.refuse.ensures.outcome)
    c.refuse.ensures.lost_is

pub returns-then-packet-mtu-clause-told : goal.returns-then-packet-mtu-clause-told
returns-then-packet-mtu-clause-told g c =
    let long : c.args.mtu < c.args.packet.now.len = omega (arith, c.if-packet-mtu.true, ap (λ (q : Descriptor). q.len) c.packet.view_is) in
    above-told c.args.now c.args.packet.now c.args.mtu c.args.root.now (g.S.Sink.state c.args.sink.now) (g.S.Sink.state c.refuse.new.sink) long _ refl c.refuse.ensures.told

pub enqueue_further-requires-clause-ready : goal.enqueue_further-requires-clause-ready
enqueue_further-requires-clause-ready g c = c.requires.ready (omega (arith, c.if-packet-mtu.false, ap (λ (q : Descriptor). q.len) c.packet.view_is))

pub returns-clause-arrives : goal.returns-clause-arrives
returns-clause-arrives g c =
    let short : c.args.packet.now.len ≤ c.args.mtu = omega (arith, c.if-packet-mtu.false, ap (λ (q : Descriptor). q.len) c.packet.view_is) in
    let e = c.enqueue_further.ensures.arrives in
    record {
      after = at-root c.args.now c.args.packet.now c.args.mtu c.args.root.now c.enqueue_further.new.self c.enqueue_further.result short e.after;
      same = e.same;
      not_lost = e.not_lost;
      succeeds = λ h. e.succeeds (h short);
      lost_is = e.lost_is;
    }

pub returns-clause-told : goal.returns-clause-told
returns-clause-told g c =
    let short : c.args.packet.now.len ≤ c.args.mtu = omega (arith, c.if-packet-mtu.false, ap (λ (q : Descriptor). q.len) c.packet.view_is) in
    at-root-told c.args.now c.args.packet.now c.args.mtu c.args.root.now c.enqueue_further.result (g.S.Sink.state c.args.sink.now)
    (g.S.Sink.state c.enqueue_further.new.sink) short c.enqueue_further.ensures.told

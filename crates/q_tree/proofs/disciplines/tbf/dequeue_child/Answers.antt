use Rattle.std.proofs.Common.{◌∙◌, sym, ap}
use Rattle.std.specs.Prelude.{unwrap_or}
use Rattle.q_tree.proofs.departure.HeldLemmas.{some-there, none-there}
use Rattle.q_tree.proofs.disciplines.tbf.dequeue_child.Goals as goal

pub returns-then-has_packet-clause-after : goal.returns-then-has_packet-clause-after
returns-then-has_packet-clause-after g c = λ own limit.
    let there = some-there c.allow_child-shown.result.packet (sym c.has_packet.ensures ∙ c.if-has_packet.true) in
    (c.allow_child-shown.ensures.allowed there.0 there.1).asked c.dequeue_at_hand.new.self c.dequeue_at_hand.ensures.after c.dequeue_at_hand.ensures.arrived own limit

pub returns-then-has_packet-clause-packet : goal.returns-then-has_packet-clause-packet
returns-then-has_packet-clause-packet g c =
    let there = some-there c.allow_child-shown.result.packet (sym c.has_packet.ensures ∙ c.if-has_packet.true) in
    c.dequeue_at_hand.ensures.packet ∙ ap (λ o. unwrap_or o c.args.out.now) ((c.allow_child-shown.ensures.allowed there.0 there.1).shown ∙ sym there.1)

pub returns-else-has_packet-clause-after : goal.returns-else-has_packet-clause-after
returns-else-has_packet-clause-after g c = λ own limit.
    (c.allow_child-shown.ensures.waits (none-there c.allow_child-shown.result.packet (sym c.has_packet.ensures ∙ c.if-has_packet.false)) own limit).asked

pub returns-else-has_packet-clause-packet : goal.returns-else-has_packet-clause-packet
returns-else-has_packet-clause-packet g c =
    ap (λ o. unwrap_or o c.args.out.now) (sym (none-there c.allow_child-shown.result.packet (sym c.has_packet.ensures ∙ c.if-has_packet.false)))

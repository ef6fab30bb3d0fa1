use Rattle.std.proofs.Common.{◌∙◌, sym, ap}
use Rattle.std.specs.Prelude.{unwrap_or}
use Rattle.q_tree.proofs.departure.HeldLemmas.{some-there, none-there}
use Rattle.q_tree.proofs.disciplines.ServeLemmas.{class-there}
use Rattle.q_tree.proofs.disciplines.drr.dequeue_class.Goals as goal

pub dequeue_class_at_hand-requires : goal.dequeue_class_at_hand-requires
dequeue_class_at_hand-requires g c =
    let there = some-there c.meet_class-shown.result.packet (sym c.has_packet.ensures ∙ c.if-has_packet.true) in
    (c.meet_class-shown.ensures.met there.0 there.1).inside

pub returns-then-has_packet-clause-served : goal.returns-then-has_packet-clause-served
returns-then-has_packet-clause-served g c = λ own.
    let there = some-there c.meet_class-shown.result.packet (sym c.has_packet.ensures ∙ c.if-has_packet.true) in
    (c.meet_class-shown.ensures.met there.0 there.1).served c.dequeue_class_at_hand.new.active c.dequeue_class_at_hand.new.classes c.dequeue_class_at_hand.ensures.given own

pub returns-then-has_packet-clause-packet : goal.returns-then-has_packet-clause-packet
returns-then-has_packet-clause-packet g c =
    let there = some-there c.meet_class-shown.result.packet (sym c.has_packet.ensures ∙ c.if-has_packet.true) in
    let met = c.meet_class-shown.ensures.met there.0 there.1 in
    let class = class-there c.meet_class-shown.new.classes c.meet_class-shown.new.met met.inside in
    c.dequeue_class_at_hand.ensures.packet class.0 class.1 ∙ ap (λ o. unwrap_or o c.args.out.now) (met.shown class.0 class.1)

pub returns-else-has_packet-clause-served : goal.returns-else-has_packet-clause-served
returns-else-has_packet-clause-served g c = λ own. (c.meet_class-shown.ensures.nothing (none-there c.meet_class-shown.result.packet (sym c.has_packet.ensures ∙ c.if-has_packet.false))).served own

pub returns-else-has_packet-clause-packet : goal.returns-else-has_packet-clause-packet
returns-else-has_packet-clause-packet g c =
    ap (λ o. unwrap_or o c.args.out.now) (sym (none-there c.meet_class-shown.result.packet (sym c.has_packet.ensures ∙ c.if-has_packet.false)))

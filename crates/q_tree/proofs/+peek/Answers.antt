use Rattle.std.proofs.Common.{◌≡◌, ◌∙◌, [], ◌∷◌, set, length, refl, sym, ap, ap₂, arith, rules, Option, Some}
use Rattle.std.specs.Prelude.{is_some, slice_index_or, unwrap_or, slice_get}
use Rattle.std.specs.Box.{with_value}
use Rattle.std.specs.Vec.{with_items}
use Rattle.q_bucket.specs.Level.{allows}
use Rattle.q_fqcodel.specs.FqState.{FqView}
use Rattle.q_fqcodel.specs.Take.{head_sent, selected}
use Rattle.q_model.specs.Ask.{ask_tbf, ask_drr, ask_fq_codel}
use Rattle.q_model.specs.Node as spec
use Rattle.q_model.specs.Node.{Node, shape, side_by_side}
use Rattle.q_tree.specs.departure.AskSteps.{answers, own_of, signals_of}
use Rattle.q_tree.specs.Kept.{Kept}
use Rattle.q_tree.specs.NodeCode.{forest_size}
use Rattle.q_tree.specs.Seen.{children_seen, discipline_seen, places_seen}
use Rattle.q_tree.specs.declared.node.Discipline.TheVariants as code
use Rattle.q_tree.specs.departure.Shown.{Shown}
use Rattle.q_tree.proofs.counters.Quiet.{shown-nothing}
use Rattle.q_tree.proofs.departure.AskOnce.{fits-beside}
use Rattle.q_tree.proofs.departure.Peeks.{asked-in, fifo-asked, fifo-peeked, held-of, each-of, room-of, own-room, items-are, serve-of, holding-after, can-in, enough, can-book, peeked-done, shown-here, told-here, tbf-none, tbf-allowed, tbf-none-since, tbf-waiting}
use Rattle.q_tree.proofs.disciplines.AskBands.{band-at, band-once, band-shown, bands-go-on, bands-start, bands-end}
use Rattle.q_tree.proofs.disciplines.AtHandLemmas.{shown-len}
use Rattle.q_tree.proofs.disciplines.HereLemmas.{flow-packets}
use Rattle.q_tree.proofs.disciplines.IdleClasses.{idle-unserved}
use Rattle.q_tree.proofs.disciplines.RoundsServed.{can-go, fewer-needed, round-goes-on, round-starts, rounds-go-on}
use Rattle.q_tree.proofs.disciplines.ServeLemmas.{classes-start, class-once, class-shown, class-size, front-met, place-within, short-enough, class-given, class-sends, class-unserved}
use Rattle.q_tree.proofs.disciplines.TakeCounts.{flow-told}
use Rattle.q_tree.proofs.route.RouteLemmas.{child-size, children-size}
use Rattle.q_tree.proofs.+peek.Goals as goal
use Rattle.q_tree.proofs.departure.HeldLemmas.{none-kept, some-kept, some-there, none-there, empty-held, held-with}
use Rattle.q_tree.specs.departure.Holding.{held_with}
use Rattle.q_model.specs.Since.{at_hand_since, since_of}
use Rattle.q_packet.specs.Descriptor.{Descriptor}
use Rattle.q_packet.specs.declared.stamped.Stamped.{Stamped}
use Rattle.std.specs.Option.{option_map_or}
use Rattle.std.proofs.lemmas.Option.{none-some, slice_get-get_or}
use Rattle.q_codel.proofs.SinkLemmas.{told_nothing}

pub node::Node::peek_after_counts-then-requires-clause-dropped_packets : goal.node::Node::peek_after_counts-then-requires-clause-dropped_packets
node::Node::peek_after_counts-then-requires-clause-dropped_packets g t c = (fits-beside c.args.now c.args.self.now c.args.so_far c.peek-next.result (g.S.Sink.state c.args.sink.now).room c.requires.ready c.peek-next.ensures.peeked.shown).dropped_packets

pub node::Node::peek_after_counts-then-requires-clause-dropped_bytes : goal.node::Node::peek_after_counts-then-requires-clause-dropped_bytes
node::Node::peek_after_counts-then-requires-clause-dropped_bytes g t c = (fits-beside c.args.now c.args.self.now c.args.so_far c.peek-next.result (g.S.Sink.state c.args.sink.now).room c.requires.ready c.peek-next.ensures.peeked.shown).dropped_bytes

pub node::Node::peek_after_counts-then-requires-clause-marked_packets : goal.node::Node::peek_after_counts-then-requires-clause-marked_packets
node::Node::peek_after_counts-then-requires-clause-marked_packets g t c = (fits-beside c.args.now c.args.self.now c.args.so_far c.peek-next.result (g.S.Sink.state c.args.sink.now).room c.requires.ready c.peek-next.ensures.peeked.shown).marked_packets

pub node::Node::peek_after_counts-then-requires-clause-marked_bytes : goal.node::Node::peek_after_counts-then-requires-clause-marked_bytes
node::Node::peek_after_counts-then-requires-clause-marked_bytes g t c = (fits-beside c.args.now c.args.self.now c.args.so_far c.peek-next.result (g.S.Sink.state c.args.sink.now).room c.requires.ready c.peek-next.ensures.peeked.shown).marked_bytes

pub disciplines::tbf::allow_child-returns-in_default-clause-allowed : goal.disciplines::tbf::allow_child-returns-in_default-clause-allowed
disciplines::tbf::allow_child-returns-in_default-clause-allowed g t c = λ p is. absurd (none-some p (sym (c.packet_len.ensures.none c.in_default.is) ∙ is))

pub disciplines::tbf::allow_child-returns-in_default-clause-waits : goal.disciplines::tbf::allow_child-returns-in_default-clause-waits
disciplines::tbf::allow_child-returns-in_default-clause-waits g t c = λ none own limit. record {
  since = tbf-none-since c.args.now own c.args.bucket.now limit c.args.child.now (sym c.peek-shown.ensures.peeked.shown.packet ∙ none);
  asked = tbf-none c.args.now own c.args.bucket.now limit c.args.child.now c.peek-shown.new.self c.peek-shown.result c.peek-shown.ensures.peeked.after c.peek-shown.ensures.peeked.arrived c.peek-shown.ensures.peeked.shown none c.peek-shown.ensures.peeked.told;
}

pub disciplines::tbf::allow_child-returns-then-not-spend-clause-allowed : goal.disciplines::tbf::allow_child-returns-then-not-spend-clause-allowed
disciplines::tbf::allow_child-returns-then-not-spend-clause-allowed g t c = λ p is. absurd (none-some p (sym (ap (λ (s : Shown). s.packet) c.showing.ensures) ∙ is))

pub disciplines::tbf::allow_child-returns-then-not-spend-clause-waits : goal.disciplines::tbf::allow_child-returns-then-not-spend-clause-waits
disciplines::tbf::allow_child-returns-then-not-spend-clause-waits g t c = λ none own limit.
    let offer = shown-len c.peek-shown.result.packet c.packet_len.result c.in-Some.len c.packet_len.ensures.some c.in-Some.is in
    let may = ap (allows c.args.bucket.now c.args.now) offer.2 ∙ sym c.spend.ensures.answer ∙ c.if-not-spend.true in
    tbf-waiting c.args.now own c.args.bucket.now limit c.args.child.now c.peek-shown.new.self c.peek-shown.new.signals c.peek-shown.result c.showing.result c.peek-shown.ensures.peeked offer.0 offer.1 may
    none (ap (λ (s : Shown). s.dropped) c.showing.ensures) (ap (λ (s : Shown). s.marked) c.showing.ensures)

pub disciplines::tbf::allow_child-returns-then-not-spend-clause-signals : goal.disciplines::tbf::allow_child-returns-then-not-spend-clause-signals
disciplines::tbf::allow_child-returns-then-not-spend-clause-signals g t c = c.peek-shown.ensures.peeked.signals ∙ sym (ap signals_of c.showing.ensures)

pub disciplines::tbf::allow_child-returns-clause-allowed : goal.disciplines::tbf::allow_child-returns-clause-allowed
disciplines::tbf::allow_child-returns-clause-allowed g t c = λ p is.
    let offer = shown-len c.peek-shown.result.packet c.packet_len.result c.in-Some.len c.packet_len.ensures.some c.in-Some.is in
    let may = ap (allows c.args.bucket.now c.args.now) offer.2 ∙ sym c.spend.ensures.answer ∙ c.if-not-spend.false in
    tbf-allowed c.args.now c.args.bucket.now c.args.child.now c.peek-shown.new.self c.peek-shown.new.signals c.peek-shown.result c.requires.asks.ready c.peek-shown.ensures.peeked p offer.0 is offer.1 may

pub disciplines::tbf::allow_child-returns-clause-waits : goal.disciplines::tbf::allow_child-returns-clause-waits
disciplines::tbf::allow_child-returns-clause-waits g t c = λ none own limit.
    let offer = shown-len c.peek-shown.result.packet c.packet_len.result c.in-Some.len c.packet_len.ensures.some c.in-Some.is in
    absurd (none-some offer.0 (sym none ∙ offer.1))

pub disciplines::tbf::peek_child-hold-requires : goal.disciplines::tbf::peek_child-hold-requires
disciplines::tbf::peek_child-hold-requires g t c =
    let there = some-there c.allow_child-shown.result.packet (sym c.has_packet.ensures ∙ c.if-has_packet.true) in
    ap is_some (c.allow_child-shown.ensures.allowed there.0 there.1).shown

pub disciplines::tbf::peek_child-returns-then-has_packet-clause-after : goal.disciplines::tbf::peek_child-returns-then-has_packet-clause-after
disciplines::tbf::peek_child-returns-then-has_packet-clause-after g t c = λ own limit.
    let there = some-there c.allow_child-shown.result.packet (sym c.has_packet.ensures ∙ c.if-has_packet.true) in
    (c.allow_child-shown.ensures.allowed there.0 there.1).asked c.hold.new.child c.hold.ensures.after c.hold.ensures.arrived own limit

pub disciplines::tbf::peek_child-returns-then-has_packet-clause-held : goal.disciplines::tbf::peek_child-returns-then-has_packet-clause-held
disciplines::tbf::peek_child-returns-then-has_packet-clause-held g t c = λ own limit.
    let there = some-there c.allow_child-shown.result.packet (sym c.has_packet.ensures ∙ c.if-has_packet.true) in
    let allowed = c.allow_child-shown.ensures.allowed there.0 there.1 in
    c.hold.ensures.held ∙ ap₂ held_with (allowed.shown ∙ sym there.1) (allowed.since own limit)

pub disciplines::tbf::peek_child-returns-else-has_packet-clause-after : goal.disciplines::tbf::peek_child-returns-else-has_packet-clause-after
disciplines::tbf::peek_child-returns-else-has_packet-clause-after g t c = λ own limit.
    (c.allow_child-shown.ensures.waits (none-there c.allow_child-shown.result.packet (sym c.has_packet.ensures ∙ c.if-has_packet.false)) own limit).asked

pub disciplines::tbf::peek_child-returns-else-has_packet-clause-held : goal.disciplines::tbf::peek_child-returns-else-has_packet-clause-held
disciplines::tbf::peek_child-returns-else-has_packet-clause-held g t c = λ own limit.
    c.requires.none
    ∙ ap (λ (o : Option Descriptor). held_with o (ask_tbf c.args.now own (answers c.args.now (c.args.child.now ∷ [])) c.args.bucket.now limit).peeked.own.since)
    (sym (none-there c.allow_child-shown.result.packet (sym c.has_packet.ensures ∙ c.if-has_packet.false)))

pub disciplines::drr::meet_class-loop-place-init : goal.disciplines::drr::meet_class-loop-place-init
disciplines::drr::meet_class-loop-place-init g t c = (
  classes-start c.args.now c.args.active.now c.args.classes.now c.active_count-unasked.result c.at_hand-shown.result (g.S.Sink.state c.args.sink.now) c.requires.ready c.active_count-unasked.ensures
      (record { dropped = ap (λ (s : Shown). s.dropped) c.at_hand-shown.ensures; marked = ap (λ (s : Shown). s.marked) c.at_hand-shown.ensures }),
  g.met.S.Sink.keeps_same c.args.sink.now,
  c.requires.clean ∙ sym (ap signals_of c.at_hand-shown.ensures),
  round-starts c.args.now c.args.active.now c.args.active.now c.args.classes.now c.active_count-unasked.result c.new-round.result c.new-round.ensures,
)

pub disciplines::drr::meet_class-offset_bounds-classes-place : goal.disciplines::drr::meet_class-offset_bounds-classes-place
disciplines::drr::meet_class-offset_bounds-classes-place g t c =
    let met = front-met c.requires.ready c.loop-place.invariant.0 c.front_place.ensures.lawful c.in-Some.place (sym c.in-Some.is ∙ c.front_place.ensures.place) in
    omega (arith, place-within met, c.loop-place.auto.classes)

pub disciplines::drr::meet_class-bounds-classes-place : goal.disciplines::drr::meet_class-bounds-classes-place
disciplines::drr::meet_class-bounds-classes-place g t c =
    place-within (front-met c.requires.ready c.loop-place.invariant.0 c.front_place.ensures.lawful c.in-Some.place (sym c.in-Some.is ∙ c.front_place.ensures.place))

pub disciplines::drr::meet_class-peek_class-shown-requires : goal.disciplines::drr::meet_class-peek_class-shown-requires
disciplines::drr::meet_class-peek_class-shown-requires g t c κs within =
    let met = front-met c.requires.ready c.loop-place.invariant.0 c.front_place.ensures.lawful c.in-Some.place (sym c.in-Some.is ∙ c.front_place.ensures.place) in (
      omega (arith, class-size met c.index-classes-place.result, c.decreases),
      (within, ((λ some. class-once met c.index-classes-place.result some c.requires.sink), c.loop-place.invariant.2)),
    )

pub disciplines::drr::meet_class-returns-in_default-packet_len-clause-kept : goal.disciplines::drr::meet_class-returns-in_default-packet_len-clause-kept
disciplines::drr::meet_class-returns-in_default-packet_len-clause-kept g t c =
    g.met.S.Sink.keeps_on c.args.sink.now c.loop-place.sink c.peek_class-shown.new.sink c.loop-place.invariant.1 c.peek_class-shown.ensures.kept

pub disciplines::drr::meet_class-turn_class-requires-clause-in_range : goal.disciplines::drr::meet_class-turn_class-requires-clause-in_range
disciplines::drr::meet_class-turn_class-requires-clause-in_range g t c =
    let met = front-met c.requires.ready c.loop-place.invariant.0 c.front_place.ensures.lawful c.in-Some.place (sym c.in-Some.is ∙ c.front_place.ensures.place) in
    let shows = class-shown met c.index-classes-place.result c.peek_class-shown.ensures.asked c.peek_class-shown.ensures.at_hand c.peek_class-shown.ensures.not_lost in
    let offer = shown-len c.peek_class-shown.result.packet c.packet_len.result c.in-Some-packet_len.len c.packet_len.ensures.some c.in-Some-packet_len.is in
    short-enough met shows offer

pub disciplines::drr::meet_class-turn_class-requires-clause-round : goal.disciplines::drr::meet_class-turn_class-requires-clause-round
disciplines::drr::meet_class-turn_class-requires-clause-round g t c =
    let met = front-met c.requires.ready c.loop-place.invariant.0 c.front_place.ensures.lawful c.in-Some.place (sym c.in-Some.is ∙ c.front_place.ensures.place) in
    let shows = class-shown met c.index-classes-place.result c.peek_class-shown.ensures.asked c.peek_class-shown.ensures.at_hand c.peek_class-shown.ensures.not_lost in
    let offer = shown-len c.peek_class-shown.result.packet c.packet_len.result c.in-Some-packet_len.len c.packet_len.ensures.some c.in-Some-packet_len.is in
    λ _. can-go met shows offer c.loop-place.invariant.3

pub disciplines::drr::meet_class-returns-in-Send-clause-kept : goal.disciplines::drr::meet_class-returns-in-Send-clause-kept
disciplines::drr::meet_class-returns-in-Send-clause-kept g t c =
    g.met.S.Sink.keeps_on c.args.sink.now c.loop-place.sink c.peek_class-shown.new.sink c.loop-place.invariant.1 c.peek_class-shown.ensures.kept

pub disciplines::drr::meet_class-loop-place-smaller : goal.disciplines::drr::meet_class-loop-place-smaller
disciplines::drr::meet_class-loop-place-smaller g t c =
    let met = front-met c.requires.ready c.loop-place.invariant.0 c.front_place.ensures.lawful c.in-Some.place (sym c.in-Some.is ∙ c.front_place.ensures.place) in
    let shows = class-shown met c.index-classes-place.result c.peek_class-shown.ensures.asked c.peek_class-shown.ensures.at_hand c.peek_class-shown.ensures.not_lost in
    let offer = shown-len c.peek_class-shown.result.packet c.packet_len.result c.in-Some-packet_len.len c.packet_len.ensures.some c.in-Some-packet_len.is in
    fewer-needed met shows offer c.loop-place.invariant.3 (sym c.in-Granted.is ∙ c.turn_class.ensures.answer) c.turn_class.ensures.asks (λ none go. c.turn_class.ensures.goes c.in-Granted.is none go)

pub disciplines::drr::meet_class-loop-place-preserved : goal.disciplines::drr::meet_class-loop-place-preserved
disciplines::drr::meet_class-loop-place-preserved g t c =
    let met = front-met c.requires.ready c.loop-place.invariant.0 c.front_place.ensures.lawful c.in-Some.place (sym c.in-Some.is ∙ c.front_place.ensures.place) in
    let shows = class-shown met c.index-classes-place.result c.peek_class-shown.ensures.asked c.peek_class-shown.ensures.at_hand c.peek_class-shown.ensures.not_lost in
    let offer = shown-len c.peek_class-shown.result.packet c.packet_len.result c.in-Some-packet_len.len c.packet_len.ensures.some c.in-Some-packet_len.is in (
      rounds-go-on met shows offer c.loop-place.invariant.3 (sym c.in-Granted.is ∙ c.turn_class.ensures.answer) c.turn_class.ensures.asks (λ none go. c.turn_class.ensures.goes c.in-Granted.is none go) c.saturating_sub-unasked.ensures,
      g.met.S.Sink.keeps_on c.args.sink.now c.loop-place.sink c.peek_class-shown.new.sink c.loop-place.invariant.1 c.peek_class-shown.ensures.kept,
      c.peek_class-shown.ensures.signals,
      round-goes-on met shows offer c.loop-place.invariant.3 (sym c.in-Granted.is ∙ c.turn_class.ensures.answer) c.turn_class.ensures.asks (λ none go. c.turn_class.ensures.goes c.in-Granted.is none go) c.saturating_sub-unasked.ensures,
    )

pub disciplines::drr::meet_class-returns-clause-kept : goal.disciplines::drr::meet_class-returns-clause-kept
disciplines::drr::meet_class-returns-clause-kept g t c = c.loop-place.invariant.1

pub disciplines::drr::meet_class-returns-clause-signals : goal.disciplines::drr::meet_class-returns-clause-signals
disciplines::drr::meet_class-returns-clause-signals g t c = sym (ap signals_of c.at_hand.ensures)

pub disciplines::drr::meet_class-returns-in_default-packet_len-clause-nothing : goal.disciplines::drr::meet_class-returns-in_default-packet_len-clause-nothing
disciplines::drr::meet_class-returns-in_default-packet_len-clause-nothing g t c = λ none.
    let met = front-met c.requires.ready c.loop-place.invariant.0 c.front_place.ensures.lawful c.in-Some.place (sym c.in-Some.is ∙ c.front_place.ensures.place) in
    let shows = class-shown met c.index-classes-place.result c.peek_class-shown.ensures.asked c.peek_class-shown.ensures.at_hand c.peek_class-shown.ensures.not_lost in
    class-unserved met shows (c.packet_len.ensures.none c.in_default-packet_len.is)

pub disciplines::drr::meet_class-returns-clause-nothing : goal.disciplines::drr::meet_class-returns-clause-nothing
disciplines::drr::meet_class-returns-clause-nothing g t c = λ none.
    idle-unserved c.requires.ready c.loop-place.invariant.0 c.front_place.ensures.lawful _ c.in_default.is c.front_place.ensures.found (ap (λ (s : Shown). s.packet) c.at_hand.ensures)
    (record { dropped = ap (λ (s : Shown). s.dropped) c.at_hand.ensures; marked = ap (λ (s : Shown). s.marked) c.at_hand.ensures })

pub disciplines::drr::meet_class-returns-in_default-packet_len-clause-met : goal.disciplines::drr::meet_class-returns-in_default-packet_len-clause-met
disciplines::drr::meet_class-returns-in_default-packet_len-clause-met g t c = λ p is. absurd (none-some p (sym (c.packet_len.ensures.none c.in_default-packet_len.is) ∙ is))

pub disciplines::drr::meet_class-returns-clause-met : goal.disciplines::drr::meet_class-returns-clause-met
disciplines::drr::meet_class-returns-clause-met g t c = λ p is. absurd (none-some p (sym (ap (λ (s : Shown). s.packet) c.at_hand.ensures) ∙ is))

pub disciplines::drr::meet_class-returns-in-Send-clause-nothing : goal.disciplines::drr::meet_class-returns-in-Send-clause-nothing
disciplines::drr::meet_class-returns-in-Send-clause-nothing g t c = λ none.
    let offer = shown-len c.peek_class-shown.result.packet c.packet_len.result c.in-Some-packet_len.len c.packet_len.ensures.some c.in-Some-packet_len.is in
    absurd (none-some offer.0 (sym none ∙ offer.1))

pub disciplines::drr::meet_class-returns-in-Send-clause-met : goal.disciplines::drr::meet_class-returns-in-Send-clause-met
disciplines::drr::meet_class-returns-in-Send-clause-met g t c = λ p is.
    let met = front-met c.requires.ready c.loop-place.invariant.0 c.front_place.ensures.lawful c.in-Some.place (sym c.in-Some.is ∙ c.front_place.ensures.place) in
    let shows = class-shown met c.index-classes-place.result c.peek_class-shown.ensures.asked c.peek_class-shown.ensures.at_hand c.peek_class-shown.ensures.not_lost in
    let offer = shown-len c.peek_class-shown.result.packet c.packet_len.result c.in-Some-packet_len.len c.packet_len.ensures.some c.in-Some-packet_len.is in
    class-sends met shows offer (sym c.in-Send.is ∙ c.turn_class.ensures.answer) (c.turn_class.ensures.sends c.in-Send.is)

pub disciplines::drr::peek_classes-bounds-classes-place : goal.disciplines::drr::peek_classes-bounds-classes-place
disciplines::drr::peek_classes-bounds-classes-place g t c =
    let there = some-there c.meet_class-shown.result.packet (sym c.has_packet.ensures ∙ c.if-has_packet.true) in
    let met = c.meet_class-shown.ensures.met there.0 there.1 in
    met.inside

pub disciplines::drr::peek_classes-hold-requires : goal.disciplines::drr::peek_classes-hold-requires
disciplines::drr::peek_classes-hold-requires g t c =
    let there = some-there c.meet_class-shown.result.packet (sym c.has_packet.ensures ∙ c.if-has_packet.true) in
    let met = c.meet_class-shown.ensures.met there.0 there.1 in
    let class : Node Kept = slice_index_or c.meet_class-shown.new.classes c.meet_class-shown.new.met c.index-classes-place.result in
    ap is_some (met.shown class (slice_get-get_or c.meet_class-shown.new.classes c.meet_class-shown.new.met c.index-classes-place.result met.inside) ∙ there.1)

pub disciplines::drr::peek_classes-returns-then-has_packet-clause-served : goal.disciplines::drr::peek_classes-returns-then-has_packet-clause-served
disciplines::drr::peek_classes-returns-then-has_packet-clause-served g t c = λ own.
    let there = some-there c.meet_class-shown.result.packet (sym c.has_packet.ensures ∙ c.if-has_packet.true) in
    let met = c.meet_class-shown.ensures.met there.0 there.1 in
    let given = λ (class : Node Kept) (at : slice_get c.meet_class-shown.new.classes c.meet_class-shown.new.met ≡ Some class). class-given c.meet_class-shown.new.classes c.meet_class-shown.new.met class c.index-classes-place.result c.hold.new.child c.index-classes-place-then-has_packet.result c.meet_class-shown.new.active c.settle.new.active c.is_empty.result
    at c.hold.ensures.after c.hold.ensures.arrived c.is_empty.ensures c.settle.ensures in
    met.served c.settle.new.active (set c.meet_class-shown.new.classes c.meet_class-shown.new.met c.hold.new.child) given own

pub disciplines::drr::peek_classes-returns-then-has_packet-clause-held : goal.disciplines::drr::peek_classes-returns-then-has_packet-clause-held
disciplines::drr::peek_classes-returns-then-has_packet-clause-held g t c = λ own.
    let there = some-there c.meet_class-shown.result.packet (sym c.has_packet.ensures ∙ c.if-has_packet.true) in
    let met = c.meet_class-shown.ensures.met there.0 there.1 in
    let class : Node Kept = slice_index_or c.meet_class-shown.new.classes c.meet_class-shown.new.met c.index-classes-place.result in
    let at = slice_get-get_or c.meet_class-shown.new.classes c.meet_class-shown.new.met c.index-classes-place.result met.inside in
    c.hold.ensures.held ∙ ap (λ (o : Option Descriptor). held_with o (unwrap_or (at_hand_since class) 0)) (met.shown class at)
    ∙ held-with c.meet_class-shown.result.packet (unwrap_or (at_hand_since class) 0) (ask_drr own (answers c.args.now c.args.classes.now) c.args.active.now).peeked.own.since (met.since class at own)

pub disciplines::drr::peek_classes-returns-else-has_packet-clause-served : goal.disciplines::drr::peek_classes-returns-else-has_packet-clause-served
disciplines::drr::peek_classes-returns-else-has_packet-clause-served g t c = λ own. (c.meet_class-shown.ensures.nothing (none-there c.meet_class-shown.result.packet (sym c.has_packet.ensures ∙ c.if-has_packet.false))).served own

pub disciplines::drr::peek_classes-returns-else-has_packet-clause-held : goal.disciplines::drr::peek_classes-returns-else-has_packet-clause-held
disciplines::drr::peek_classes-returns-else-has_packet-clause-held g t c = λ own.
    c.requires.none ∙ ap (λ (o : Option Descriptor). held_with o (ask_drr own (answers c.args.now c.args.classes.now) c.args.active.now).peeked.own.since) (sym (none-there c.meet_class-shown.result.packet (sym c.has_packet.ensures ∙ c.if-has_packet.false)))

pub node::Discipline::ask-peek_bands-requires : goal.node::Discipline::ask-peek_bands-requires
node::Discipline::ask-peek_bands-requires g t c κs within =
    let kids = c.deref_mut.ensures.value ∙ sym (ap children_seen c.in-Prio.is) in
    (omega (arith, ap (λ xs. forest_size (side_by_side xs)) kids, c.decreases), (within, record { ready = each-of c.args.now c.args.self.now c.deref_mut.result.now c.requires.asks.ready kids; sink = omega (arith, c.requires.asks.sink, room-of c.args.self.now c.deref_mut.result.now kids); clean = c.requires.asks.clean }))

pub node::Discipline::ask-returns-in-Prio-clause-after : goal.node::Discipline::ask-returns-in-Prio-clause-after
node::Discipline::ask-returns-in-Prio-clause-after g t c = λ handle filters.
    let kids = sym (c.deref_mut.ensures.value ∙ sym (ap children_seen c.in-Prio.is)) in
    let asked_bands = c.peek_bands.ensures.after (own_of handle filters (spec.Prio c.in-Prio.priomap)) in
    asked-in c.args.now handle filters c.args.self.now (code.Prio c.in-Prio.priomap (with_items c.in-Prio.bands c.peek_bands.new.bands)) (spec.Prio c.in-Prio.priomap) (spec.Prio c.in-Prio.priomap) c.deref_mut.result.now c.peek_bands.new.bands c.peek_bands.result
    (ap discipline_seen c.in-Prio.is) kids refl (items-are c.in-Prio.bands.items c.peek_bands.new.bands c.in-Prio.bands.len (sym c.in-Prio.bands.ok.0) (asked_bands.long ∙ ap (λ xs. length xs) c.deref_mut.ensures.value))
    (sym (ap places_seen c.in-Prio.is)) refl asked_bands

pub node::Discipline::ask-returns-in-Tbf-clause-after : goal.node::Discipline::ask-returns-in-Tbf-clause-after
node::Discipline::ask-returns-in-Tbf-clause-after g t c = λ handle filters.
    let own = own_of handle filters (spec.Tbf c.in-Tbf.bucket c.in-Tbf.limit) in
    let kids = ap children_seen c.in-Tbf.is ∙ ap (λ x. x ∷ []) (sym c.deref_mut-in-Tbf.ensures.value) in
    asked-in c.args.now handle filters c.args.self.now (code.Tbf c.peek_child.new.bucket c.in-Tbf.limit (with_value c.in-Tbf.child c.peek_child.new.child)) (spec.Tbf c.in-Tbf.bucket c.in-Tbf.limit) (spec.Tbf c.peek_child.new.bucket c.in-Tbf.limit) (c.deref_mut-in-Tbf.result.now ∷ []) (c.peek_child.new.child ∷ []) c.peek_child.result
    (ap discipline_seen c.in-Tbf.is) kids refl refl (sym (ap places_seen c.in-Tbf.is)) (c.peek_child.ensures.bucket own c.in-Tbf.limit refl) (c.peek_child.ensures.after own c.in-Tbf.limit)

pub node::Discipline::ask-returns-in-Tbf-clause-held : goal.node::Discipline::ask-returns-in-Tbf-clause-held
node::Discipline::ask-returns-in-Tbf-clause-held g t c = λ handle filters.
    let own = own_of handle filters (spec.Tbf c.in-Tbf.bucket c.in-Tbf.limit) in
    let kids = ap children_seen c.in-Tbf.is ∙ ap (λ x. x ∷ []) (sym c.deref_mut-in-Tbf.ensures.value) in
    held-of c.args.now handle filters c.args.self.now (spec.Tbf c.in-Tbf.bucket c.in-Tbf.limit) (c.deref_mut-in-Tbf.result.now ∷ []) c.peek_child.new.held c.peek_child.result.packet
    (ap discipline_seen c.in-Tbf.is) kids (c.peek_child.ensures.held own c.in-Tbf.limit)

pub node::Discipline::ask-peek_classes-requires : goal.node::Discipline::ask-peek_classes-requires
node::Discipline::ask-peek_classes-requires g t c κs within =
    let kids = c.deref_mut-in-Drr.ensures.value ∙ sym (ap children_seen c.in-Drr.is) in
    (omega (arith, ap (λ xs. forest_size (side_by_side xs)) kids, c.decreases), (within, (c.requires.none, record { ready = serve-of c.args.now c.args.self.now c.in-Drr.active c.deref_mut-in-Drr.result.now c.requires.asks.ready (ap discipline_seen c.in-Drr.is) kids; sink = omega (arith, c.requires.asks.sink, room-of c.args.self.now c.deref_mut-in-Drr.result.now kids); clean = c.requires.asks.clean })))

pub node::Discipline::ask-returns-in-Drr-clause-after : goal.node::Discipline::ask-returns-in-Drr-clause-after
node::Discipline::ask-returns-in-Drr-clause-after g t c = λ handle filters.
    let own = own_of handle filters (spec.Drr c.in-Drr.active) in
    let kids = sym (c.deref_mut-in-Drr.ensures.value ∙ sym (ap children_seen c.in-Drr.is)) in
    asked-in c.args.now handle filters c.args.self.now (code.Drr c.peek_classes.new.active (with_items c.in-Drr.classes c.peek_classes.new.classes)) (spec.Drr c.in-Drr.active) (spec.Drr c.peek_classes.new.active) c.deref_mut-in-Drr.result.now c.peek_classes.new.classes c.peek_classes.result
    (ap discipline_seen c.in-Drr.is) kids refl (items-are c.in-Drr.classes.items c.peek_classes.new.classes c.in-Drr.classes.len (sym c.in-Drr.classes.ok.0) ((c.peek_classes.ensures.served own).asked.long ∙ ap (λ xs. length xs) c.deref_mut-in-Drr.ensures.value))
    (sym (ap places_seen c.in-Drr.is)) (c.peek_classes.ensures.served own).schedule (c.peek_classes.ensures.served own).asked

pub node::Discipline::ask-returns-in-Drr-clause-held : goal.node::Discipline::ask-returns-in-Drr-clause-held
node::Discipline::ask-returns-in-Drr-clause-held g t c = λ handle filters.
    let own = own_of handle filters (spec.Drr c.in-Drr.active) in
    let kids = sym (c.deref_mut-in-Drr.ensures.value ∙ sym (ap children_seen c.in-Drr.is)) in
    held-of c.args.now handle filters c.args.self.now (spec.Drr c.in-Drr.active) c.deref_mut-in-Drr.result.now c.peek_classes.new.held c.peek_classes.result.packet
    (ap discipline_seen c.in-Drr.is) kids (c.peek_classes.ensures.held own)

pub node::Discipline::ask-peek_flow-requires : goal.node::Discipline::ask-peek_flow-requires
node::Discipline::ask-peek_flow-requires g t c =
    let is = ap discipline_seen c.in-FqCodel.is ∙ ap (λ (q : FqView). spec.FqCodel q.state) (sym c.deref_mut-in-FqCodel.ensures.value) in
    record { none = c.requires.none; sink = omega (arith, c.requires.asks.sink, own-room c.args.self.now, flow-packets c.args.self.now c.deref_mut-in-FqCodel.result.now.state is); clean = c.requires.asks.clean }

pub node::Discipline::ask-returns-in-FqCodel-clause-after : goal.node::Discipline::ask-returns-in-FqCodel-clause-after
node::Discipline::ask-returns-in-FqCodel-clause-after g t c = λ handle filters.
    let e = c.peek_flow.ensures in
    let state = c.deref_mut-in-FqCodel.result.now.state in
    let own = own_of handle filters (spec.FqCodel state) in
    let is = ap discipline_seen c.in-FqCodel.is ∙ ap (λ (q : FqView). spec.FqCodel q.state) (sym c.deref_mut-in-FqCodel.ensures.value) in
    let places = e.places ∙ ap (λ (q : FqView). q.places) c.deref_mut-in-FqCodel.ensures.value ∙ sym (ap places_seen c.in-FqCodel.is) in
    asked-in c.args.now handle filters c.args.self.now (code.FqCodel (with_value c.in-FqCodel.queue c.peek_flow.new.queue)) (spec.FqCodel state) (spec.FqCodel c.peek_flow.new.queue.state) [] [] c.peek_flow.result
    is (ap children_seen c.in-FqCodel.is) refl refl places (ap spec.FqCodel e.after)
    (record { long = refl; nodes = refl; within = λ t h. h; shown = e.shown own []; told = flow-told c.args.now state own [] (g.S.Sink.state c.args.sink.now) (g.S.Sink.state c.peek_flow.new.sink) e.told })

pub node::Discipline::ask-returns-in-FqCodel-clause-held : goal.node::Discipline::ask-returns-in-FqCodel-clause-held
node::Discipline::ask-returns-in-FqCodel-clause-held g t c = λ handle filters.
    let e = c.peek_flow.ensures in
    let state = c.deref_mut-in-FqCodel.result.now.state in
    let own = own_of handle filters (spec.FqCodel state) in
    let is = ap discipline_seen c.in-FqCodel.is ∙ ap (λ (q : FqView). spec.FqCodel q.state) (sym c.deref_mut-in-FqCodel.ensures.value) in
    let at = option_map_or (λ (s : Stamped). s.at) (head_sent c.args.now (selected state)) 0 in
    held-of c.args.now handle filters c.args.self.now (spec.FqCodel state) [] c.peek_flow.new.held c.peek_flow.result.packet is (ap children_seen c.in-FqCodel.is)
    (e.held ∙ held-with c.peek_flow.result.packet at (ask_fq_codel c.args.now own [] state).peeked.own.since (ap (λ (o : Option Descriptor). since_of o at) (e.shown own []).packet))

pub node::Node::peek-returns-then-is_some-clause-peeked : goal.node::Node::peek-returns-then-is_some-clause-peeked
node::Node::peek-returns-then-is_some-clause-peeked g t c = record {
  after = (let held = some-kept c.self.inside.held (c.if-is_some.ensures) in
      holding-after c.args.now c.self.inside c.args.self.now held.0 c.self.view_is held.1);
  arrived = search rules;
  shown = search rules;
  signals = search rules;
  told = search rules;
}

pub node::Node::peek-returns-in-Fifo-clause-peeked : goal.node::Node::peek-returns-in-Fifo-clause-peeked
node::Node::peek-returns-in-Fifo-clause-peeked g t c =
    let none = none-kept c.self.inside.held c.if-is_some.ensures in
    let dropped = ap (λ (s : Shown). s.dropped) c.at_hand-in-Fifo.ensures in
    let marked = ap (λ (s : Shown). s.marked) c.at_hand-in-Fifo.ensures in
    let asked = fifo-asked c.args.now c.self.inside.handle c.self.inside.filters c.self.inside.discipline c.in-Fifo.fifo.limit c.in-Fifo.fifo.packets c.at_hand-in-Fifo.result
    (ap discipline_seen c.in-Fifo.is) (ap children_seen c.in-Fifo.is) (ap (λ (s : Shown). s.packet) c.at_hand-in-Fifo.ensures ∙ c.first_packet.ensures) dropped marked in
    let can = can-book c.args.now c.self.inside c.args.self.now c.self.invariant c.self.view_is c.requires.ready none c.at_hand-in-Fifo.result asked.children.shown
    (omega (arith, c.self.ranges, c.fit.ensures.packets, c.fit.ensures.bytes)) (omega (arith, c.self.ranges, c.fit.ensures.packets, c.fit.ensures.bytes)) in
    record {
      after = fifo-peeked c.args.now c.self.inside c.args.self.now c.self.invariant c.self.view_is c.requires.ready none c.in-Fifo.fifo.limit c.in-Fifo.fifo.packets c.at_hand-in-Fifo.result
          (ap discipline_seen c.in-Fifo.is) asked can (shown-nothing c.at_hand-in-Fifo.result c.self.inside.row dropped marked);
      arrived = search rules;
      shown = shown-here c.args.now c.self.inside c.args.self.now c.self.invariant c.self.view_is c.requires.ready none c.at_hand-in-Fifo.result asked.children.shown;
      signals = c.requires.clean ∙ sym (ap signals_of c.at_hand-in-Fifo.ensures);
      told = told-here c.args.now c.self.inside c.args.self.now c.self.invariant c.self.view_is c.requires.ready none (g.S.Sink.state c.args.sink.now) (g.S.Sink.state c.args.sink.now)
          asked.children.told;
    }

pub node::Node::peek_further-ask-shown-requires : goal.node::Node::peek_further-ask-shown-requires
node::Node::peek_further-ask-shown-requires g t c κs within =
    let none = empty-held c.self.inside.held (ap (λ (n : Node Kept). n.own.held) c.self.view_is ∙ c.requires.none) in
    let can = can-in c.args.now c.self.inside c.args.self.now c.self.invariant c.self.view_is c.requires.asks.ready (omega (arith, c.self.ranges, c.fit.ensures.packets, c.fit.ensures.bytes)) (omega (arith, c.self.ranges, c.fit.ensures.packets, c.fit.ensures.bytes)) in
    let room = enough c.args.now c.self.inside c.args.self.now c.self.invariant c.self.view_is c.requires.asks.ready (g.S.Sink.state c.args.sink.now).room c.requires.asks.sink in
    (omega (arith, children-size c.self.inside c.args.self.now (children_seen c.self.inside.discipline) c.self.view_is refl, c.decreases), (within, (none, record { ready = can; sink = room; clean = c.requires.asks.clean })))

pub node::Node::peek_further-book_shown-requires-clause-room : goal.node::Node::peek_further-book_shown-requires-clause-room
node::Node::peek_further-book_shown-requires-clause-room g t c =
    let none = ap (λ (n : Node Kept). n.own.held) c.self.view_is ∙ c.requires.none in
    can-book c.args.now c.self.inside c.args.self.now c.self.invariant c.self.view_is c.requires.asks.ready none c.ask-shown.result (c.ask-shown.ensures.after c.self.inside.handle c.self.inside.filters).children.shown
    (omega (arith, c.self.ranges, c.fit.ensures.packets, c.fit.ensures.bytes)) (omega (arith, c.self.ranges, c.fit.ensures.packets, c.fit.ensures.bytes))

pub node::Node::peek_further-invariant_of-self : goal.node::Node::peek_further-invariant_of-self
node::Node::peek_further-invariant_of-self g t c =
    let none = ap (λ (n : Node Kept). n.own.held) c.self.view_is ∙ c.requires.none in
    let asked = c.ask-shown.ensures.after c.self.inside.handle c.self.inside.filters in
    let can = can-book c.args.now c.self.inside c.args.self.now c.self.invariant c.self.view_is c.requires.asks.ready none c.ask-shown.result asked.children.shown
    (omega (arith, c.self.ranges, c.fit.ensures.packets, c.fit.ensures.bytes)) (omega (arith, c.self.ranges, c.fit.ensures.packets, c.fit.ensures.bytes)) in
    let done = peeked-done c.args.now c.self.inside c.args.self.now c.self.invariant c.self.view_is c.requires.asks.ready none c.ask-shown.new.self c.ask-shown.result asked c.book_shown.new.row c.ask-shown.new.held can c.book_shown.ensures
    (c.ask-shown.ensures.held c.self.inside.handle c.self.inside.filters) in
    done.stays

pub node::Node::peek_further-returns-clause-peeked : goal.node::Node::peek_further-returns-clause-peeked
node::Node::peek_further-returns-clause-peeked g t c =
    let none = ap (λ (n : Node Kept). n.own.held) c.self.view_is ∙ c.requires.none in
    let asked = c.ask-shown.ensures.after c.self.inside.handle c.self.inside.filters in
    let can = can-book c.args.now c.self.inside c.args.self.now c.self.invariant c.self.view_is c.requires.asks.ready none c.ask-shown.result asked.children.shown
    (omega (arith, c.self.ranges, c.fit.ensures.packets, c.fit.ensures.bytes)) (omega (arith, c.self.ranges, c.fit.ensures.packets, c.fit.ensures.bytes)) in
    let done = peeked-done c.args.now c.self.inside c.args.self.now c.self.invariant c.self.view_is c.requires.asks.ready none c.ask-shown.new.self c.ask-shown.result asked c.book_shown.new.row c.ask-shown.new.held can c.book_shown.ensures
    (c.ask-shown.ensures.held c.self.inside.handle c.self.inside.filters) in
    record {
      after = done.after;
      arrived = search rules;
      shown = shown-here c.args.now c.self.inside c.args.self.now c.self.invariant c.self.view_is c.requires.asks.ready none c.ask-shown.result asked.children.shown;
      signals = search rules;
      told = told-here c.args.now c.self.inside c.args.self.now c.self.invariant c.self.view_is c.requires.asks.ready none (g.S.Sink.state c.args.sink.now) (g.S.Sink.state c.ask-shown.new.sink) asked.children.told;
    }

pub disciplines::prio::peek_bands-loop-place-init : goal.disciplines::prio::peek_bands-loop-place-init
disciplines::prio::peek_bands-loop-place-init g t c = (
  bands-start c.args.now c.args.bands.now c.at_hand-shown.result (record { dropped = ap (λ (s : Shown). s.dropped) c.at_hand-shown.ensures; marked = ap (λ (s : Shown). s.marked) c.at_hand-shown.ensures })
      (ap (λ (s : Shown). s.packet) c.at_hand-shown.ensures),
  told_nothing (g.S.Sink.state c.args.sink.now),
  g.met.S.Sink.keeps_same c.args.sink.now,
  c.requires.clean ∙ sym (ap signals_of c.at_hand-shown.ensures),
)

pub disciplines::prio::peek_bands-peek_after-shown-requires : goal.disciplines::prio::peek_bands-peek_after-shown-requires
disciplines::prio::peek_bands-peek_after-shown-requires g t c κs within =
    let band = slice_index_or c.loop-place.bands c.loop-place.place c.index-bands-place.result in
    let at = band-at c.args.now c.args.bands.now c.loop-place.bands c.loop-place.place c.loop-place.shown c.loop-place.invariant.0 c.index-bands-place.result c.loop-place-test.true in
    let once = band-once c.args.now c.args.bands.now c.loop-place.bands c.loop-place.place c.loop-place.shown c.requires.ready c.loop-place.invariant.0 band at (g.S.Sink.state c.args.sink.now) (g.S.Sink.state c.loop-place.sink)
    c.loop-place.invariant.1 c.requires.sink in
    (omega (arith, child-size c.args.bands.now c.loop-place.place band at, c.decreases), (within, (once, c.loop-place.invariant.3)))

pub disciplines::prio::peek_bands-returns-then-has_packet-clause-after : goal.disciplines::prio::peek_bands-returns-then-has_packet-clause-after
disciplines::prio::peek_bands-returns-then-has_packet-clause-after g t c = λ own.
    let band = slice_index_or c.loop-place.bands c.loop-place.place c.index-bands-place.result in
    let at = band-at c.args.now c.args.bands.now c.loop-place.bands c.loop-place.place c.loop-place.shown c.loop-place.invariant.0 c.index-bands-place.result c.loop-place-test.true in
    band-shown c.args.now c.args.bands.now c.loop-place.bands c.loop-place.place c.loop-place.shown c.requires.ready c.loop-place.invariant.0 band at c.peek_after-shown.new.self c.peek_after-shown.result c.peek_after-shown.ensures.asked (g.S.Sink.state c.args.sink.now) c.loop-place.invariant.1 (sym c.if-has_packet.ensures) own

pub disciplines::prio::peek_bands-returns-then-has_packet-clause-kept : goal.disciplines::prio::peek_bands-returns-then-has_packet-clause-kept
disciplines::prio::peek_bands-returns-then-has_packet-clause-kept g t c =
    g.met.S.Sink.keeps_on c.args.sink.now c.loop-place.sink c.peek_after-shown.new.sink c.loop-place.invariant.2 c.peek_after-shown.ensures.kept

pub disciplines::prio::peek_bands-loop-place-preserved : goal.disciplines::prio::peek_bands-loop-place-preserved
disciplines::prio::peek_bands-loop-place-preserved g t c =
    let band = slice_index_or c.loop-place.bands c.loop-place.place c.index-bands-place.result in
    let at = band-at c.args.now c.args.bands.now c.loop-place.bands c.loop-place.place c.loop-place.shown c.loop-place.invariant.0 c.index-bands-place.result c.loop-place-test.true in
    let goes = bands-go-on c.args.now c.args.bands.now c.loop-place.bands c.loop-place.place c.loop-place.shown c.requires.ready c.loop-place.invariant.0 band at c.peek_after-shown.new.self c.peek_after-shown.result c.peek_after-shown.ensures.asked
    (g.S.Sink.state c.args.sink.now) c.loop-place.invariant.1 (sym c.if-has_packet.ensures) in
    (goes.0, goes.1, g.met.S.Sink.keeps_on c.args.sink.now c.loop-place.sink c.peek_after-shown.new.sink c.loop-place.invariant.2 c.peek_after-shown.ensures.kept, c.peek_after-shown.ensures.signals)

pub disciplines::prio::peek_bands-returns-clause-after : goal.disciplines::prio::peek_bands-returns-clause-after
disciplines::prio::peek_bands-returns-clause-after g t c = λ own. bands-end c.args.now c.args.bands.now c.loop-place.bands c.loop-place.place c.loop-place.shown c.loop-place.invariant.0 c.loop-place-test.false c.loop-place.auto.place-end c.loop-place.invariant.1 own

pub disciplines::prio::peek_bands-returns-clause-kept : goal.disciplines::prio::peek_bands-returns-clause-kept
disciplines::prio::peek_bands-returns-clause-kept g t c = c.loop-place.invariant.2

use Rattle.std.proofs.Common.{◌∙◌, set, refl, sym, ap, ap₂}
use Rattle.std.specs.Prelude.{slice_index_or, unwrap_or}
use Rattle.std.proofs.lemmas.Option.{slice_get-get_or}
use Rattle.q_model.specs.Ask.{ask_prio}
use Rattle.q_tree.specs.departure.AskSteps.{answers, signals_of}
use Rattle.q_tree.specs.departure.Shown.{Shown}
use Rattle.q_tree.proofs.disciplines.AskBands.{band-at, band-once, bands-end, bands-go-on, bands-start}
use Rattle.q_codel.proofs.SinkLemmas.{told_nothing}
use Rattle.q_tree.proofs.departure.HeldLemmas.{some-there}
use Rattle.q_tree.proofs.disciplines.IdleBands.{band-idle}
use Rattle.q_tree.proofs.disciplines.SendBands.{asked-sent, band-gives, band-hands, band-inside}
use Rattle.q_tree.proofs.disciplines.prio.dequeue_bands.Goals as goal

pub loop-place-init : goal.loop-place-init
loop-place-init g c = (
  bands-start c.args.now c.args.bands.now c.at_hand-shown.result
      (record { dropped = ap (λ (s : Shown). s.dropped) c.at_hand-shown.ensures; marked = ap (λ (s : Shown). s.marked) c.at_hand-shown.ensures })
      (ap (λ (s : Shown). s.packet) c.at_hand-shown.ensures),
  told_nothing (g.S.Sink.state c.args.sink.now),
  g.met.S.Sink.keeps_same c.args.sink.now,
  c.requires.clean ∙ sym (ap signals_of c.at_hand-shown.ensures),
  refl,
)

-- a fifo that has nothing is passed over
pub loop-place-preserved-then-is_an_empty_fifo : goal.loop-place-preserved-then-is_an_empty_fifo
loop-place-preserved-then-is_an_empty_fifo g c =
    let band = slice_index_or c.loop-place.bands c.loop-place.place c.index-bands-place.result in
    let at = band-at c.args.now c.args.bands.now c.loop-place.bands c.loop-place.place c.loop-place.shown c.loop-place.invariant.0 c.index-bands-place.result c.loop-place-test.true in
    let passed =
    band-idle c.args.now c.args.bands.now c.loop-place.bands c.loop-place.place c.loop-place.shown c.requires.ready c.loop-place.invariant.0 band
    at (c.is_an_empty_fifo.ensures.means c.if-is_an_empty_fifo.true)
    (g.S.Sink.state c.args.sink.now) (g.S.Sink.state c.loop-place.sink) c.loop-place.invariant.1 in
    (passed.0, passed.1, c.loop-place.invariant.2, c.loop-place.invariant.3, c.loop-place.invariant.4)

pub peek_after-shown-requires-clause-ready : goal.peek_after-shown-requires-clause-ready
peek_after-shown-requires-clause-ready g c =
    let band = slice_index_or c.loop-place.bands c.loop-place.place c.index-bands-place-in-loop-place.result in
    let at = band-at c.args.now c.args.bands.now c.loop-place.bands c.loop-place.place c.loop-place.shown c.loop-place.invariant.0 c.index-bands-place-in-loop-place.result c.loop-place-test.true in
    band-once c.args.now c.args.bands.now c.loop-place.bands c.loop-place.place c.loop-place.shown c.requires.ready c.loop-place.invariant.0 band at
    (g.S.Sink.state c.args.sink.now) (g.S.Sink.state c.loop-place.sink)
    c.loop-place.invariant.1 c.requires.sink

pub bounds-bands-place-then-has_packet : goal.bounds-bands-place-then-has_packet
bounds-bands-place-then-has_packet g c =
    let band = slice_index_or c.loop-place.bands c.loop-place.place c.index-bands-place-in-loop-place.result in
    let at = band-at c.args.now c.args.bands.now c.loop-place.bands c.loop-place.place c.loop-place.shown c.loop-place.invariant.0 c.index-bands-place-in-loop-place.result c.loop-place-test.true in
    let some = some-there c.peek_after-shown.result.packet (sym c.if-has_packet.ensures) in
    band-inside c.args.now c.args.bands.now c.loop-place.bands c.loop-place.place c.loop-place.shown c.requires.ready c.loop-place.invariant.0 band
    at c.peek_after-shown.new.self c.peek_after-shown.result c.peek_after-shown.ensures.asked some.0 some.1

pub returns-then-has_packet-clause-after : goal.returns-then-has_packet-clause-after
returns-then-has_packet-clause-after g c = λ own.
    let band = slice_index_or c.loop-place.bands c.loop-place.place c.index-bands-place-in-loop-place.result in
    let at = band-at c.args.now c.args.bands.now c.loop-place.bands c.loop-place.place c.loop-place.shown c.loop-place.invariant.0 c.index-bands-place-in-loop-place.result c.loop-place-test.true in
    let some = some-there c.peek_after-shown.result.packet (sym c.if-has_packet.ensures) in
    let two = set c.loop-place.bands c.loop-place.place c.peek_after-shown.new.self in
    let there =
    slice_get-get_or two c.loop-place.place c.index-bands-place-then-has_packet.result
    (band-inside c.args.now c.args.bands.now c.loop-place.bands c.loop-place.place c.loop-place.shown c.requires.ready c.loop-place.invariant.0
    band at c.peek_after-shown.new.self c.peek_after-shown.result c.peek_after-shown.ensures.asked some.0 some.1) in
    let given = slice_index_or two c.loop-place.place c.index-bands-place-then-has_packet.result in
    band-gives c.args.now c.args.bands.now c.loop-place.bands c.loop-place.place c.loop-place.shown c.requires.ready c.loop-place.invariant.0 band at
    c.peek_after-shown.new.self c.peek_after-shown.result c.peek_after-shown.ensures.asked some.0 some.1 given c.dequeue_at_hand.new.self there
    c.dequeue_at_hand.ensures.after c.dequeue_at_hand.ensures.arrived (g.S.Sink.state c.args.sink.now) c.loop-place.invariant.1 own

pub returns-then-has_packet-clause-packet : goal.returns-then-has_packet-clause-packet
returns-then-has_packet-clause-packet g c =
    let band = slice_index_or c.loop-place.bands c.loop-place.place c.index-bands-place-in-loop-place.result in
    let at = band-at c.args.now c.args.bands.now c.loop-place.bands c.loop-place.place c.loop-place.shown c.loop-place.invariant.0 c.index-bands-place-in-loop-place.result c.loop-place-test.true in
    let some = some-there c.peek_after-shown.result.packet (sym c.if-has_packet.ensures) in
    let two = set c.loop-place.bands c.loop-place.place c.peek_after-shown.new.self in
    let there =
    slice_get-get_or two c.loop-place.place c.index-bands-place-then-has_packet.result
    (band-inside c.args.now c.args.bands.now c.loop-place.bands c.loop-place.place c.loop-place.shown c.requires.ready c.loop-place.invariant.0
    band at c.peek_after-shown.new.self c.peek_after-shown.result c.peek_after-shown.ensures.asked some.0 some.1) in
    let given = slice_index_or two c.loop-place.place c.index-bands-place-then-has_packet.result in
    c.dequeue_at_hand.ensures.packet ∙ ap₂ unwrap_or
    (band-hands c.args.now c.args.bands.now c.loop-place.bands c.loop-place.place c.loop-place.shown c.requires.ready c.loop-place.invariant.0
    band at c.peek_after-shown.new.self c.peek_after-shown.result c.peek_after-shown.ensures.asked some.0 some.1 given there)
    c.loop-place.invariant.4

pub returns-then-has_packet-clause-kept : goal.returns-then-has_packet-clause-kept
returns-then-has_packet-clause-kept g c =
    g.met.S.Sink.keeps_on c.args.sink.now c.loop-place.sink c.peek_after-shown.new.sink c.loop-place.invariant.2 c.peek_after-shown.ensures.kept

pub loop-place-preserved : goal.loop-place-preserved
loop-place-preserved g c =
    let band = slice_index_or c.loop-place.bands c.loop-place.place c.index-bands-place-in-loop-place.result in
    let at = band-at c.args.now c.args.bands.now c.loop-place.bands c.loop-place.place c.loop-place.shown c.loop-place.invariant.0 c.index-bands-place-in-loop-place.result c.loop-place-test.true in
    let goes =
    bands-go-on c.args.now c.args.bands.now c.loop-place.bands c.loop-place.place c.loop-place.shown c.requires.ready c.loop-place.invariant.0
    band at c.peek_after-shown.new.self c.peek_after-shown.result c.peek_after-shown.ensures.asked
    (g.S.Sink.state c.args.sink.now) c.loop-place.invariant.1 (sym c.if-has_packet.ensures) in (
      goes.0,
      goes.1,
      g.met.S.Sink.keeps_on c.args.sink.now c.loop-place.sink c.peek_after-shown.new.sink c.loop-place.invariant.2 c.peek_after-shown.ensures.kept,
      c.peek_after-shown.ensures.signals,
      c.loop-place.invariant.4,
    )

pub returns-clause-after : goal.returns-clause-after
returns-clause-after g c = λ own.
    let asked = bands-end c.args.now c.args.bands.now c.loop-place.bands c.loop-place.place c.loop-place.shown c.loop-place.invariant.0 c.loop-place-test.false c.loop-place.auto.place-end c.loop-place.invariant.1 own in
    asked-sent (ask_prio own (answers c.args.now c.args.bands.now)) c.args.bands.now c.loop-place.bands c.loop-place.shown (sym asked.shown.packet ∙ c.loop-place.invariant.0.nothing) asked

pub returns-clause-packet : goal.returns-clause-packet
returns-clause-packet g c = c.loop-place.invariant.4 ∙ ap (λ o. unwrap_or o c.args.out.now) (sym c.loop-place.invariant.0.nothing)

pub returns-clause-kept : goal.returns-clause-kept
returns-clause-kept g c = c.loop-place.invariant.2

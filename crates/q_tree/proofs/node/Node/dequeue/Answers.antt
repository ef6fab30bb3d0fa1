use Rattle.std.proofs.Common.{◌≡◌, ◌∙◌, sym, ap, arith, Option, None, rules}
use Rattle.std.specs.Prelude.{unwrap_or}
use Rattle.q_packet.specs.declared.stamped.Stamped.{Stamped}
use Rattle.q_model.specs.declared.row.Row.{Row}
use Rattle.q_model.specs.declared.totals.Totals.{Totals}
use Rattle.q_model.specs.Pop.{pop}
use Rattle.q_model.specs.Work.{booked}
use Rattle.q_tree.specs.departure.Holding.{packet_held}
use Rattle.q_tree.specs.departure.Shown.{Shown}
use Rattle.q_tree.specs.Kept.{kept}
use Rattle.q_tree.specs.Seen.{seen}
use Rattle.q_tree.proofs.departure.HeldLemmas.{none-kept}
use Rattle.q_tree.proofs.departure.Peeks.{holding-after, can-book, can-in, enough, shown-here, told-here}
use Rattle.q_tree.proofs.departure.PopLemmas.{held-after}
use Rattle.q_tree.proofs.departure.SendForms.{held-answer, held-shows, none-sent, sent-row, sent-queued, one-sent}
use Rattle.q_tree.proofs.departure.SendLemmas.{given-some, gave-asked}
use Rattle.q_tree.proofs.disciplines.AtHandLemmas.{none-held}
use Rattle.q_tree.proofs.node.Node.dequeue.Goals as goal

pub returns-then-is_some-clause-dequeued : goal.returns-then-is_some-clause-dequeued
returns-then-is_some-clause-dequeued g c =
    let held = sym c.release.ensures.packet in
    let stays = holding-after c.args.now c.self.inside c.args.self.now c.release.new.out c.self.view_is held in
    record {
      after = ap (λ (h : Option Stamped). seen (record c.self.inside { held = h; row = c.book_sent.new.row })) c.release.ensures.none
          ∙ held-after c.self.inside c.release.new.out held c.book_sent.new.row c.book_sent.ensures ∙ ap (λ n. booked kept n (pop n).after) c.self.view_is
          ∙ gave-asked c.args.now c.args.self.now c.args.self.now c.release.new.out c.requires.ready stays
          (held-answer c.args.now c.self.inside c.args.self.now c.release.new.out c.self.view_is held).packet;
      arrived = search rules;
      shown = held-shows c.args.now c.self.inside c.args.self.now c.release.new.out c.self.view_is held c.sending.result c.sending.ensures;
      packet = ap (λ (s : Shown). unwrap_or s.packet c.args.out.now) (sym c.sending.ensures);
      signals = search rules;
      told = search rules;
    }

pub dequeue-shown-requires : goal.dequeue-shown-requires
dequeue-shown-requires g c = record {
  ready =
      can-in c.args.now c.self.inside c.args.self.now c.self.invariant c.self.view_is c.requires.ready
      (omega (arith, c.self.ranges, c.fit.ensures.packets, c.fit.ensures.bytes))
      (omega (arith, c.self.ranges, c.fit.ensures.packets, c.fit.ensures.bytes));
  sink = enough c.args.now c.self.inside c.args.self.now c.self.invariant c.self.view_is c.requires.ready (g.S.Sink.state c.args.sink.now).room c.requires.sink;
  clean = c.requires.clean;
}

pub book_shown-requires-clause-room : goal.book_shown-requires-clause-room
book_shown-requires-clause-room g c =
    let none : packet_held c.self.inside.held ≡ None = none-kept c.self.inside.held c.if-is_some.ensures in
    let sent = c.dequeue-shown.ensures.after c.self.inside.handle c.self.inside.filters in
    can-book c.args.now c.self.inside c.args.self.now c.self.invariant c.self.view_is c.requires.ready none c.dequeue-shown.result sent.children.shown
    (omega (arith, c.self.ranges, c.fit.ensures.packets, c.fit.ensures.bytes)) (omega (arith, c.self.ranges, c.fit.ensures.packets, c.fit.ensures.bytes))

pub invariant_of-self-then-not-has_packet : goal.invariant_of-self-then-not-has_packet
invariant_of-self-then-not-has_packet g c =
    let none : packet_held c.self.inside.held ≡ None = none-kept c.self.inside.held c.if-is_some.ensures in
    let sent = c.dequeue-shown.ensures.after c.self.inside.handle c.self.inside.filters in
    let can = can-book c.args.now c.self.inside c.args.self.now c.self.invariant c.self.view_is c.requires.ready none c.dequeue-shown.result sent.children.shown
    (omega (arith, c.self.ranges, c.fit.ensures.packets, c.fit.ensures.bytes)) (omega (arith, c.self.ranges, c.fit.ensures.packets, c.fit.ensures.bytes)) in
    let empty = none-held c.dequeue-shown.result.packet (sym c.if-not-has_packet.true ∙ c.has_packet.ensures) in
    (none-sent c.args.now c.self.inside c.args.self.now c.self.invariant c.self.view_is c.requires.ready none c.dequeue-shown.new.self
    c.dequeue-shown.result sent c.book_shown.new.row can c.book_shown.ensures empty).stays

pub returns-then-not-has_packet-clause-dequeued : goal.returns-then-not-has_packet-clause-dequeued
returns-then-not-has_packet-clause-dequeued g c =
    let none : packet_held c.self.inside.held ≡ None = none-kept c.self.inside.held c.if-is_some.ensures in
    let sent = c.dequeue-shown.ensures.after c.self.inside.handle c.self.inside.filters in
    let can = can-book c.args.now c.self.inside c.args.self.now c.self.invariant c.self.view_is c.requires.ready none c.dequeue-shown.result sent.children.shown
    (omega (arith, c.self.ranges, c.fit.ensures.packets, c.fit.ensures.bytes)) (omega (arith, c.self.ranges, c.fit.ensures.packets, c.fit.ensures.bytes)) in
    let empty = none-held c.dequeue-shown.result.packet (sym c.if-not-has_packet.true ∙ c.has_packet.ensures) in
    record {
      after =
          (none-sent c.args.now c.self.inside c.args.self.now c.self.invariant c.self.view_is c.requires.ready none c.dequeue-shown.new.self
          c.dequeue-shown.result sent c.book_shown.new.row can c.book_shown.ensures empty).after;
      arrived = search rules;
      shown = shown-here c.args.now c.self.inside c.args.self.now c.self.invariant c.self.view_is c.requires.ready none c.dequeue-shown.result sent.children.shown;
      packet = search rules;
      signals = search rules;
      told =
          told-here c.args.now c.self.inside c.args.self.now c.self.invariant c.self.view_is c.requires.ready none (g.S.Sink.state c.args.sink.now) (g.S.Sink.state c.dequeue-shown.new.sink) sent.children.told;
    }

pub returns-clause-dequeued : goal.returns-clause-dequeued
returns-clause-dequeued g c =
    let none : packet_held c.self.inside.held ≡ None = none-kept c.self.inside.held c.if-is_some.ensures in
    let sent = c.dequeue-shown.ensures.after c.self.inside.handle c.self.inside.filters in
    let can = can-book c.args.now c.self.inside c.args.self.now c.self.invariant c.self.view_is c.requires.ready none c.dequeue-shown.result sent.children.shown
    (omega (arith, c.self.ranges, c.fit.ensures.packets, c.fit.ensures.bytes)) (omega (arith, c.self.ranges, c.fit.ensures.packets, c.fit.ensures.bytes)) in
    let some = given-some c.dequeue-shown.result.packet c.args.out.now c.dequeue-shown.new.out (sym c.has_packet.ensures ∙ c.if-not-has_packet.false) c.dequeue-shown.ensures.packet in
    record {
      after =
          (one-sent c.args.now c.self.inside c.args.self.now c.self.invariant c.self.view_is c.requires.ready none c.dequeue-shown.new.self
          c.dequeue-shown.result sent c.book_shown.new.row can c.book_shown.ensures c.dequeue-shown.new.out some c.book_sent-2.new.row
          c.book_sent-2.ensures).after;
      arrived = search rules;
      shown = shown-here c.args.now c.self.inside c.args.self.now c.self.invariant c.self.view_is c.requires.ready none c.dequeue-shown.result sent.children.shown;
      packet = search rules;
      signals = search rules;
      told =
          told-here c.args.now c.self.inside c.args.self.now c.self.invariant c.self.view_is c.requires.ready none (g.S.Sink.state c.args.sink.now) (g.S.Sink.state c.dequeue-shown.new.sink) sent.children.told;
    }

pub book_sent-requires-2-clause-balanced : goal.book_sent-requires-2-clause-balanced
book_sent-requires-2-clause-balanced g c =
    let none : packet_held c.self.inside.held ≡ None = none-kept c.self.inside.held c.if-is_some.ensures in
    let sent = c.dequeue-shown.ensures.after c.self.inside.handle c.self.inside.filters in
    let can = can-book c.args.now c.self.inside c.args.self.now c.self.invariant c.self.view_is c.requires.ready none c.dequeue-shown.result sent.children.shown
    (omega (arith, c.self.ranges, c.fit.ensures.packets, c.fit.ensures.bytes)) (omega (arith, c.self.ranges, c.fit.ensures.packets, c.fit.ensures.bytes)) in
    let some = given-some c.dequeue-shown.result.packet c.args.out.now c.dequeue-shown.new.out (sym c.has_packet.ensures ∙ c.if-not-has_packet.false) c.dequeue-shown.ensures.packet in
    (sent-row c.args.now c.self.inside c.args.self.now c.self.invariant c.self.view_is c.requires.ready none c.dequeue-shown.new.self
    c.dequeue-shown.result sent c.book_shown.new.row can c.book_shown.ensures c.dequeue-shown.new.out some).balanced

pub book_sent-requires-2-clause-among : goal.book_sent-requires-2-clause-among
book_sent-requires-2-clause-among g c =
    let none : packet_held c.self.inside.held ≡ None = none-kept c.self.inside.held c.if-is_some.ensures in
    let sent = c.dequeue-shown.ensures.after c.self.inside.handle c.self.inside.filters in
    let can = can-book c.args.now c.self.inside c.args.self.now c.self.invariant c.self.view_is c.requires.ready none c.dequeue-shown.result sent.children.shown
    (omega (arith, c.self.ranges, c.fit.ensures.packets, c.fit.ensures.bytes)) (omega (arith, c.self.ranges, c.fit.ensures.packets, c.fit.ensures.bytes)) in
    let some = given-some c.dequeue-shown.result.packet c.args.out.now c.dequeue-shown.new.out (sym c.has_packet.ensures ∙ c.if-not-has_packet.false) c.dequeue-shown.ensures.packet in
    sent-queued c.args.now c.self.inside c.args.self.now c.self.invariant c.self.view_is c.requires.ready none c.dequeue-shown.new.self
    c.dequeue-shown.result sent c.book_shown.new.row can c.book_shown.ensures c.dequeue-shown.new.out some

pub book_sent-requires-2-clause-room : goal.book_sent-requires-2-clause-room
book_sent-requires-2-clause-room g c =
    let none : packet_held c.self.inside.held ≡ None = none-kept c.self.inside.held c.if-is_some.ensures in
    let sent = c.dequeue-shown.ensures.after c.self.inside.handle c.self.inside.filters in
    let can = can-book c.args.now c.self.inside c.args.self.now c.self.invariant c.self.view_is c.requires.ready none c.dequeue-shown.result sent.children.shown
    (omega (arith, c.self.ranges, c.fit.ensures.packets, c.fit.ensures.bytes)) (omega (arith, c.self.ranges, c.fit.ensures.packets, c.fit.ensures.bytes)) in
    let some = given-some c.dequeue-shown.result.packet c.args.out.now c.dequeue-shown.new.out (sym c.has_packet.ensures ∙ c.if-not-has_packet.false) c.dequeue-shown.ensures.packet in
    let row =
    sent-row c.args.now c.self.inside c.args.self.now c.self.invariant c.self.view_is c.requires.ready none c.dequeue-shown.new.self
    c.dequeue-shown.result sent c.book_shown.new.row can c.book_shown.ensures c.dequeue-shown.new.out some in
    let had =
    sent-queued c.args.now c.self.inside c.args.self.now c.self.invariant c.self.view_is c.requires.ready none c.dequeue-shown.new.self
    c.dequeue-shown.result sent c.book_shown.new.row can c.book_shown.ensures c.dequeue-shown.new.out some in
    let same = ap (λ (r : Row). r.arrived) c.book_shown.ensures in
    record {
      packets = omega (arith, row.balanced.packets, had.packets, ap (λ (t : Totals). t.packets) same, c.self.ranges, c.fit.ensures.packets, c.fit.ensures.bytes);
      bytes = omega (arith, row.balanced.bytes, had.bytes, ap (λ (t : Totals). t.bytes) same, c.self.ranges, c.fit.ensures.packets, c.fit.ensures.bytes);
    }

pub invariant_of-self-2 : goal.invariant_of-self-2
invariant_of-self-2 g c =
    let none : packet_held c.self.inside.held ≡ None = none-kept c.self.inside.held c.if-is_some.ensures in
    let sent = c.dequeue-shown.ensures.after c.self.inside.handle c.self.inside.filters in
    let can = can-book c.args.now c.self.inside c.args.self.now c.self.invariant c.self.view_is c.requires.ready none c.dequeue-shown.result sent.children.shown
    (omega (arith, c.self.ranges, c.fit.ensures.packets, c.fit.ensures.bytes)) (omega (arith, c.self.ranges, c.fit.ensures.packets, c.fit.ensures.bytes)) in
    let some = given-some c.dequeue-shown.result.packet c.args.out.now c.dequeue-shown.new.out (sym c.has_packet.ensures ∙ c.if-not-has_packet.false) c.dequeue-shown.ensures.packet in
    (one-sent c.args.now c.self.inside c.args.self.now c.self.invariant c.self.view_is c.requires.ready none c.dequeue-shown.new.self
    c.dequeue-shown.result sent c.book_shown.new.row can c.book_shown.ensures c.dequeue-shown.new.out some c.book_sent-2.new.row
    c.book_sent-2.ensures).stays

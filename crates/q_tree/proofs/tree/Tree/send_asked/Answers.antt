use Rattle.std.proofs.Common.{◌∙◌, ◌≤◌, ◌^◌, refl, sym, ap, arith, rules, subst}
use Rattle.std.specs.Prelude.{is_some, unwrap_or}
use Rattle.q_model.specs.declared.row.Row.{Row}
use Rattle.q_model.specs.declared.totals.Totals.{Totals}
use Rattle.q_model.specs.Ask.{ask}
use Rattle.q_model.specs.Node.{shape}
use Rattle.q_model.specs.Step.{DeviceState}
use Rattle.q_model.specs.TreeState.{given, noted_by_take, take_packet}
use Rattle.q_model.specs.Work.{booked}
use Rattle.q_tree.specs.departure.AskSteps.{IsToldOf}
use Rattle.q_tree.specs.Kept.{Kept, kept}
use Rattle.q_tree.proofs.commands.TreeIndex.{peeked-form, still-indexed}
use Rattle.q_tree.proofs.departure.SendLemmas.{given-some, root-still, asked-row, sent-among, sent-form, sent-tree, sent-kept}
use Rattle.q_tree.proofs.disciplines.AtHandLemmas.{none-held}
use Rattle.q_tree.proofs.tree.Tree.send_asked.Goals as goal
use Rattle.q_tree.proofs.TreeLemmas.{top-row, can-ask-root, can-book-top, none-taken, none-kept}

pub dequeue-shown-requires : goal.dequeue-shown-requires
dequeue-shown-requires g c =
    let e = ap (λ (d : DeviceState Kept). d.clock) c.self.view_is in
    record { ready = can-ask-root c.self.inside c.self.invariant.device c.args.now (omega (arith, e, c.requires.order)) (omega (arith, c.ns.ensures.in_range, c.ns.ensures.value)); sink = search rules; clean = search rules }

pub book_shown-requires-clause-balanced : goal.book_shown-requires-clause-balanced
book_shown-requires-clause-balanced g c =
    (top-row c.self.inside c.self.invariant.device).balanced

pub book_shown-requires-clause-room : goal.book_shown-requires-clause-room
book_shown-requires-clause-room g c =
    let e = ap (λ (d : DeviceState Kept). d.clock) c.self.view_is in
    let later : c.self.inside.clock ≤ c.args.now = omega (arith, e, c.requires.order) in
    let low : c.args.now ≤ 2 ^ 62 = omega (arith, c.ns.ensures.in_range, c.ns.ensures.value) in
    let shown = c.dequeue-shown.ensures.dequeued.shown in
    can-book-top c.self.inside c.self.invariant.device c.args.now later low c.dequeue-shown.result shown
    (booked kept c.self.inside.root (ask c.args.now (shape c.self.inside.root)).peeked) refl
    (omega (arith, c.self.ranges, c.fit.ensures.packets, c.fit.ensures.bytes))
    (omega (arith, c.self.ranges, c.fit.ensures.packets, c.fit.ensures.bytes))

pub invariant_of-self : goal.invariant_of-self
invariant_of-self g c =
    let e = ap (λ (d : DeviceState Kept). d.clock) c.self.view_is in
    let later : c.self.inside.clock ≤ c.args.now = omega (arith, e, c.requires.order) in
    let low : c.args.now ≤ 2 ^ 62 = omega (arith, c.ns.ensures.in_range, c.ns.ensures.value) in
    let shown = c.dequeue-shown.ensures.dequeued.shown in
    still-indexed c.self.inside (record c.self.inside { clock = c.args.now; top = c.book_shown.new.row; root = c.dequeue-shown.new.self }) c.self.invariant
    (none-kept c.self.inside c.self.invariant.device c.args.now later low c.dequeue-shown.result shown c.dequeue-shown.new.self
    (root-still c.self.inside c.self.invariant.device c.args.now later low c.dequeue-shown.result shown c.dequeue-shown.new.self
    c.dequeue-shown.ensures.dequeued.after (none-held c.dequeue-shown.result.packet (sym c.if-not-has_packet.true ∙ c.has_packet.ensures)))
    (can-book-top c.self.inside c.self.invariant.device c.args.now later low c.dequeue-shown.result shown
    (booked kept c.self.inside.root (ask c.args.now (shape c.self.inside.root)).peeked) refl
    (omega (arith, c.self.ranges, c.fit.ensures.packets, c.fit.ensures.bytes))
    (omega (arith, c.self.ranges, c.fit.ensures.packets, c.fit.ensures.bytes))) c.book_shown.new.row c.book_shown.ensures
    (none-held c.dequeue-shown.result.packet (sym c.if-not-has_packet.true ∙ c.has_packet.ensures))
    (record c.self.inside { clock = c.args.now; top = c.book_shown.new.row; root = c.dequeue-shown.new.self }) refl
    c.dequeue-shown.ensures.dequeued.arrived)
    refl (peeked-form c.args.now c.self.inside.root c.dequeue-shown.new.self
    (can-ask-root c.self.inside c.self.invariant.device c.args.now later low)
    (root-still c.self.inside c.self.invariant.device c.args.now later low c.dequeue-shown.result shown c.dequeue-shown.new.self
    c.dequeue-shown.ensures.dequeued.after (none-held c.dequeue-shown.result.packet (sym c.if-not-has_packet.true ∙ c.has_packet.ensures))))

pub returns-then-not-has_packet-clause-sent : goal.returns-then-not-has_packet-clause-sent
returns-then-not-has_packet-clause-sent g c =
    let e = ap (λ (d : DeviceState Kept). d.clock) c.self.view_is in
    let later : c.self.inside.clock ≤ c.args.now = omega (arith, e, c.requires.order) in
    let low : c.args.now ≤ 2 ^ 62 = omega (arith, c.ns.ensures.in_range, c.ns.ensures.value) in
    let shown = c.dequeue-shown.ensures.dequeued.shown in
    record {
      some = sym (ap is_some (sym (ap (λ (d : DeviceState Kept). given c.args.now d.tree) c.self.view_is) ∙ sym shown.packet
          ∙ (none-held c.dequeue-shown.result.packet (sym c.if-not-has_packet.true ∙ c.has_packet.ensures))));
      packet = c.dequeue-shown.ensures.dequeued.packet ∙ ap (λ o. unwrap_or o c.args.out.now) (shown.packet ∙ ap (λ (d : DeviceState Kept). given c.args.now d.tree) c.self.view_is);
      after =
          none-taken c.self.inside c.self.invariant.device c.args.now later low c.dequeue-shown.result shown c.dequeue-shown.new.self
          (root-still c.self.inside c.self.invariant.device c.args.now later low c.dequeue-shown.result shown c.dequeue-shown.new.self
          c.dequeue-shown.ensures.dequeued.after (none-held c.dequeue-shown.result.packet (sym c.if-not-has_packet.true ∙ c.has_packet.ensures)))
          (can-book-top c.self.inside c.self.invariant.device c.args.now later low c.dequeue-shown.result shown
          (booked kept c.self.inside.root (ask c.args.now (shape c.self.inside.root)).peeked) refl
          (omega (arith, c.self.ranges, c.fit.ensures.packets, c.fit.ensures.bytes))
          (omega (arith, c.self.ranges, c.fit.ensures.packets, c.fit.ensures.bytes))) c.book_shown.new.row c.book_shown.ensures
          (none-held c.dequeue-shown.result.packet (sym c.if-not-has_packet.true ∙ c.has_packet.ensures))
          (record c.self.inside { clock = c.args.now; top = c.book_shown.new.row; root = c.dequeue-shown.new.self }) refl
          ∙ ap (λ (d : DeviceState Kept). record { clock = c.args.now; tree = take_packet kept c.args.now d.tree }) c.self.view_is;
      lost = subst (λ (d : DeviceState Kept). IsToldOf (noted_by_take c.args.now d.tree) (g.S.Sink.state c.args.sink.now) (g.S.Sink.state c.dequeue-shown.new.sink)) c.self.view_is c.dequeue-shown.ensures.dequeued.told;
    }

pub book_sent-requires-clause-balanced : goal.book_sent-requires-clause-balanced
book_sent-requires-clause-balanced g c =
    let e = ap (λ (d : DeviceState Kept). d.clock) c.self.view_is in
    let later : c.self.inside.clock ≤ c.args.now = omega (arith, e, c.requires.order) in
    let low : c.args.now ≤ 2 ^ 62 = omega (arith, c.ns.ensures.in_range, c.ns.ensures.value) in
    let shown = c.dequeue-shown.ensures.dequeued.shown in
    (asked-row c.self.inside c.self.invariant.device c.args.now later low c.dequeue-shown.result shown c.dequeue-shown.new.self
    c.dequeue-shown.ensures.dequeued.after (can-book-top c.self.inside c.self.invariant.device c.args.now later low c.dequeue-shown.result shown
    (booked kept c.self.inside.root (ask c.args.now (shape c.self.inside.root)).peeked) refl
    (omega (arith, c.self.ranges, c.fit.ensures.packets, c.fit.ensures.bytes))
    (omega (arith, c.self.ranges, c.fit.ensures.packets, c.fit.ensures.bytes))) c.book_shown.new.row c.book_shown.ensures c.dequeue-shown.new.out
    (given-some c.dequeue-shown.result.packet c.args.out.now c.dequeue-shown.new.out (sym c.has_packet.ensures ∙ c.if-not-has_packet.false)
    c.dequeue-shown.ensures.dequeued.packet)).balanced

pub book_sent-requires-clause-among : goal.book_sent-requires-clause-among
book_sent-requires-clause-among g c =
    let e = ap (λ (d : DeviceState Kept). d.clock) c.self.view_is in
    let later : c.self.inside.clock ≤ c.args.now = omega (arith, e, c.requires.order) in
    let low : c.args.now ≤ 2 ^ 62 = omega (arith, c.ns.ensures.in_range, c.ns.ensures.value) in
    let shown = c.dequeue-shown.ensures.dequeued.shown in
    sent-among c.self.inside c.self.invariant.device c.args.now later low c.dequeue-shown.result shown c.dequeue-shown.new.self
    c.dequeue-shown.ensures.dequeued.after (can-book-top c.self.inside c.self.invariant.device c.args.now later low c.dequeue-shown.result shown
    (booked kept c.self.inside.root (ask c.args.now (shape c.self.inside.root)).peeked) refl
    (omega (arith, c.self.ranges, c.fit.ensures.packets, c.fit.ensures.bytes))
    (omega (arith, c.self.ranges, c.fit.ensures.packets, c.fit.ensures.bytes))) c.book_shown.new.row c.book_shown.ensures c.dequeue-shown.new.out
    (given-some c.dequeue-shown.result.packet c.args.out.now c.dequeue-shown.new.out (sym c.has_packet.ensures ∙ c.if-not-has_packet.false)
    c.dequeue-shown.ensures.dequeued.packet)

pub book_sent-requires-clause-room : goal.book_sent-requires-clause-room
book_sent-requires-clause-room g c =
    let e = ap (λ (d : DeviceState Kept). d.clock) c.self.view_is in
    let later : c.self.inside.clock ≤ c.args.now = omega (arith, e, c.requires.order) in
    let low : c.args.now ≤ 2 ^ 62 = omega (arith, c.ns.ensures.in_range, c.ns.ensures.value) in
    let shown = c.dequeue-shown.ensures.dequeued.shown in
    let row =
    asked-row c.self.inside c.self.invariant.device c.args.now later low c.dequeue-shown.result shown c.dequeue-shown.new.self
    c.dequeue-shown.ensures.dequeued.after (can-book-top c.self.inside c.self.invariant.device c.args.now later low c.dequeue-shown.result
    shown (booked kept c.self.inside.root (ask c.args.now (shape c.self.inside.root)).peeked) refl
    (omega (arith, c.self.ranges, c.fit.ensures.packets, c.fit.ensures.bytes))
    (omega (arith, c.self.ranges, c.fit.ensures.packets, c.fit.ensures.bytes))) c.book_shown.new.row c.book_shown.ensures
    c.dequeue-shown.new.out (given-some c.dequeue-shown.result.packet c.args.out.now c.dequeue-shown.new.out
    (sym c.has_packet.ensures ∙ c.if-not-has_packet.false) c.dequeue-shown.ensures.dequeued.packet) in
    let had =
    sent-among c.self.inside c.self.invariant.device c.args.now later low c.dequeue-shown.result shown c.dequeue-shown.new.self
    c.dequeue-shown.ensures.dequeued.after (can-book-top c.self.inside c.self.invariant.device c.args.now later low c.dequeue-shown.result
    shown (booked kept c.self.inside.root (ask c.args.now (shape c.self.inside.root)).peeked) refl
    (omega (arith, c.self.ranges, c.fit.ensures.packets, c.fit.ensures.bytes))
    (omega (arith, c.self.ranges, c.fit.ensures.packets, c.fit.ensures.bytes))) c.book_shown.new.row c.book_shown.ensures
    c.dequeue-shown.new.out (given-some c.dequeue-shown.result.packet c.args.out.now c.dequeue-shown.new.out
    (sym c.has_packet.ensures ∙ c.if-not-has_packet.false) c.dequeue-shown.ensures.dequeued.packet) in
    let same = ap (λ (r : Row). r.arrived) c.book_shown.ensures in
    record {
      packets = omega (arith, row.balanced.packets, had.packets, ap (λ (t : Totals). t.packets) same, c.self.ranges, c.fit.ensures.packets, c.fit.ensures.bytes);
      bytes = omega (arith, row.balanced.bytes, had.bytes, ap (λ (t : Totals). t.bytes) same, c.self.ranges, c.fit.ensures.packets, c.fit.ensures.bytes);
    }

pub invariant_of-self-2 : goal.invariant_of-self-2
invariant_of-self-2 g c =
    let e = ap (λ (d : DeviceState Kept). d.clock) c.self.view_is in
    let later : c.self.inside.clock ≤ c.args.now = omega (arith, e, c.requires.order) in
    let low : c.args.now ≤ 2 ^ 62 = omega (arith, c.ns.ensures.in_range, c.ns.ensures.value) in
    let shown = c.dequeue-shown.ensures.dequeued.shown in
    still-indexed c.self.inside (record c.self.inside { clock = c.args.now; top = c.book_sent.new.row; root = c.dequeue-shown.new.self }) c.self.invariant
    (sent-kept c.self.inside c.self.invariant.device c.args.now later low c.dequeue-shown.result shown c.dequeue-shown.new.self
    c.dequeue-shown.ensures.dequeued.after (can-book-top c.self.inside c.self.invariant.device c.args.now later low c.dequeue-shown.result shown
    (booked kept c.self.inside.root (ask c.args.now (shape c.self.inside.root)).peeked) refl
    (omega (arith, c.self.ranges, c.fit.ensures.packets, c.fit.ensures.bytes))
    (omega (arith, c.self.ranges, c.fit.ensures.packets, c.fit.ensures.bytes))) c.book_shown.new.row c.book_shown.ensures c.dequeue-shown.new.out
    (given-some c.dequeue-shown.result.packet c.args.out.now c.dequeue-shown.new.out (sym c.has_packet.ensures ∙ c.if-not-has_packet.false)
    c.dequeue-shown.ensures.dequeued.packet) c.book_sent.new.row c.book_sent.ensures
    (record c.self.inside { clock = c.args.now; top = c.book_sent.new.row; root = c.dequeue-shown.new.self }) refl
    c.dequeue-shown.ensures.dequeued.arrived)
    refl (sent-form c.self.inside c.self.invariant.device c.args.now later low c.dequeue-shown.result shown c.dequeue-shown.new.self
    c.dequeue-shown.ensures.dequeued.after (can-book-top c.self.inside c.self.invariant.device c.args.now later low c.dequeue-shown.result shown
    (booked kept c.self.inside.root (ask c.args.now (shape c.self.inside.root)).peeked) refl
    (omega (arith, c.self.ranges, c.fit.ensures.packets, c.fit.ensures.bytes))
    (omega (arith, c.self.ranges, c.fit.ensures.packets, c.fit.ensures.bytes))) c.book_shown.new.row c.book_shown.ensures c.dequeue-shown.new.out
    (given-some c.dequeue-shown.result.packet c.args.out.now c.dequeue-shown.new.out (sym c.has_packet.ensures ∙ c.if-not-has_packet.false)
    c.dequeue-shown.ensures.dequeued.packet))

pub returns-clause-sent : goal.returns-clause-sent
returns-clause-sent g c =
    let e = ap (λ (d : DeviceState Kept). d.clock) c.self.view_is in
    let later : c.self.inside.clock ≤ c.args.now = omega (arith, e, c.requires.order) in
    let low : c.args.now ≤ 2 ^ 62 = omega (arith, c.ns.ensures.in_range, c.ns.ensures.value) in
    let shown = c.dequeue-shown.ensures.dequeued.shown in
    record {
      some = sym (ap is_some (sym (ap (λ (d : DeviceState Kept). given c.args.now d.tree) c.self.view_is) ∙ sym shown.packet
          ∙ (given-some c.dequeue-shown.result.packet c.args.out.now c.dequeue-shown.new.out (sym c.has_packet.ensures ∙ c.if-not-has_packet.false)
          c.dequeue-shown.ensures.dequeued.packet)));
      packet = c.dequeue-shown.ensures.dequeued.packet ∙ ap (λ o. unwrap_or o c.args.out.now) (shown.packet ∙ ap (λ (d : DeviceState Kept). given c.args.now d.tree) c.self.view_is);
      after =
          sent-tree c.self.inside c.self.invariant.device c.args.now later low c.dequeue-shown.result shown c.dequeue-shown.new.self
          c.dequeue-shown.ensures.dequeued.after (can-book-top c.self.inside c.self.invariant.device c.args.now later low c.dequeue-shown.result shown
          (booked kept c.self.inside.root (ask c.args.now (shape c.self.inside.root)).peeked) refl
          (omega (arith, c.self.ranges, c.fit.ensures.packets, c.fit.ensures.bytes))
          (omega (arith, c.self.ranges, c.fit.ensures.packets, c.fit.ensures.bytes))) c.book_shown.new.row c.book_shown.ensures c.dequeue-shown.new.out
          (given-some c.dequeue-shown.result.packet c.args.out.now c.dequeue-shown.new.out (sym c.has_packet.ensures ∙ c.if-not-has_packet.false)
          c.dequeue-shown.ensures.dequeued.packet) c.book_sent.new.row c.book_sent.ensures
          (record c.self.inside { clock = c.args.now; top = c.book_sent.new.row; root = c.dequeue-shown.new.self }) refl
          ∙ ap (λ (d : DeviceState Kept). record { clock = c.args.now; tree = take_packet kept c.args.now d.tree }) c.self.view_is;
      lost = subst (λ (d : DeviceState Kept). IsToldOf (noted_by_take c.args.now d.tree) (g.S.Sink.state c.args.sink.now) (g.S.Sink.state c.dequeue-shown.new.sink)) c.self.view_is c.dequeue-shown.ensures.dequeued.told;
    }

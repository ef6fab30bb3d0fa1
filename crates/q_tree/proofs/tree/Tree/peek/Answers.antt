use Rattle.std.proofs.Common.{◌∙◌, ◌≤◌, ◌^◌, refl, ap, arith, rules}
use Rattle.q_model.specs.Step.{DeviceState}
use Rattle.q_model.specs.TreeState.{given, peek_packet}
use Rattle.q_tree.specs.Kept.{Kept, kept}
use Rattle.q_tree.proofs.commands.TreeIndex.{peeked-form, still-indexed}
use Rattle.q_tree.proofs.tree.Tree.peek.Goals as goal
use Rattle.q_tree.proofs.TreeLemmas.{top-row, can-ask-root, can-book-top, gives-shown, peeked-tree, peeked-device}

pub peek-shown-requires : goal.peek-shown-requires
peek-shown-requires g c =
    let later : c.self.inside.clock ≤ c.args.now = omega (arith, ap (λ (d : DeviceState Kept). d.clock) c.self.view_is, c.requires.order) in
    let low : c.args.now ≤ 2 ^ 62 = omega (arith, c.ns.ensures.in_range, c.ns.ensures.value) in
    record { ready = can-ask-root c.self.inside c.self.invariant.device c.args.now later low; sink = search rules; clean = search rules }

pub book_shown-requires-clause-balanced : goal.book_shown-requires-clause-balanced
book_shown-requires-clause-balanced g c = (top-row c.self.inside c.self.invariant.device).balanced

pub book_shown-requires-clause-room : goal.book_shown-requires-clause-room
book_shown-requires-clause-room g c =
    let later : c.self.inside.clock ≤ c.args.now = omega (arith, ap (λ (d : DeviceState Kept). d.clock) c.self.view_is, c.requires.order) in
    let low : c.args.now ≤ 2 ^ 62 = omega (arith, c.ns.ensures.in_range, c.ns.ensures.value) in
    can-book-top c.self.inside c.self.invariant.device c.args.now later low c.peek-shown.result c.peek-shown.ensures.peeked.shown
    c.peek-shown.new.self c.peek-shown.ensures.peeked.after (omega (arith, c.self.ranges, c.fit.ensures.packets, c.fit.ensures.bytes))
    (omega (arith, c.self.ranges, c.fit.ensures.packets, c.fit.ensures.bytes))

pub invariant_of-self : goal.invariant_of-self
invariant_of-self g c =
    let later : c.self.inside.clock ≤ c.args.now = omega (arith, ap (λ (d : DeviceState Kept). d.clock) c.self.view_is, c.requires.order) in
    let low : c.args.now ≤ 2 ^ 62 = omega (arith, c.ns.ensures.in_range, c.ns.ensures.value) in
    still-indexed c.self.inside (record c.self.inside { clock = c.args.now; top = c.book_shown.new.row; root = c.peek-shown.new.self }) c.self.invariant
    (peeked-device c.self.inside c.self.invariant.device c.args.now later low c.peek-shown.result c.peek-shown.ensures.peeked.shown
    c.peek-shown.new.self c.peek-shown.ensures.peeked.after
    (can-book-top c.self.inside c.self.invariant.device c.args.now later low c.peek-shown.result c.peek-shown.ensures.peeked.shown
    c.peek-shown.new.self c.peek-shown.ensures.peeked.after (omega (arith, c.self.ranges, c.fit.ensures.packets, c.fit.ensures.bytes))
    (omega (arith, c.self.ranges, c.fit.ensures.packets, c.fit.ensures.bytes))) c.book_shown.new.row c.book_shown.ensures
    (record c.self.inside { clock = c.args.now; top = c.book_shown.new.row; root = c.peek-shown.new.self }) refl
    c.peek-shown.ensures.peeked.arrived)
    refl (peeked-form c.args.now c.self.inside.root c.peek-shown.new.self (can-ask-root c.self.inside c.self.invariant.device c.args.now later low) c.peek-shown.ensures.peeked.after)

pub returns-clause-after : goal.returns-clause-after
returns-clause-after g c =
    let later : c.self.inside.clock ≤ c.args.now = omega (arith, ap (λ (d : DeviceState Kept). d.clock) c.self.view_is, c.requires.order) in
    let low : c.args.now ≤ 2 ^ 62 = omega (arith, c.ns.ensures.in_range, c.ns.ensures.value) in
    peeked-tree c.self.inside c.self.invariant.device c.args.now later low c.peek-shown.result c.peek-shown.ensures.peeked.shown
    c.peek-shown.new.self c.peek-shown.ensures.peeked.after
    (can-book-top c.self.inside c.self.invariant.device c.args.now later low c.peek-shown.result c.peek-shown.ensures.peeked.shown
    c.peek-shown.new.self c.peek-shown.ensures.peeked.after (omega (arith, c.self.ranges, c.fit.ensures.packets, c.fit.ensures.bytes))
    (omega (arith, c.self.ranges, c.fit.ensures.packets, c.fit.ensures.bytes))) c.book_shown.new.row c.book_shown.ensures
    (record c.self.inside { clock = c.args.now; top = c.book_shown.new.row; root = c.peek-shown.new.self }) refl
    ∙ ap (λ (d : DeviceState Kept). record { clock = c.args.now; tree = peek_packet kept c.args.now d.tree }) c.self.view_is

pub returns-clause-packet : goal.returns-clause-packet
returns-clause-packet g c =
    let later : c.self.inside.clock ≤ c.args.now = omega (arith, ap (λ (d : DeviceState Kept). d.clock) c.self.view_is, c.requires.order) in
    let low : c.args.now ≤ 2 ^ 62 = omega (arith, c.ns.ensures.in_range, c.ns.ensures.value) in
    c.as_packet.ensures ∙ c.at_hand.ensures ∙ gives-shown c.self.inside c.self.invariant.device c.args.now later low c.peek-shown.result
    c.peek-shown.ensures.peeked.shown c.peek-shown.new.self c.peek-shown.ensures.peeked.after ∙ c.peek-shown.ensures.peeked.shown.packet
    ∙ ap (λ (d : DeviceState Kept). given c.args.now d.tree) c.self.view_is

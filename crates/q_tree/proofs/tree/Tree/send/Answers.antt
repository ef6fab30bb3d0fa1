use Rattle.std.proofs.Common.{◌∙◌, ◌≤◌, ◌^◌, refl, sym, ap, arith}
use Rattle.q_model.specs.Step.{DeviceState}
use Rattle.q_model.specs.TreeState.{take_packet}
use Rattle.q_tree.specs.Kept.{Kept, kept}
use Rattle.q_tree.proofs.commands.TreeIndex.{still-indexed}
use Rattle.q_tree.proofs.counters.Quiet.{shown-nothing}
use Rattle.q_tree.proofs.departure.SendLemmas.{asked-row, sent-among, sent-form, sent-tree, sent-kept}
use Rattle.q_tree.proofs.disciplines.FifoHead.{alone, head-sent}
use Rattle.q_tree.proofs.tree.Tree.send.Goals as goal
use Rattle.q_tree.proofs.TreeLemmas.{top-row, can-book-top}

-- where a fifo at the root gives its head

pub book_sent-requires-clause-balanced : goal.book_sent-requires-clause-balanced
book_sent-requires-clause-balanced g c = (top-row c.self.inside c.self.invariant.device).balanced

pub book_sent-requires-clause-room : goal.book_sent-requires-clause-room
book_sent-requires-clause-room g c =
    let later : c.self.inside.clock ≤ c.args.now = omega (arith, ap (λ (d : DeviceState Kept). d.clock) c.self.view_is, c.requires.order) in
    let low : c.args.now ≤ 2 ^ 62 = omega (arith, c.ns.ensures.in_range, c.ns.ensures.value) in
    let p = c.send_head.new.out in
    let quick = head-sent c.args.now c.self.inside.root p (c.has_head.ensures.means c.if-has_head.true) c.send_head.ensures.packet in
    let new = c.send_head.ensures.after ∙ sym quick.gone in
    let fit =
    can-book-top c.self.inside c.self.invariant.device c.args.now later low (alone p) quick.shown c.self.inside.root quick.peeked
    (omega (arith, c.self.ranges, c.fit.ensures.packets, c.fit.ensures.bytes))
    (omega (arith, c.self.ranges, c.fit.ensures.packets, c.fit.ensures.bytes)) in
    let quiet = shown-nothing (alone p) c.self.inside.top refl refl in
    let row = asked-row c.self.inside c.self.invariant.device c.args.now later low (alone p) quick.shown c.send_head.new.self new fit c.self.inside.top quiet p refl in
    let had = sent-among c.self.inside c.self.invariant.device c.args.now later low (alone p) quick.shown c.send_head.new.self new fit c.self.inside.top quiet p refl in
    record {
      packets = omega (arith, row.balanced.packets, had.packets, c.self.ranges, c.fit.ensures.packets, c.fit.ensures.bytes);
      bytes = omega (arith, row.balanced.bytes, had.bytes, c.self.ranges, c.fit.ensures.packets, c.fit.ensures.bytes);
    }

pub invariant_of-self : goal.invariant_of-self
invariant_of-self g c =
    let later : c.self.inside.clock ≤ c.args.now = omega (arith, ap (λ (d : DeviceState Kept). d.clock) c.self.view_is, c.requires.order) in
    let low : c.args.now ≤ 2 ^ 62 = omega (arith, c.ns.ensures.in_range, c.ns.ensures.value) in
    let p = c.send_head.new.out in
    let quick = head-sent c.args.now c.self.inside.root p (c.has_head.ensures.means c.if-has_head.true) c.send_head.ensures.packet in
    let new = c.send_head.ensures.after ∙ sym quick.gone in
    let fit =
    can-book-top c.self.inside c.self.invariant.device c.args.now later low (alone p) quick.shown c.self.inside.root quick.peeked
    (omega (arith, c.self.ranges, c.fit.ensures.packets, c.fit.ensures.bytes))
    (omega (arith, c.self.ranges, c.fit.ensures.packets, c.fit.ensures.bytes)) in
    let quiet = shown-nothing (alone p) c.self.inside.top refl refl in
    still-indexed c.self.inside (record c.self.inside { clock = c.args.now; top = c.book_sent.new.row; root = c.send_head.new.self }) c.self.invariant
    (sent-kept c.self.inside c.self.invariant.device c.args.now later low (alone p) quick.shown c.send_head.new.self new fit c.self.inside.top quiet
    p refl c.book_sent.new.row c.book_sent.ensures
    (record c.self.inside { clock = c.args.now; top = c.book_sent.new.row; root = c.send_head.new.self }) refl c.send_head.ensures.arrived)
    refl (sent-form c.self.inside c.self.invariant.device c.args.now later low (alone p) quick.shown c.send_head.new.self new fit c.self.inside.top quiet p refl)

pub returns-then-has_head-clause-after : goal.returns-then-has_head-clause-after
returns-then-has_head-clause-after g c =
    let later : c.self.inside.clock ≤ c.args.now = omega (arith, ap (λ (d : DeviceState Kept). d.clock) c.self.view_is, c.requires.order) in
    let low : c.args.now ≤ 2 ^ 62 = omega (arith, c.ns.ensures.in_range, c.ns.ensures.value) in
    let p = c.send_head.new.out in
    let quick = head-sent c.args.now c.self.inside.root p (c.has_head.ensures.means c.if-has_head.true) c.send_head.ensures.packet in
    let new = c.send_head.ensures.after ∙ sym quick.gone in
    let fit =
    can-book-top c.self.inside c.self.invariant.device c.args.now later low (alone p) quick.shown c.self.inside.root quick.peeked
    (omega (arith, c.self.ranges, c.fit.ensures.packets, c.fit.ensures.bytes))
    (omega (arith, c.self.ranges, c.fit.ensures.packets, c.fit.ensures.bytes)) in
    let quiet = shown-nothing (alone p) c.self.inside.top refl refl in
    sent-tree c.self.inside c.self.invariant.device c.args.now later low (alone p) quick.shown c.send_head.new.self new fit c.self.inside.top quiet p
    refl c.book_sent.new.row c.book_sent.ensures
    (record c.self.inside { clock = c.args.now; top = c.book_sent.new.row; root = c.send_head.new.self }) refl
    ∙ ap (λ (d : DeviceState Kept). record { clock = c.args.now; tree = take_packet kept c.args.now d.tree }) c.self.view_is

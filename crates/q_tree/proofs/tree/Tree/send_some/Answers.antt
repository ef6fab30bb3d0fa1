use Rattle.std.proofs.Common.{◌≡◌, ◌∙◌, ℕ, ◌++◌, length, map, sym, ap, ap₂, subst, arith}
use Rattle.std.specs.Prelude.{drop}
use Rattle.q_model.specs.declared.totals.Totals.{Totals}
use Rattle.q_model.specs.Step.{DeviceState}
use Rattle.q_tree.specs.Bursts.{AreGiven, polled_each}
use Rattle.q_tree.specs.Kept.{Kept, kept}
use Rattle.q_tree.specs.TreeSeen.{IsIndexedDevice, tree_seen}
use Rattle.q_tree.proofs.departure.GivingMany.{sent-some, sent-within}
use Rattle.q_tree.proofs.tree.Tree.send_some.Goals as goal
use Rattle.q_tree.proofs.TreeLemmas.{can-ask-root, top-row}

pub give_some-sent-requires-clause-asks : goal.give_some-sent-requires-clause-asks
give_some-sent-requires-clause-asks g c =
    can-ask-root c.self.inside c.self.invariant.device c.args.now (omega (arith, ap (λ (d : DeviceState Kept). d.clock) c.self.view_is, c.requires.order)) (omega (arith, c.ns.ensures.in_range, c.ns.ensures.value))

pub book_sends-requires-clause-balanced : goal.book_sends-requires-clause-balanced
book_sends-requires-clause-balanced g c = (top-row c.self.inside c.self.invariant.device).balanced

pub book_sends-requires-clause-packets : goal.book_sends-requires-clause-packets
book_sends-requires-clause-packets g c = (sent-within c.args.now c.self.inside c.give_some-sent.new.self c.give_some-sent.result c.give_some-sent.ensures.given.packets c.self.invariant
    (omega (arith, ap (λ (d : DeviceState Kept). d.clock) c.self.view_is, c.requires.order)) (omega (arith, c.ns.ensures.in_range, c.ns.ensures.value))
    (omega (arith, c.fit.ensures.packets)) (omega (arith, c.fit.ensures.bytes)) c.give_some-sent.ensures.given.totals (omega (arith, c.if-sent-eq0.false)) c.give_some-sent.ensures.given.steps).packets

pub book_sends-requires-clause-bytes : goal.book_sends-requires-clause-bytes
book_sends-requires-clause-bytes g c = (sent-within c.args.now c.self.inside c.give_some-sent.new.self c.give_some-sent.result c.give_some-sent.ensures.given.packets c.self.invariant
    (omega (arith, ap (λ (d : DeviceState Kept). d.clock) c.self.view_is, c.requires.order)) (omega (arith, c.ns.ensures.in_range, c.ns.ensures.value))
    (omega (arith, c.fit.ensures.packets)) (omega (arith, c.fit.ensures.bytes)) c.give_some-sent.ensures.given.totals (omega (arith, c.if-sent-eq0.false)) c.give_some-sent.ensures.given.steps).bytes

pub book_sends-requires-clause-sent_packets : goal.book_sends-requires-clause-sent_packets
book_sends-requires-clause-sent_packets g c =
    let within = sent-within c.args.now c.self.inside c.give_some-sent.new.self c.give_some-sent.result c.give_some-sent.ensures.given.packets c.self.invariant
    (omega (arith, ap (λ (d : DeviceState Kept). d.clock) c.self.view_is, c.requires.order)) (omega (arith, c.ns.ensures.in_range, c.ns.ensures.value))
    (omega (arith, c.fit.ensures.packets)) (omega (arith, c.fit.ensures.bytes)) c.give_some-sent.ensures.given.totals (omega (arith, c.if-sent-eq0.false)) c.give_some-sent.ensures.given.steps in
    omega (arith, within.packets, (top-row c.self.inside c.self.invariant.device).balanced.packets, c.fit.ensures.packets)

pub book_sends-requires-clause-sent_bytes : goal.book_sends-requires-clause-sent_bytes
book_sends-requires-clause-sent_bytes g c =
    let within = sent-within c.args.now c.self.inside c.give_some-sent.new.self c.give_some-sent.result c.give_some-sent.ensures.given.packets c.self.invariant
    (omega (arith, ap (λ (d : DeviceState Kept). d.clock) c.self.view_is, c.requires.order)) (omega (arith, c.ns.ensures.in_range, c.ns.ensures.value))
    (omega (arith, c.fit.ensures.packets)) (omega (arith, c.fit.ensures.bytes)) c.give_some-sent.ensures.given.totals (omega (arith, c.if-sent-eq0.false)) c.give_some-sent.ensures.given.steps in
    omega (arith, within.bytes, (top-row c.self.inside c.self.invariant.device).balanced.bytes, c.fit.ensures.bytes)

pub invariant_of-self-2 : goal.invariant_of-self-2
invariant_of-self-2 g c =
    subst IsIndexedDevice (λ i. record c.self.inside { clock = c.args.now; top = sym c.book_sends.ensures i; root = c.give_some-sent.new.self })
    (sent-some c.args.now c.self.inside c.give_some-sent.new.self c.give_some-sent.result c.give_some-sent.ensures.given.packets c.self.invariant
    (omega (arith, ap (λ (d : DeviceState Kept). d.clock) c.self.view_is, c.requires.order)) (omega (arith, c.ns.ensures.in_range, c.ns.ensures.value))
    (omega (arith, c.fit.ensures.packets)) (omega (arith, c.fit.ensures.bytes)) c.give_some-sent.ensures.given.totals (omega (arith, c.if-sent-eq0.false)) c.give_some-sent.ensures.given.steps).indexed

pub returns-clause-given : goal.returns-clause-given
returns-clause-given g c =
    let h = c.give_some-sent.ensures.given in
    let burst = sent-some c.args.now c.self.inside c.give_some-sent.new.self c.give_some-sent.result c.give_some-sent.ensures.given.packets c.self.invariant
    (omega (arith, ap (λ (d : DeviceState Kept). d.clock) c.self.view_is, c.requires.order)) (omega (arith, c.ns.ensures.in_range, c.ns.ensures.value))
    (omega (arith, c.fit.ensures.packets)) (omega (arith, c.fit.ensures.bytes)) c.give_some-sent.ensures.given.totals (omega (arith, c.if-sent-eq0.false)) c.give_some-sent.ensures.given.steps in
    let counted : length h.packets ≡ c.give_some-sent.result.packets = sym (ap (λ (t : Totals). t.packets) h.totals) in
    let top = ap tree_seen (λ i. record c.self.inside { clock = c.args.now; top = c.book_sends.ensures i; root = c.give_some-sent.new.self }) in
    record {
      packets = h.packets;
      counted = counted;
      places = h.places_are ∙ ap (λ (k : ℕ). map g.T.Told.told h.packets ++ drop k c.args.places.now) counted;
      given = subst (λ (x : DeviceState Kept). AreGiven kept c.args.now h.packets x) c.self.view_is burst.each;
      polled = top ∙ burst.after ∙ ap₂ (λ (k : ℕ) (x : DeviceState Kept). polled_each kept c.args.now k x) counted c.self.view_is;
    }

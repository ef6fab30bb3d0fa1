use Rattle.std.proofs.Common.{◌≡◌, ◌+◌, ◌∙◌, [], ◌∷◌, ◌++◌, length, map, set, refl, ap, ap₂, arith}
use Rattle.std.specs.Prelude.{drop}
use Rattle.std.proofs.lemmas.List.{length-append}
use Rattle.q_packet.specs.Descriptor.{Descriptor}
use Rattle.q_model.specs.declared.totals.Totals.{Totals}
use Rattle.q_tree.proofs.arrival.KeepingMany.{totals-more}
use Rattle.q_tree.proofs.departure.GivenMany.{told-then}
use Rattle.q_tree.proofs.departure.GivingMany.{gives-ask, gives-more}
use Rattle.q_tree.proofs.departure.giving.give_each.Goals as goal

pub give_one-requires-clause-asks : goal.give_one-requires-clause-asks
give_one-requires-clause-asks g c =
    let w = c.requires.ready.node in
    gives-ask c.args.now w c.loop-i.invariant.0.packets c.loop-i.discipline c.requires.ready.is (c.loop-i.invariant.0.steps w c.requires.ready.is)

pub overflow_add-bytes : goal.overflow_add-bytes
overflow_add-bytes g c =
    let w = c.requires.ready.node in
    let h = c.loop-i.invariant.0 in
    let p = c.give_one.new.out in
    let len : c.from-bytes.result ≡ p.len = omega (arith, c.from-bytes.ensures, ap (λ (x : Descriptor). x.len) c.packet.view_is) in
    let more = gives-more c.args.now w h.packets c.loop-i.discipline c.give_one.new.self p c.requires.ready.is (h.steps w c.requires.ready.is) (c.if-not-give_one.ensures.given refl w.handle w.filters) in
    omega (arith, len, more.kept.balanced.bytes, ap (λ (t : Totals). t.bytes) (totals-more h.packets p c.loop-i.i c.loop-i.bytes h.totals), c.requires.ready.is.bytes)

pub loop-i-preserved : goal.loop-i-preserved
loop-i-preserved g c =
    let h = c.loop-i.invariant.0 in
    let p = c.give_one.new.out in
    let told = g.T.Told.told in
    let before = c.args.places.now in
    let len : c.from-bytes.result ≡ p.len = omega (arith, c.from-bytes.ensures, ap (λ (x : Descriptor). x.len) c.packet.view_is) in
    let at : c.loop-i.i ≡ length h.packets = ap (λ (t : Totals). t.packets) h.totals in
    let next : length h.packets + 1 ≡ length (h.packets ++ p ∷ []) = omega (arith, length-append h.packets (p ∷ [])) in (
      record {
        packets = h.packets ++ p ∷ [];
        totals = ap (λ b. record { packets = c.loop-i.i + 1; bytes = c.loop-i.bytes + b }) len ∙ totals-more h.packets p c.loop-i.i c.loop-i.bytes h.totals;
        places_are =
            ap₂ (λ zs z. set zs c.loop-i.i z) h.places_are c.tell.ensures
            ∙ ap (λ k. set (map told h.packets ++ drop (length h.packets) before) k (told p)) at
            ∙ told-then told (length h.packets) h.packets p before refl (omega (arith, at, c.loop-i-test.true))
            ∙ ap (λ k. map told (h.packets ++ p ∷ []) ++ drop k before) next;
        steps = λ a is. gives-more c.args.now a h.packets c.loop-i.discipline c.give_one.new.self p is (h.steps a is) (c.if-not-give_one.ensures.given refl a.handle a.filters);
      },
      c.if-not-give_one.ensures.quick refl,
      λ _. c.if-not-give_one.ensures.other refl,
    )

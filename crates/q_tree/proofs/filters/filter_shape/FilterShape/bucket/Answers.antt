use Rattle.std.proofs.Common.{◌≡◌, ◌∙◌, ◌<◌, ◌^◌, ap, ap₂, sym, subst, arith}
use Rattle.std.proofs.lemmas.Nat.{and_le_l}
use Rattle.std.specs.Prelude.{bit_and, ◌/◌}
use Rattle.q_packet.specs.Key.{FitsBytes, IsKey}
use Rattle.q_packet.proofs.KeyLemmas.{FitsBytes_key}
use Rattle.q_tree.specs.filters.FilterShapes.{spread, with_addresses}
use Rattle.q_tree.proofs.filters.ShapeLemmas.{none-left, word-alone}
use Rattle.q_tree.proofs.filters.filter_shape.FilterShape.bucket.Goals as goal

pub returns-then-self-eq128-2-clause-value : goal.returns-then-self-eq128-2-clause-value
returns-then-self-eq128-2-clause-value c =
    let k = c.args.key.now in
    let s = c.args.self.now in
    let fits : FitsBytes k = FitsBytes_key k (subst IsKey c.key.view_is c.key.invariant) in
    let src : k.src / 2 ^ s.src_rest ≡ 0 = ap (λ r. k.src / 2 ^ r) c.if-self-eq128.true ∙ none-left k.src 128 fits.src (omega arith) in
    let dst : k.dst / 2 ^ s.dst_rest ≡ 0 = ap (λ r. k.dst / 2 ^ r) c.if-self-eq128-2.true ∙ none-left k.dst 128 fits.dst (omega arith) in
    let small : bit_and c.args.word s.mask < 2 ^ 64 = omega (arith, c.ranges.word.fits, and_le_l c.args.word s.mask) in
    c.spread.ensures.value
    ∙ ap spread (sym (word-alone (bit_and c.args.word s.mask) small) ∙ ap₂ (with_addresses (bit_and c.args.word s.mask)) (sym src) (sym dst))
    ∙ ap (λ w. spread (with_addresses (bit_and w s.mask) (k.src / 2 ^ s.src_rest) (k.dst / 2 ^ s.dst_rest))) c.requires

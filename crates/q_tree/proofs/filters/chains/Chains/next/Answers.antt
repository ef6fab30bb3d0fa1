use Rattle.std.proofs.Common.{◌≡◌, ◌∙◌, ap, arith, length, refl, slice_get, Some, subst, sym, ◌<◌}
use Rattle.std.proofs.lemmas.Option.{slice_get_read}
use Rattle.std.specs.Prelude.{suc}
use Rattle.q_tree.specs.filters.Chains.{IsNext}
use Rattle.q_tree.proofs.filters.chains.Chains.next.Goals as goal

pub returns : goal.returns
returns c home is =
    let homes = c.self.inside.homes.items in
    let nexts = c.self.inside.nexts.items in
    let same : homes ≡ c.args.self.now = c.self.view_is in
    let inside : c.args.place < length homes = subst (λ hs. c.args.place < length hs) (sym same) c.requires in
    let of_place : slice_get homes c.args.place ≡ Some home = subst (λ hs. slice_get hs c.args.place ≡ Some home) (sym same) is in
    let there : slice_get nexts c.args.place ≡ Some c.from.result =
    slice_get_read nexts (length nexts) c.args.place c.index.result.now refl (omega (arith, inside, c.self.invariant.long)) c.index.ensures ∙ ap Some (sym c.from.ensures) in
    subst (λ hs. IsNext hs home (suc c.args.place) c.from.result) same (c.self.invariant.nexts_are c.args.place home c.from.result (omega arith) of_place there)

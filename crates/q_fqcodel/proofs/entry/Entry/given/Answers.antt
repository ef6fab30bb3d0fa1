use Rattle.std.proofs.Common.{◌≡◌, ◌+ℤ◌, ◌*◌, ◌^◌, ℤ, ◌≤ℤ◌, ◌<ℤ◌, inl, inr, pos, sym, ap, ◌∙◌, subst, arith, rules, SFits, w64, to_z, of_z}
use Rattle.std.specs.Int.{saturate_signed}
use Rattle.std.proofs.lemmas.Int.{ints}
use Rattle.q_fqcodel.specs.Entry.{Entry}
use Rattle.q_fqcodel.specs.Quanta.{given}
use Rattle.q_fqcodel.proofs.NeedLemmas.{Fits, needed_fits, saturated, given_by}
use Rattle.q_fqcodel.proofs.entry.Entry.given.Goals as goal

pub overflow_mul-quanta : goal.overflow_mul-quanta
overflow_mul-quanta c =
    let e : Entry = record { flow = c.self.inside.flow; credits = c.self.inside.credits } in
    let fits : SFits w64 e.credits = search rules in
    let few = (subst (λ (x : Entry). Fits c.args.quantum c.args.quanta x.credits) (sym c.self.view_is) (needed_fits c.args.quantum c.args.quanta c.args.self c.requires)).few in
    omega (arith, ints, few, fits, c.ranges.quantum)

pub returns : goal.returns
returns c =
    let e : Entry = record { flow = c.self.inside.flow; credits = c.self.inside.credits } in
    let fits : SFits w64 e.credits = search rules in
    let bounds = subst (λ (x : Entry). Fits c.args.quantum c.args.quanta x.credits) (sym c.self.view_is) (needed_fits c.args.quantum c.args.quanta c.args.self c.requires) in
    let sum : ℤ = e.credits +ℤ pos (c.args.quanta * c.args.quantum) in
    let read : to_z w64 (of_z w64 e.credits) ≡ e.credits = omega (arith, ints, fits) in
    let low : pos 0 ≤ℤ (sum +ℤ pos (2 ^ 63)) = omega (arith, ints, fits, bounds.low) in
    let high : sum <ℤ pos (2 ^ 63) = elim bounds.high [
      | inl within ↦ omega (arith, ints, within, c.ranges.quantum)
      | inr none ↦ omega (arith, ints, fits, none)
    ] in
    let kept : to_z w64 (of_z w64 sum) ≡ sum = omega (arith, ints, low, high) in
    let is = ap (λ (z : ℤ). to_z w64 (of_z w64 z)) (c.saturating_add_unsigned.ensures ∙ ap (λ (z : ℤ). saturate_signed w64 (z +ℤ pos (c.args.quanta * c.args.quantum))) read ∙ saturated sum low high) ∙ kept in
    given_by c.args.quantum c.args.quanta e _ is ∙ ap (given c.args.quantum c.args.quanta) c.self.view_is

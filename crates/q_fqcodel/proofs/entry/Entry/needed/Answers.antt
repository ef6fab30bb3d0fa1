use Rattle.std.proofs.Common.{◌≡◌, ◌≤ℤ◌, ◌<ℤ◌, ◌+◌, pos, sym, ap, ◌∙◌, subst, arith, rules, SFits, w64, to_z, of_z}
use Rattle.std.specs.Prelude.{◌/◌, unsigned_abs}
use Rattle.std.proofs.lemmas.Int.{ints}
use Rattle.q_fqcodel.specs.Entry.{Entry}
use Rattle.q_fqcodel.proofs.QuantaLemmas.{need_none}
use Rattle.q_fqcodel.proofs.NeedLemmas.{need_is}
use Rattle.q_fqcodel.proofs.entry.Entry.needed.Goals as goal

pub returns-then-self-gt0 : goal.returns-then-self-gt0
returns-then-self-gt0 c =
    let high : pos 0 <ℤ c.args.self.credits = subst (λ (e : Entry). pos 0 <ℤ e.credits) c.self.view_is (grind (arith, ints, c.if-self-gt0.true)) in
    sym (need_none c.args.quantum c.args.self high)

pub returns : goal.returns
returns c =
    let low : c.args.self.credits ≤ℤ pos 0 = subst (λ (e : Entry). e.credits ≤ℤ pos 0) c.self.view_is (grind (arith, ints, c.if-self-gt0.false)) in
    let fits : SFits w64 c.self.inside.credits = search rules in
    let z : to_z w64 (of_z w64 c.self.inside.credits) ≡ c.self.inside.credits = omega (arith, ints, fits) in
    let owed = c.unsigned_abs.ensures.value ∙ ap unsigned_abs z ∙ ap (λ (e : Entry). unsigned_abs e.credits) c.self.view_is in
    ap (λ (n : _). n / c.args.quantum + 1) owed ∙ need_is c.args.quantum c.args.self c.requires low

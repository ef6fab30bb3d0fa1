use Rattle.std.proofs.Common.{◌≡◌, ◌+◌, ◌∙◌, ℕ, suc, ap, drop, length, nat_lt, Bool, true, false, Some, None, if◌then◌else◌, arith}
use Rattle.q_words.specs.Addresses.{gap_at}
use Rattle.q_words.proofs.Splits.{rest_is}
use Rattle.q_words.proofs.ipv6.halves.Goals as goal

found : (b : Bool) (n at : ℕ) → Some at ≡ (if b then Some n else None) → at + 2 ≡ suc (suc n)
found true n at e = let same : at ≡ n = cc in omega arith
found false n at e = absurd (let none : Some at ≡ None = e in cc)

pub returns-in-Some-clause-right : goal.returns-in-Some-clause-right
returns-in-Some-clause-right c =
    let w = c.args.word.now in
    rest_is w (c.in-Some.at + 2) ∙ ap (λ n. drop n w) (found (nat_lt (gap_at w) (length w)) (gap_at w) c.in-Some.at c.in-Some.ensures.value)

use Rattle.std.proofs.Common.{◌≡◌, ◌<◌, ℕ, List, [], ◌∷◌, length, Bool, true, false, eqb, sym, refl, ◌∙◌, nat_lt, nat_le, arith}
use Rattle.std.proofs.lemmas.Bool.{lt-ltb, le-leb}
use Rattle.q_words.proofs.GroupLemmas.{group_value}
use Rattle.q_words.proofs.ipv6.group.Goals as goal

some_there : (p : List ℕ) (b : Bool) → b ≡ eqb (length p) 0 → b ≡ false → 0 < length p
some_there [] b e f = absurd (let same : true ≡ false = sym e ∙ f in cc)
some_there (x ∷ p) b e f = omega arith

pub overflow_cast-result : goal.overflow_cast-result
overflow_cast-result c = let v = group_value c.args.part.now c.in_ok-value.value (sym c.digits_value.ensures ∙ c.in_ok-value.was) (omega arith) in omega (arith, v.small)

pub returns : goal.returns
returns c =
    let p = c.args.part.now in
    let v = group_value p c.in_ok-value.value (sym c.digits_value.ensures ∙ c.in_ok-value.was) (omega arith) in
    let d = v.digits in
    let some : nat_lt 0 (length p) ≡ true = lt-ltb 0 (length p) (some_there p c.is_empty.result c.is_empty.ensures c.if-is_empty.false) in
    let few : nat_le (length p) 4 ≡ true = le-leb (length p) 4 (omega arith) in
    rw (some, d, few, v.value) refl

-- The place of a class that is known by its name.
use Rattle.std.proofs.Common.{◌≡◌, ◌≢◌, ℕ, zero, suc, ◌<◌, List, [], ◌∷◌, length, cond, Some, None, ◌∙◌, sym, ap, arith, eq-eqb}
use Rattle.std.specs.Prelude.{◌==◌, nat_lt, slice_index_or}
use Rattle.std.specs.List.{AllPairs, position_or_len}
use Rattle.std.proofs.lemmas.Bool.{ne_eqb, cond-true, lt-ltb}
use Rattle.std.proofs.lemmas.List.Sums.{position_or_len_is}
use Rattle.q_drr.specs.Schedule.{Class, name_at, place_of}

no-class : Class
no-class = record { name = 0; quantum = 0 }

named-at : (classes : List Class) (place n : ℕ) → name_at place classes ≡ Some n → (place < length classes) × ((slice_index_or classes place no-class).name ≡ n)
named-at [] place n e = cc
named-at (c ∷ classes) zero n e = (omega arith, cc)
named-at (c ∷ classes) (suc place) n e = let rest = named-at classes place n e in (omega (arith, rest.0), rest.1)

pub placed-by-name : (classes : List Class) (place n : ℕ) → AllPairs (λ (a b : Class). a.name ≢ b.name) classes → name_at place classes ≡ Some n → place_of n classes ≡ Some place
placed-by-name classes place n apart found =
    let at = named-at classes place n found in
    let within : place < length classes = at.0 in
    let first : position_or_len (λ (c : Class). n == c.name) classes ≡ place =
    position_or_len_is (λ (c : Class). n == c.name) classes place no-class (omega (arith, within))
    (λ k lt. ne_eqb n (slice_index_or classes k no-class).name (λ e. apart k place no-class lt within (sym e ∙ sym at.1)))
    (λ lt. eq-eqb n (slice_index_or classes place no-class).name (sym at.1)) in
    ap (λ i. cond (nat_lt i (length classes)) (Some i) None) first ∙ cond-true (nat_lt place (length classes)) (Some place) None (lt-ltb place (length classes) within)

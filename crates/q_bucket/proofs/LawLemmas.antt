-- The bound on the bytes that go in a stretch, by induction on the list of spends.
use Rattle.std.proofs.Common.{◌≡◌, ℕ, ◌+◌, ◌-◌, ◌*◌, ◌<◌, ◌≤◌, Bool, true, false, ◌&&◌, nat_le, List, [], ◌∷◌, inl, inr, refl, ap, ◌∙◌, arith}
use Rattle.std.specs.List.{filter, sum_by}
use Rattle.std.proofs.Math.Nat.{mul-add, mul-le-mul_left}
use Rattle.std.proofs.lemmas.Bool.{cases_Bool, cases_lt, cond-true, cond-false, leb-true, le-leb, lt-leb}
use Rattle.std.proofs.lemmas.List.Sums.{sum_by-cons}
use Rattle.q_bucket.specs.Level.{TokenBucket, units_in_byte, level_at, allows, after_spend}
use Rattle.q_bucket.specs.Laws.{Spend, InOrder, true_spends, is_within, bytes_within, StretchIsBounded}

abbrev len_of : Spend → ℕ
len_of s = s.len

-- what one more spend in front adds to the bytes, if it is within the stretch and if it is not
bytes_if_within : (from to : ℕ) (s : Spend) (later : List Spend) → is_within from to s ≡ true
    → bytes_within from to (s ∷ later) ≡ s.len + bytes_within from to later
bytes_if_within from to s later e =
    ap (sum_by len_of) (cond-true (is_within from to s) (s ∷ filter (is_within from to) later) (filter (is_within from to) later) e)
    ∙ sum_by-cons len_of s (filter (is_within from to) later)

bytes_if_not : (from to : ℕ) (s : Spend) (later : List Spend) → is_within from to s ≡ false
    → bytes_within from to (s ∷ later) ≡ bytes_within from to later
bytes_if_not from to s later e =
    ap (sum_by len_of) (cond-false (is_within from to s) (s ∷ filter (is_within from to) later) (filter (is_within from to) later) e)

and_true : (a b : Bool) → a ≡ true → b ≡ true → (a && b) ≡ true
and_true a b p q = ap (λ v. v && b) p ∙ q

and_false : (a : Bool) → (a && false) ≡ false
and_false true = refl
and_false false = refl

-- a spend is within the stretch, before it or after it
within : (from to : ℕ) (s : Spend) → from ≤ s.at → s.at ≤ to → is_within from to s ≡ true
within from to s low high = and_true _ _ (le-leb from s.at low) (le-leb s.at to high)

not_within_below : (from to : ℕ) (s : Spend) → s.at < from → is_within from to s ≡ false
not_within_below from to s low = ap (λ v. v && nat_le s.at to) (lt-leb from s.at low)

not_within_above : (from to : ℕ) (s : Spend) → to < s.at → is_within from to s ≡ false
not_within_above from to s high = ap (λ v. nat_le from s.at && v) (lt-leb s.at to high) ∙ and_false (nat_le from s.at)

-- the bucket after a spend that is true
abbrev taken : TokenBucket → Spend → TokenBucket
taken b s = record b { level = level_at b s.at - s.len * units_in_byte; last = s.at }

-- the first of the spends is true, or it is not
spends_if_allowed : (b : TokenBucket) (s : Spend) (rest : List Spend) → allows b s.at s.len ≡ true
    → true_spends b (s ∷ rest) ≡ s ∷ true_spends (taken b s) rest
spends_if_allowed b s rest e =
    cond-true (allows b s.at s.len) (s ∷ true_spends (after_spend b s.at s.len) rest) (true_spends (after_spend b s.at s.len) rest) e
    ∙ ap (λ (d : TokenBucket). s ∷ true_spends d rest) (cond-true (allows b s.at s.len) (taken b s) b e)

spends_if_refused : (b : TokenBucket) (s : Spend) (rest : List Spend) → allows b s.at s.len ≡ false
    → true_spends b (s ∷ rest) ≡ true_spends b rest
spends_if_refused b s rest e =
    cond-false (allows b s.at s.len) (s ∷ true_spends (after_spend b s.at s.len) rest) (true_spends (after_spend b s.at s.len) rest) e
    ∙ ap (λ (d : TokenBucket). true_spends d rest) (cond-false (allows b s.at s.len) (taken b s) b e)

-- what does not fall from a moment on does not fall from a sooner one on
in_order_sooner : (sooner last : ℕ) (spends : List Spend) → sooner ≤ last → InOrder last spends → InOrder sooner spends
in_order_sooner sooner last [] before order = tt
in_order_sooner sooner last (s ∷ rest) before order = (omega arith, order.1)

-- nothing counts once the stretch is over
none_above : (b : TokenBucket) (spends : List Spend) (from to last : ℕ) → to < last → InOrder last spends
    → bytes_within from to (true_spends b spends) ≡ 0
none_above b [] from to last over order = refl
none_above b (s ∷ rest) from to last over order = elim (cases_Bool (allows b s.at s.len)) [
  | inl allowed ↦
      ap (bytes_within from to) (spends_if_allowed b s rest allowed)
      ∙ bytes_if_not from to s _ (not_within_above from to s (omega (arith, order.0)))
      ∙ none_above (taken b s) rest from to s.at (omega (arith, order.0)) order.1
  | inr refused ↦
      ap (bytes_within from to) (spends_if_refused b s rest refused) ∙ none_above b rest from to s.at (omega (arith, order.0)) order.1
]

-- from within the stretch on: what the bucket holds, and what the rate brings until the end
bounded_inside : (b : TokenBucket) (spends : List Spend) (from to : ℕ) → from ≤ b.last → b.last ≤ to
    → InOrder b.last spends
    → bytes_within from to (true_spends b spends) * units_in_byte ≤ b.level + b.rate * (to - b.last)
bounded_inside b [] from to low high order = omega arith
bounded_inside b (s ∷ rest) from to low high order = elim (cases_lt to s.at) [
  | inl over ↦
      let none = none_above b (s ∷ rest) from to s.at over (omega arith, order.1) in
      omega (arith, none)
  | inr inside ↦ elim (cases_Bool (allows b s.at s.len)) [
    | inl allowed ↦
        let fits = leb-true _ _ allowed in
        let first = bytes_if_within from to s (true_spends (taken b s) rest) (within from to s (omega (arith, order.0)) inside) in
        let all = ap (bytes_within from to) (spends_if_allowed b s rest allowed) in
        let later = bounded_inside (taken b s) rest from to (omega (arith, order.0)) inside order.1 in
        let split = mul-add b.rate (s.at - b.last) (to - s.at) in
        let whole : (s.at - b.last) + (to - s.at) ≡ to - b.last = omega (arith, order.0) in
        let brought = ap (λ n. b.rate * n) whole in
        omega (arith, fits, first, all, later, split, brought)
    | inr refused ↦
        let all = ap (bytes_within from to) (spends_if_refused b s rest refused) in
        let later = bounded_inside b rest from to low high (in_order_sooner b.last s.at rest order.0 order.1) in
        omega (arith, all, later)
  ]
]

-- spends before the stretch leave a bucket within its burst; the first true spend in it begins the case above
pub stretch_is_bounded_lem : StretchIsBounded
stretch_is_bounded_lem b [] from to within_burst order = omega arith
stretch_is_bounded_lem b (s ∷ rest) from to within_burst order = elim (cases_lt to s.at) [
  | inl over ↦
      let none = none_above b (s ∷ rest) from to s.at over (omega arith, order.1) in
      omega (arith, none)
  | inr early ↦ elim (cases_Bool (allows b s.at s.len)) [
    | inl allowed ↦
        let fits = leb-true _ _ allowed in
        let all = ap (bytes_within from to) (spends_if_allowed b s rest allowed) in
        elim (cases_lt s.at from) [
          | inl before ↦
              let first = bytes_if_not from to s (true_spends (taken b s) rest) (not_within_below from to s before) in
              let later = stretch_is_bounded_lem (taken b s) rest from to (omega arith) order.1 in
              omega (arith, first, all, later)
          | inr inside ↦
              let first = bytes_if_within from to s (true_spends (taken b s) rest) (within from to s inside early) in
              let later = bounded_inside (taken b s) rest from to inside early order.1 in
              let less : b.rate * (to - s.at) ≤ b.rate * (to - from) = mul-le-mul_left b.rate (omega arith) in
              omega (arith, fits, first, all, later, less)
        ]
    | inr refused ↦
        let all = ap (bytes_within from to) (spends_if_refused b s rest refused) in
        let later = stretch_is_bounded_lem b rest from to within_burst (in_order_sooner b.last s.at rest order.0 order.1) in
        omega (arith, all, later)
  ]
]

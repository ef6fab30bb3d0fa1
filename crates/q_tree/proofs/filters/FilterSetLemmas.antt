-- Sets of filters as bits of two numbers.
use Rattle.std.proofs.Common.{◌≡◌, ap₂, zero, suc, ◌⊎◌, ◌∙◌, ℕ, ◌<◌, ◌≤◌, ◌-◌, ◌+◌, ◌*◌, ◌%◌, ◌^◌, ap, sym, refl, arith, bit_and, bit_or, min, inl, inr}
use Rattle.std.specs.Prelude.{true, false, ◌==◌, ◌&&◌, ◌||◌, nat_lt}
use Rattle.std.specs.Int.Count.{trailing_of_zero}
use Rattle.std.specs.Int.{bit_at, trailing_zeros, w128}
use Rattle.std.proofs.lemmas.Bool.{cases_lt, cases_eq, cond-true, cond-false, eq-eqb, lt-ltb, le-ltb, ne_eqb}
use Rattle.std.proofs.lemmas.Nat.Bits.{bit_at_and, bit_at-lt, bit_at_set_other, bit_at_set_same, bit_at-trailing_zeros, bit_at-zero}
use Rattle.q_tree.specs.filters.FilterSets.{holds}
use Rattle.q_tree.specs.declared.filters.filter_set.FilterSet.{FilterSet}

-- among the first 128, and behind them
pub holds_low : (s : FilterSet) (j : ℕ) → j < 128 → holds s j ≡ (bit_at s.low j == 1)
unfolding holds
holds_low s j low = cond-true (nat_lt j 128) (bit_at s.low j == 1) (bit_at s.high (j - 128) == 1) (lt-ltb j 128 low)

pub holds_high : (s : FilterSet) (j : ℕ) → 128 ≤ j → holds s j ≡ (bit_at s.high (j - 128) == 1)
unfolding holds
holds_high s j high = cond-false (nat_lt j 128) (bit_at s.low j == 1) (bit_at s.high (j - 128) == 1) (le-ltb j 128 high)

-- two bits that are both set
both_set : (a b : ℕ) → a < 2 → b < 2 → (min a b == 1) ≡ (a == 1 && b == 1)
both_set zero zero la lb = refl
both_set zero (suc zero) la lb = refl
both_set (suc zero) zero la lb = refl
both_set (suc zero) (suc zero) la lb = refl
both_set a (suc (suc b)) la lb = absurd (omega (arith, lb))
both_set (suc (suc a)) b la lb = absurd (omega (arith, la))

pub both_low : (s t : FilterSet) (j : ℕ) → (bit_at (bit_and s.low t.low) j == 1) ≡ (bit_at s.low j == 1 && bit_at t.low j == 1)
both_low s t j = ap (λ n. n == 1) (bit_at_and s.low t.low j) ∙ both_set (bit_at s.low j) (bit_at t.low j) (bit_at-lt s.low j) (bit_at-lt t.low j)

pub both-holds : (s t : FilterSet) (j : ℕ) → holds (record { low = bit_and s.low t.low; high = bit_and s.high t.high }) j ≡ (holds s j && holds t j)
both-holds s t j = by (cases_lt j 128)
  where
    u : FilterSet
    u = record { low = bit_and s.low t.low; high = bit_and s.high t.high }

    by : (j < 128) ⊎ (128 ≤ j) → holds u j ≡ (holds s j && holds t j)
    by (inl low) =
        holds_low u j low ∙ ap (λ n. n == 1) (bit_at_and s.low t.low j) ∙ both_set (bit_at s.low j) (bit_at t.low j) (bit_at-lt s.low j) (bit_at-lt t.low j)
        ∙ sym (ap₂ (λ a b. a && b) (holds_low s j low) (holds_low t j low))
    by (inr high) =
        holds_high u j high ∙ ap (λ n. n == 1) (bit_at_and s.high t.high (j - 128)) ∙ both_set (bit_at s.high (j - 128)) (bit_at t.high (j - 128)) (bit_at-lt s.high (j - 128)) (bit_at-lt t.high (j - 128))
        ∙ sym (ap₂ (λ a b. a && b) (holds_high s j high) (holds_high t j high))

-- one bit more
set_bit : (n k i : ℕ) → k < 128 → i < 128 → (bit_at (bit_or n (1 * 2 ^ k % 2 ^ 128)) i == 1) ≡ (i == k || bit_at n i == 1)
set_bit n k i within low = by (cases_eq i k)
  where
    by : (i ≡ k) ⊎ (i ≡ k → ⊥) → (bit_at (bit_or n (1 * 2 ^ k % 2 ^ 128)) i == 1) ≡ (i == k || bit_at n i == 1)
    by (inl same) =
        ap (λ m. m == 1) (ap (bit_at (bit_or n (1 * 2 ^ k % 2 ^ 128))) same ∙ bit_at_set_same w128 n k within)
        ∙ sym (ap (λ b. b || bit_at n i == 1) (eq-eqb i k same))
    by (inr other) =
        ap (λ m. m == 1) (bit_at_set_other w128 n k within i other) ∙ sym (ap (λ b. b || bit_at n i == 1) (ne_eqb i k other))

pub with_low-holds : (s : FilterSet) (k j : ℕ) → k < 128 → holds (record { low = bit_or s.low (1 * 2 ^ k % 2 ^ 128); high = s.high }) j ≡ (j == k || holds s j)
with_low-holds s k j within = by (cases_lt j 128)
  where
    u : FilterSet
    u = record { low = bit_or s.low (1 * 2 ^ k % 2 ^ 128); high = s.high }

    by : (j < 128) ⊎ (128 ≤ j) → holds u j ≡ (j == k || holds s j)
    by (inl low) = holds_low u j low ∙ set_bit s.low k j within low ∙ sym (ap (λ b. j == k || b) (holds_low s j low))
    by (inr high) =
        holds_high u j high ∙ sym (holds_high s j high) ∙ sym (ap (λ b. b || holds s j) (ne_eqb j k (λ e. omega (arith, e, within, high))))

-- places behind the first 128 are the same if they are counted from there
same_behind : (j k : ℕ) → 128 ≤ j → 128 ≤ k → (j == k) ≡ ((j - 128) == (k - 128))
same_behind j k high behind = by (cases_eq j k)
  where
    by : (j ≡ k) ⊎ (j ≡ k → ⊥) → (j == k) ≡ ((j - 128) == (k - 128))
    by (inl same) = eq-eqb j k same ∙ sym (eq-eqb (j - 128) (k - 128) (ap (λ n. n - 128) same))
    by (inr other) = ne_eqb j k other ∙ sym (ne_eqb (j - 128) (k - 128) (λ e. other (omega (arith, e, high, behind))))

pub with_high-holds : (s : FilterSet) (k j : ℕ) → 128 ≤ k → k < 256 → holds (record { low = s.low; high = bit_or s.high (1 * 2 ^ (k - 128) % 2 ^ 128) }) j ≡ (j == k || holds s j)
with_high-holds s k j behind within = by (cases_lt j 128)
  where
    u : FilterSet
    u = record { low = s.low; high = bit_or s.high (1 * 2 ^ (k - 128) % 2 ^ 128) }

    by : (j < 128) ⊎ (128 ≤ j) → holds u j ≡ (j == k || holds s j)
    by (inl low) =
        holds_low u j low ∙ sym (holds_low s j low) ∙ sym (ap (λ b. b || holds s j) (ne_eqb j k (λ e. omega (arith, e, low, behind))))
    by (inr high) = on (cases_lt j 256)
      where
        -- the bits above are not set
        on : (j < 256) ⊎ (256 ≤ j) → holds u j ≡ (j == k || holds s j)
        on (inl under) =
            holds_high u j high ∙ set_bit s.high (k - 128) (j - 128) (omega (arith, behind, within)) (omega (arith, high, under))
            ∙ sym (ap₂ (λ a b. a || b) (same_behind j k high behind) (holds_high s j high))
        on (inr above) =
            holds_high u j high ∙ ap (λ m. m == 1) (bit_at_set_other w128 s.high (k - 128) (omega (arith, behind, within)) (j - 128) (λ e. omega (arith, e, behind, within, above)))
            ∙ sym (holds_high s j high) ∙ sym (ap (λ b. b || holds s j) (ne_eqb j k (λ e. omega (arith, e, within, above))))

-- the lowest bit is the first filter
pub first_low-holds : (s : FilterSet) → 0 < s.low → s.low < 2 ^ 128 → holds s (trailing_zeros w128 s.low) ≡ true
first_low-holds s some fits =
    let lowest = bit_at-trailing_zeros w128 s.low some fits in
    holds_low s (trailing_zeros w128 s.low) lowest.0 ∙ ap (λ n. n == 1) lowest.1

pub first_low-none : (s : FilterSet) → 0 < s.low → s.low < 2 ^ 128 → (j : ℕ) → j < trailing_zeros w128 s.low → holds s j ≡ false
first_low-none s some fits j before =
    let lowest = bit_at-trailing_zeros w128 s.low some fits in
    holds_low s j (omega (arith, before, lowest.0)) ∙ ap (λ n. n == 1) (lowest.2 j before)

none_is : (n : ℕ) → n ≤ 0 → n ≡ 0
none_is n h = omega (arith, h)

pub first_high-holds : (s : FilterSet) → s.high < 2 ^ 128 → trailing_zeros w128 s.high + 128 < 256 → holds s (trailing_zeros w128 s.high + 128) ≡ true
first_high-holds s fits within = by (cases_lt 0 s.high)
  where
    zeros : ℕ
    zeros = trailing_zeros w128 s.high

    by : (0 < s.high) ⊎ (s.high ≤ 0) → holds s (zeros + 128) ≡ true
    by (inl some) =
        holds_high s (zeros + 128) (omega arith) ∙ ap (λ n. bit_at s.high n == 1) (omega arith)
        ∙ ap (λ n. n == 1) (bit_at-trailing_zeros w128 s.high some fits).1
    by (inr none) = absurd (omega (arith, within, ap (trailing_zeros w128) (none_is s.high none) ∙ trailing_of_zero 128))

pub first_high-none : (s : FilterSet) → s.low ≡ 0 → s.high < 2 ^ 128 → (j : ℕ) → j < trailing_zeros w128 s.high + 128 → holds s j ≡ false
first_high-none s none fits j before = by (cases_lt j 128)
  where
    zero_bit : (n i : ℕ) → n ≡ 0 → (bit_at n i == 1) ≡ false
    zero_bit n i e = ap (λ m. bit_at m i == 1) e ∙ ap (λ m. m == 1) (bit_at-zero i)

    by : (j < 128) ⊎ (128 ≤ j) → holds s j ≡ false
    by (inl low) = holds_low s j low ∙ zero_bit s.low j none
    by (inr high) = holds_high s j high ∙ on (cases_lt 0 s.high)
      where
        on : (0 < s.high) ⊎ (s.high ≤ 0) → (bit_at s.high (j - 128) == 1) ≡ false
        on (inl some) = ap (λ n. n == 1) ((bit_at-trailing_zeros w128 s.high some fits).2 (j - 128) (omega (arith, before, high)))
        on (inr empty) = zero_bit s.high (j - 128) (none_is s.high empty)

-- the set of none
pub none-holds : (j : ℕ) → holds (record { low = 0; high = 0 }) j ≡ false
none-holds j = by (cases_lt j 128)
  where
    s : FilterSet
    s = record { low = 0; high = 0 }

    by : (j < 128) ⊎ (128 ≤ j) → holds s j ≡ false
    by (inl low) = holds_low s j low ∙ ap (λ n. n == 1) (bit_at-zero j)
    by (inr high) = holds_high s j high ∙ ap (λ n. n == 1) (bit_at-zero (j - 128))

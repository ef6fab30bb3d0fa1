-- A number that is not too long, while the next one is, is the gap of the control law.
use Rattle.std.proofs.Common.{◌≡◌, ℕ, ◌+◌, ◌*◌, ◌<◌, ◌≤◌, true, false, nat_lt, arith, sym, inl, inr}
use Rattle.std.proofs.Math.Nat.{mul-le-mul, mul-le-mul_right, mul-le-mul_left}
use Rattle.std.proofs.lemmas.Bool.{ltb-true, ltb-false, lt-ltb, le-ltb, cases_lt}
use Rattle.q_codel.specs.Gap.{gap_of, IsGap}
use Rattle.q_packet.proofs.LeastLemmas.{least_is}

-- no gap is longer than the interval
pub square_above : (interval count : ℕ) → 1 ≤ count → interval * interval < (interval + 1) * (interval + 1) * count
square_above interval count counted =
    let more = mul-le-mul_left ((interval + 1) * (interval + 1)) counted in omega arith

pub IsGap_at_end : (interval count d : ℕ) → 1 ≤ count → d ≤ interval → nat_lt (interval * interval) (d * d * count) ≡ false
    → (d < interval → nat_lt (interval * interval) ((d + 1) * (d + 1) * count) ≡ true) → IsGap interval count d
IsGap_at_end interval count d counted within fits next = record {
  holds = ltb-false (interval * interval) (d * d * count) fits;
  next_fails = elim (cases_lt d interval) [
    | inl below ↦ ltb-true (interval * interval) ((d + 1) * (d + 1) * count) (next below)
    | inr above ↦ let same : d ≡ interval = omega arith in rw same (square_above interval count counted)
  ];
}

pub gap_of_is : (interval count d : ℕ) → IsGap interval count d → d ≤ interval → d ≡ gap_of interval count
unfolding gap_of
gap_of_is interval count d h within =
    sym (least_is (λ n. nat_lt (interval * interval) ((n + 1) * (n + 1) * count)) interval d within
    (λ below. lt-ltb (interval * interval) ((d + 1) * (d + 1) * count) h.next_fails)
    (λ i below. le-ltb (interval * interval) ((i + 1) * (i + 1) * count) (shorter i below))) where
      shorter : (i : ℕ) → i < d → (i + 1) * (i + 1) * count ≤ interval * interval
      shorter i below = let le : i + 1 ≤ d = omega arith in let s = mul-le-mul_right count (mul-le-mul le le) in let t = h.holds in omega arith

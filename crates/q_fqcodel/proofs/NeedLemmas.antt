-- The quanta that a flow needs, by a division, and its credits once it has got no more than these.
use Rattle.std.proofs.Common.{◌≡◌, ℕ, zero, suc, ◌+◌, ◌*◌, ◌<◌, ◌≤◌, ℤ, pos, negsuc, ◌+ℤ◌, ◌≤ℤ◌, ◌<ℤ◌, unsigned_abs, inl, inr, sym, ap, ◌∙◌, arith, mul-le-mul_left, suc-mul, add-one, ◌^◌, w64, div-add-mod', ◌⊎◌}
use Rattle.std.specs.Prelude.{◌/◌}
use Rattle.std.specs.Int.{saturate_signed}
use Rattle.std.proofs.Math.Nat.{mul-le-mul_right}
use Rattle.std.proofs.lemmas.Int.{ints}
use Rattle.std.proofs.lemmas.Nat.{mod_below}
use Rattle.std.proofs.lemmas.Bool.{true≢false}
use Rattle.q_packet.proofs.LeastLemmas.{least_gt, least_is}
use Rattle.q_fqcodel.specs.Entry.{Entry}
use Rattle.q_fqcodel.specs.Quanta.{need, given}
use Rattle.q_fqcodel.proofs.QuantaLemmas.{lt_test, le_test, pays, credits_sign}

-- credits that are not above 0 are a debt
debt : (z : ℤ) (m : ℕ) → z ≤ℤ pos 0 → m ≤ unsigned_abs z → (z +ℤ pos m) ≤ℤ pos 0
debt (pos n) m low within = omega (arith, ints)
debt (negsuc n) m low within = omega (arith, ints)

paid_off : (z : ℤ) (m : ℕ) → z ≤ℤ pos 0 → unsigned_abs z < m → pos 0 <ℤ (z +ℤ pos m)
paid_off (pos n) m low past = omega (arith, ints)
paid_off (negsuc n) m low past = omega (arith, ints)

-- n / q quanta are within n, and one more is past it
quotient : (n q : ℕ) → 1 ≤ q → ((n / q) * q ≤ n) × (n < (n / q + 1) * q)
quotient n q one = omega (arith, div-add-mod' n q, mod_below n q one, suc-mul (n / q) q, add-one (n / q))

pub need_is : (q : ℕ) (e : Entry) → 1 ≤ q → e.credits ≤ℤ pos 0 → unsigned_abs e.credits / q + 1 ≡ need q e
unfolding need
need_is q e one low =
    let z : ℤ = e.credits in
    let n : ℕ = unsigned_abs z in
    let m : ℕ = n / q + 1 in
    let bounds = quotient n q one in
    let small : n / q ≤ (n / q) * q = omega (arith, mul-le-mul_left (n / q) one) in
    sym (least_is (pays z q) (suc n) m (omega (arith, bounds.0, small))
    (λ _. lt_test (pos 0) (z +ℤ pos (m * q)) (paid_off z (m * q) low bounds.1))
    (λ i less.
    let some : i * q ≤ (n / q) * q = mul-le-mul_right q (omega (arith, less)) in
    le_test (pos 0) (z +ℤ pos (i * q)) (debt z (i * q) low (omega (arith, some, bounds.0)))))

-- before it has got as many as it needs its credits are not above 0
short : (q : ℕ) (e : Entry) (i : ℕ) → i < need q e → (e.credits +ℤ pos (i * q)) ≤ℤ pos 0
unfolding need
short q e i less =
    let z : ℤ = e.credits +ℤ pos (i * q) in
    elim (credits_sign z) [
      | inl high ↦ absurd (true≢false (sym (lt_test (pos 0) z high) ∙ least_gt (pays e.credits q) (suc (unsigned_abs e.credits)) i less))
      | inr low ↦ low
    ]

-- so many quanta are within 64 bits, and leave the credits at a quantum at most, or as they are
pub record Fits (q n : ℕ) (z : ℤ) : Type 0 where
  pub few : n * q ≤ unsigned_abs z + q
  pub low : z ≤ℤ (z +ℤ pos (n * q))
  pub high : ((z +ℤ pos (n * q)) ≤ℤ pos q) ⊎ (n * q ≡ 0)

fits_more : (q m : ℕ) (z : ℤ) → (z +ℤ pos (m * q)) ≤ℤ pos 0 → Fits q (suc m) z
fits_more q m z short =
    let more : suc m * q ≡ m * q + q = suc-mul m q in
    record { few = omega (arith, ints, short, more); low = omega (arith, ints); high = inl (omega (arith, ints, short, more)) }

pub needed_fits : (q n : ℕ) (e : Entry) → n ≤ need q e → Fits q n e.credits
needed_fits q zero e within = record { few = omega arith; low = omega (arith, ints); high = inr (omega arith) }
needed_fits q (suc m) e within = fits_more q m e.credits (short q e m (omega (arith, within)))

-- credits within 64 bits stay as they are
pub saturated : (z : ℤ) → pos 0 ≤ℤ (z +ℤ pos (2 ^ 63)) → z <ℤ pos (2 ^ 63) → saturate_signed w64 z ≡ z
saturated (pos n) low high = ap pos (omega (arith, ints, high))
saturated (negsuc n) low high = ap negsuc (omega (arith, ints, low))

-- an entry with n quanta more
pub given_by : (q n : ℕ) (e : Entry) (z : ℤ) → z ≡ e.credits +ℤ pos (n * q) → record { flow = e.flow; credits = z } ≡ given q n e
unfolding given
given_by q n e z is = ap (λ (z : ℤ). record e { credits = z }) is

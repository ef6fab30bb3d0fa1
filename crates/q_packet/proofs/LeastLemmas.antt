-- The least number below a bound at which a test holds: it is within the bound, the test holds there and at no lower
-- number, and nothing else is so. `p` is the test and `n` the bound throughout.
use Rattle.std.proofs.Common.{◌≡◌, ℕ, zero, suc, ◌<◌, ◌≤◌, Bool, true, false, inl, inr, refl, sym, ap, ◌∙◌, arith}
use Rattle.std.proofs.lemmas.Bool.{cases_Bool, cases_lt, cond-true, cond-false, true≢false}
use Rattle.q_packet.specs.Least.{least}

-- where the test holds at 0
pub least_here : (p : ℕ → Bool) (n : ℕ) → p zero ≡ true → least p n ≡ 0
least_here p zero here = refl
least_here p (suc n) here = cond-true (p zero) zero (suc (least (λ i. p (suc i)) n)) here

-- where it does not
pub least_later : (p : ℕ → Bool) (n : ℕ) → p zero ≡ false → least p (suc n) ≡ suc (least (λ i. p (suc i)) n)
least_later p n not_here = cond-false (p zero) zero (suc (least (λ i. p (suc i)) n)) not_here

pub least_le : (p : ℕ → Bool) (n : ℕ) → least p n ≤ n
least_le p zero = omega arith
least_le p (suc n) = elim (cases_Bool (p zero)) [
  | inl here ↦ omega (arith, least_here p (suc n) here)
  | inr later ↦ omega (arith, least_later p n later, least_le (λ i. p (suc i)) n)
]

-- below the bound, the test holds at the least number
pub least_holds : (p : ℕ → Bool) (n : ℕ) → least p n < n → p (least p n) ≡ true
least_holds p zero below = absurd (omega arith)
least_holds p (suc n) below = elim (cases_Bool (p zero)) [
  | inl here ↦ ap p (least_here p (suc n) here) ∙ here
  | inr later ↦
      let e = least_later p n later in
      ap p e ∙ least_holds (λ i. p (suc i)) n (omega (arith, e))
]

-- it holds at no lower number
pub least_gt : (p : ℕ → Bool) (n i : ℕ) → i < least p n → p i ≡ false
least_gt p zero i lower = absurd (omega arith)
least_gt p (suc n) zero lower = elim (cases_Bool (p zero)) [
  | inl here ↦ absurd (omega (arith, least_here p (suc n) here))
  | inr later ↦ later
]
least_gt p (suc n) (suc i) lower = elim (cases_Bool (p zero)) [
  | inl here ↦ absurd (omega (arith, least_here p (suc n) here))
  | inr later ↦ least_gt (λ j. p (suc j)) n i (omega (arith, least_later p n later))
]

-- a number at which it holds is no lower
pub least_at_most : (p : ℕ → Bool) (n k : ℕ) → p k ≡ true → least p n ≤ k
least_at_most p n k holds = elim (cases_lt k (least p n)) [
  | inl lower ↦ absurd (true≢false (sym holds ∙ least_gt p n k lower))
  | inr higher ↦ higher
]

-- where it holds at some number below the bound, the least is below the bound
pub least_lt : (p : ℕ → Bool) (n k : ℕ) → k < n → p k ≡ true → least p n < n
least_lt p n k below holds = omega (arith, least_at_most p n k holds)

-- where it fails at each number below k, the least is no lower than k
pub least_at_least : (p : ℕ → Bool) (n k : ℕ) → k ≤ n → ((i : ℕ) → i < k → p i ≡ false) → k ≤ least p n
least_at_least p n k within fails = elim (cases_lt (least p n) k) [
  | inl lower ↦ absurd (true≢false (sym (least_holds p n (omega arith)) ∙ fails (least p n) lower))
  | inr higher ↦ higher
]

-- the least number is the one within the bound with these two facts
pub least_is : (p : ℕ → Bool) (n k : ℕ) → k ≤ n → (k < n → p k ≡ true) → ((i : ℕ) → i < k → p i ≡ false) → least p n ≡ k
least_is p n k within holds fails =
    let high : k ≤ least p n = least_at_least p n k within fails in
    elim (cases_lt k n) [
      | inl below ↦ omega (arith, least_at_most p n k (holds below))
      | inr at_end ↦ omega (arith, least_le p n)
    ]

-- where it fails at each number below the bound, the least is the bound
pub least_none : (p : ℕ → Bool) (n : ℕ) → ((i : ℕ) → i < n → p i ≡ false) → least p n ≡ n
least_none p n fails = least_is p n n (omega arith) (λ below. absurd (omega arith)) fails

-- tests that agree below the bound have the same least number
pub least_same : (p q : ℕ → Bool) (n : ℕ) → ((i : ℕ) → i < n → p i ≡ q i) → least p n ≡ least q n
least_same p q n agree = least_is p n (least q n) (least_le q n)
    (λ below. agree (least q n) below ∙ least_holds q n below)
    (λ i lower. agree i (omega (arith, least_le q n)) ∙ least_gt q n i lower)

-- What one quantum does to the number of quanta that a flow needs, and to those who stay in a list and those who leave it.
use Rattle.std.proofs.Common.{◌≡◌, ℕ, zero, suc, ◌+◌, ◌*◌, ◌<◌, ◌≤◌, ℤ, pos, negsuc, ◌+ℤ◌, ◌≤ℤ◌, ◌<ℤ◌, int_lt, unsigned_abs, nat_lt, nat_le, Bool, true, false, cond, List, [], ◌∷◌, ◌++◌, map, refl, sym, ap, ◌∙◌, arith, ⊎_elim, mul-le-mul_left, suc-mul, ap₂, ◌-◌, ◌⊎◌, inl, inr}
use Rattle.std.proofs.lemmas.Int.{ints}
use Rattle.std.proofs.lemmas.Bool.{lt-ltb, le-ltb, le-leb, lt-leb, cases_lt, cond-true, cond-false}
use Rattle.std.proofs.lemmas.List.{map-append}
use Rattle.std.proofs.lemmas.List.Elements.{filter-append}
use Rattle.q_packet.specs.Least.{least}
use Rattle.q_packet.proofs.LeastLemmas.{least_same}
use Rattle.q_fqcodel.specs.Quanta.{need, given, stay, leave}
use Rattle.q_fqcodel.specs.Entry.{Entry}

-- Any bound from which on the test has held gives the same least number.
pub least_bound : (p : ℕ → Bool) (m a b : ℕ) → p m ≡ true → m ≤ a → m ≤ b → least p a ≡ least p b
least_bound p zero zero zero h l k = refl
least_bound p zero zero (suc b) h l k = sym (cond-true (p 0) _ _ h)
least_bound p zero (suc a) zero h l k = cond-true (p 0) _ _ h
least_bound p zero (suc a) (suc b) h l k = cond-true (p 0) _ _ h ∙ sym (cond-true (p 0) _ _ h)
least_bound p (suc m) zero b h l k = absurd (omega arith)
least_bound p (suc m) (suc a) zero h l k = absurd (omega arith)
least_bound p (suc m) (suc a) (suc b) h l k =
    ap (λ n. cond (p 0) zero (suc n)) (least_bound (λ i. p (suc i)) m a b h (omega arith) (omega arith))

pub lt_test : (a b : ℤ) → a <ℤ b → int_lt a b ≡ true
lt_test a b h = grind (arith, ints)

pub le_test : (a b : ℤ) → b ≤ℤ a → int_lt a b ≡ false
le_test a b h = grind (arith, ints)

abbrev pub pays : ℤ → ℕ → ℕ → Bool
pays z q k = int_lt (pos 0) (z +ℤ pos (k * q))

pays_from : (z : ℤ) (q k : ℕ) → pos 0 <ℤ (z +ℤ pos (k * q)) → pays z q k ≡ true
pays_from z q k h = lt_test (pos 0) (z +ℤ pos (k * q)) h

pays_not : (z : ℤ) (q k : ℕ) → (z +ℤ pos (k * q)) ≤ℤ pos 0 → pays z q k ≡ false
pays_not z q k h = le_test (pos 0) (z +ℤ pos (k * q)) h

times_up : (k q : ℕ) → 1 ≤ q → k ≤ k * q
times_up k q h = omega (arith, mul-le-mul_left k h)

-- one quantum first, and then k, are k + 1
pub quantum_more : (z : ℤ) (q k : ℕ) → (z +ℤ pos (1 * q)) +ℤ pos (k * q) ≡ z +ℤ pos (suc k * q)
quantum_more z q k = let m : suc k * q ≡ k * q + q = suc-mul k q in omega (arith, ints, m)

pub credits_sign : (z : ℤ) → (pos 0 <ℤ z) ⊎ (z ≤ℤ pos 0)
credits_sign (pos zero) = inr (omega (arith, ints))
credits_sign (pos (suc n)) = inl (omega (arith, ints))
credits_sign (negsuc n) = inr (omega (arith, ints))

-- A flow with credits needs no quantum.
pub need_none : (q : ℕ) (e : Entry) → pos 0 <ℤ e.credits → need q e ≡ 0
unfolding need
need_none q e h = cond-true (pays e.credits q 0) _ _ (pays_from e.credits q 0 (omega (arith, ints, h)))

-- how far a flow with -(n + 1) credits is from 0 after one quantum
abs_more : (n q : ℕ) → q ≤ suc n → unsigned_abs (negsuc n +ℤ pos (1 * q)) + q ≡ suc n
abs_more n q h = omega (arith, ints)

-- a number of quanta that is enough for a flow without credits, and within both bounds
enough : (q : ℕ) (z : ℤ) → 1 ≤ q → z ≤ℤ pos 0 → (m : ℕ) × (pays z q (suc m) ≡ true) × (m ≤ unsigned_abs z) × (m ≤ suc (unsigned_abs (z +ℤ pos (1 * q))))
enough q (pos n) h low = (0, pays_from (pos n) q 1 (omega (arith, ints)), omega arith, omega arith)
enough q (negsuc n) h low =
    ⊎_elim
    (λ (far : q < suc (suc n)).
    let k : ℕ = suc n - q in
    let u : suc k ≤ suc k * q = times_up (suc k) q h in
    let m : suc (suc k) * q ≡ suc k * q + q = suc-mul (suc k) q in
    let a : unsigned_abs (negsuc n +ℤ pos (1 * q)) + q ≡ suc n = abs_more n q (omega arith) in
    (suc k, pays_from (negsuc n) q (suc (suc k)) (omega (arith, ints, u, m)), omega arith, omega arith))
    (λ (near : suc (suc n) ≤ q). (0, pays_from (negsuc n) q 1 (omega (arith, ints)), omega arith, omega arith))
    (cases_lt q (suc (suc n)))

-- A flow without credits needs one quantum more than it does with one.
pub need_more : (q : ℕ) (e : Entry) → 1 ≤ q → e.credits ≤ℤ pos 0 → need q e ≡ suc (need q (given q 1 e))
unfolding need given
need_more q e h low =
    let z : ℤ = e.credits in
    let w = enough q z h low in
    cond-false (pays z q 0) _ _ (pays_not z q 0 (omega (arith, ints)))
    ∙ ap suc (least_bound (λ i. pays z q (suc i)) w.0 (unsigned_abs z) (suc (unsigned_abs (z +ℤ pos (1 * q)))) w.1 w.2 w.3
    ∙ least_same (λ i. pays z q (suc i)) (pays (z +ℤ pos (1 * q)) q) (suc (unsigned_abs (z +ℤ pos (1 * q))))
    (λ i _. ap (int_lt (pos 0)) (sym (quantum_more z q i))))

pub given_more : (q n : ℕ) (e : Entry) → given q n (given q 1 e) ≡ given q (suc n) e
unfolding given
given_more q n e = ap (λ z. record e { credits = z }) (quantum_more e.credits q n)

pub given_none : (q : ℕ) (e : Entry) → given q 0 e ≡ e
unfolding given
given_none q e =
    let z : e.credits +ℤ pos (0 * q) ≡ e.credits = omega (arith, ints) in
    ap (λ z. record e { credits = z }) z

-- n quanta lower the need by n, where it is no less
pub need-given : (q n : ℕ) (e : Entry) → 1 ≤ q → n ≤ need q e → need q e ≡ n + need q (given q n e)
need-given q zero e h within = omega (arith, ap (need q) (given_none q e))
need-given q (suc n) e h within =
    ⊎_elim
    (λ (high : pos 0 <ℤ e.credits). absurd (omega (arith, within, need_none q e high)))
    (λ (low : e.credits ≤ℤ pos 0).
    let more : need q e ≡ suc (need q (given q 1 e)) = need_more q e h low in
    omega (arith, more, need-given q n (given q 1 e) h (omega (arith, more, within)), ap (need q) (given_more q n e)))
    (credits_sign e.credits)

-- an entry with one quantum more
pub given_is : (q : ℕ) (e : Entry) (z : ℤ) → z ≡ e.credits +ℤ pos q → record { flow = e.flow; credits = z } ≡ given q 1 e
unfolding given
given_is q e z h = let w : z ≡ e.credits +ℤ pos (1 * q) = omega (arith, ints, h) in ap (λ (z : ℤ). record e { credits = z }) w

pub flow-given : (q n : ℕ) (e : Entry) → (given q n e).flow ≡ e.flow
unfolding given
flow-given q n e = refl

-- ---- those who stay and those who leave

pub stay-append : (q n : ℕ) (xs ys : List Entry) → stay q n (xs ++ ys) ≡ stay q n xs ++ stay q n ys
unfolding stay
stay-append q n xs ys =
    ap (map (given q n)) (filter-append (λ e. nat_le n (need q e)) xs ys) ∙ map-append (given q n) _ _

pub leave-append : (q n : ℕ) (xs ys : List Entry) → leave q n (xs ++ ys) ≡ leave q n xs ++ leave q n ys
unfolding leave
leave-append q n xs ys =
    ap (map (λ (e : Entry). e.flow)) (filter-append (λ e. nat_lt (need q e) n) xs ys) ∙ map-append (λ (e : Entry). e.flow) _ _

-- one entry
pub stay_kept : (q n : ℕ) (e : Entry) (es : List Entry) → n ≤ need q e → stay q n (e ∷ es) ≡ given q n e ∷ stay q n es
unfolding stay
stay_kept q n e es h = ap (map (given q n)) (cond-true (nat_le n (need q e)) _ _ (le-leb _ _ h))

pub stay_dropped : (q n : ℕ) (e : Entry) (es : List Entry) → need q e < n → stay q n (e ∷ es) ≡ stay q n es
unfolding stay
stay_dropped q n e es h = ap (map (given q n)) (cond-false (nat_le n (need q e)) _ _ (lt-leb _ _ h))

pub leave_kept : (q n : ℕ) (e : Entry) (es : List Entry) → n ≤ need q e → leave q n (e ∷ es) ≡ leave q n es
unfolding leave
leave_kept q n e es h = ap (map (λ (e : Entry). e.flow)) (cond-false (nat_lt (need q e) n) _ _ (le-ltb _ _ h))

pub leave_dropped : (q n : ℕ) (e : Entry) (es : List Entry) → need q e < n → leave q n (e ∷ es) ≡ e.flow ∷ leave q n es
unfolding leave
leave_dropped q n e es h = ap (map (λ (e : Entry). e.flow)) (cond-true (nat_lt (need q e) n) _ _ (lt-ltb _ _ h))

pub stay-nil : (q n : ℕ) → stay q n [] ≡ []
unfolding stay
stay-nil q n = refl

pub leave-nil : (q n : ℕ) → leave q n [] ≡ []
unfolding leave
leave-nil q n = refl

-- n + 1 visits of a flow are n of the flow with one quantum, where it needs one
pub stay_shift : (q n : ℕ) (e : Entry) → 1 ≤ q → e.credits ≤ℤ pos 0 → stay q (suc n) (e ∷ []) ≡ stay q n (given q 1 e ∷ [])
stay_shift q n e h low =
    let k : need q e ≡ suc (need q (given q 1 e)) = need_more q e h low in
    ⊎_elim
    (λ (few : need q (given q 1 e) < n).
    stay_dropped q (suc n) e [] (omega arith) ∙ stay-nil q (suc n) ∙ sym (stay-nil q n) ∙ sym (stay_dropped q n (given q 1 e) [] few))
    (λ (more : n ≤ need q (given q 1 e)).
    stay_kept q (suc n) e [] (omega arith)
    ∙ ap₂ (λ (a : Entry) (l : List Entry). a ∷ l) (sym (given_more q n e)) (stay-nil q (suc n) ∙ sym (stay-nil q n))
    ∙ sym (stay_kept q n (given q 1 e) [] more))
    (cases_lt (need q (given q 1 e)) n)

pub leave_shift : (q n : ℕ) (e : Entry) → 1 ≤ q → e.credits ≤ℤ pos 0 → leave q (suc n) (e ∷ []) ≡ leave q n (given q 1 e ∷ [])
leave_shift q n e h low =
    let k : need q e ≡ suc (need q (given q 1 e)) = need_more q e h low in
    ⊎_elim
    (λ (few : need q (given q 1 e) < n).
    leave_dropped q (suc n) e [] (omega arith)
    ∙ ap₂ (λ (a : ℕ) (l : List ℕ). a ∷ l) (sym (flow-given q 1 e)) (leave-nil q (suc n) ∙ sym (leave-nil q n))
    ∙ sym (leave_dropped q n (given q 1 e) [] few))
    (λ (more : n ≤ need q (given q 1 e)).
    leave_kept q (suc n) e [] (omega arith) ∙ leave-nil q (suc n) ∙ sym (leave-nil q n) ∙ sym (leave_kept q n (given q 1 e) [] more))
    (cases_lt (need q (given q 1 e)) n)

-- no visit changes nothing
pub stay_none : (q : ℕ) (es : List Entry) → stay q 0 es ≡ es
stay_none q [] = stay-nil q 0
stay_none q (e ∷ es) =
    stay_kept q 0 e es (omega arith) ∙ ap₂ (λ (a : Entry) (l : List Entry). a ∷ l) (given_none q e) (stay_none q es)

pub leave_none : (q : ℕ) (es : List Entry) → leave q 0 es ≡ []
leave_none q [] = leave-nil q 0
leave_none q (e ∷ es) = leave_kept q 0 e es (omega arith) ∙ leave_none q es

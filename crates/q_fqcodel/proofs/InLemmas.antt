-- The entries of a list, one by one: where a flow stands at most once, what is summed over its entries is that of one.
use Rattle.std.proofs.Common.{◌≡◌, ◌≢◌, ℕ, zero, suc, ◌<◌, ◌≤◌, ◌⊎◌, inl, inr, ◌==◌, ℤ, true, false, cond, List, [], ◌∷◌, ◌++◌, map, take, drop, sum_by, Option, Some, option_map, find, refl, sym, ap, ◌∙◌, arith, ⊎_elim, subst, unwrap_or}
use Rattle.std.specs.Prelude.{slice_get}
use Rattle.std.proofs.lemmas.Bool.{cases_Bool, cases_eq, cases_lt, cond-true, cond-false, eq-eqb, ne_eqb, eqb-true}
use Rattle.std.proofs.lemmas.List.{take-append-drop}
use Rattle.std.proofs.lemmas.List.Sums.{sum_by-cons}
use Rattle.q_fqcodel.specs.Entry.{Entry}
use Rattle.q_fqcodel.specs.Lawful.{times}
use Rattle.q_fqcodel.specs.Quanta.{need, given, stay}
use Rattle.q_fqcodel.proofs.LawfulLemmas.{one, times-cons, one_own}
use Rattle.q_fqcodel.proofs.QuantaLemmas.{stay-nil, stay_kept, stay_dropped}

-- an entry of a list
abbrev pub In : Entry → List Entry → Type 0
In e [] = ⊥
In e (x ∷ xs) = (x ≡ e) ⊎ In e xs

pub In_left : (e : Entry) (xs ys : List Entry) → In e xs → In e (xs ++ ys)
In_left e [] ys h = absurd h
In_left e (x ∷ xs) ys h = ⊎_elim (λ (a : x ≡ e). inl a) (λ (b : In e xs). inr (In_left e xs ys b)) h

pub In_right : (e : Entry) (xs ys : List Entry) → In e ys → In e (xs ++ ys)
In_right e [] ys h = h
In_right e (x ∷ xs) ys h = inr (In_right e xs ys h)

pub In_either : (e : Entry) (xs ys : List Entry) → In e (xs ++ ys) → In e xs ⊎ In e ys
In_either e [] ys h = inr h
In_either e (x ∷ xs) ys h =
    ⊎_elim (λ (a : x ≡ e). inl (inl a))
    (λ (b : In e (xs ++ ys)). ⊎_elim (λ (l : In e xs). inl (inr l)) (λ (r : In e ys). inr r) (In_either e xs ys b)) h

pub In_taken : (e : Entry) (n : ℕ) (xs : List Entry) → In e (take n xs) → In e xs
In_taken e n xs h = subst (In e) (take-append-drop n xs) (In_left e (take n xs) (drop n xs) h)

pub In_dropped : (e : Entry) (n : ℕ) (xs : List Entry) → In e (drop n xs) → In e xs
In_dropped e n xs h = subst (In e) (take-append-drop n xs) (In_right e (take n xs) (drop n xs) h)

pub In_mapped : (f : Entry → Entry) (a : Entry) (xs : List Entry) → In a (map f xs) → (x : Entry) × In x xs × (f x ≡ a)
In_mapped f a [] h = absurd h
In_mapped f a (x ∷ xs) h =
    ⊎_elim (λ (here : f x ≡ a). (x, inl refl, here)) (λ (there : In a (map f xs)). let r = In_mapped f a xs there in (r.0, inr r.1, r.2)) h

-- one that has stayed got all its quanta
pub In_stayed : (q k : ℕ) (a : Entry) (es : List Entry) → In a (stay q k es) → (x : Entry) × In x es × (k ≤ need q x) × (given q k x ≡ a)
In_stayed q k a [] h = absurd (subst (In a) (stay-nil q k) h)
In_stayed q k a (x ∷ xs) h =
    ⊎_elim
    (λ (few : need q x < k). let r = In_stayed q k a xs (subst (In a) (stay_dropped q k x xs few) h) in (r.0, inr r.1, r.2, r.3))
    (λ (more : k ≤ need q x).
    let w : (given q k x ≡ a) ⊎ In a (stay q k xs) = subst (In a) (stay_kept q k x xs more) h in
    ⊎_elim (λ (here : given q k x ≡ a). (x, inl refl, more, here))
    (λ (there : In a (stay q k xs)). let r = In_stayed q k a xs there in (r.0, inr r.1, r.2, r.3)) w)
    (cases_lt (need q x) k)

-- the entry at a place is before or behind another place
pub In_before : (e : Entry) (i n : ℕ) (xs : List Entry) → slice_get xs i ≡ Some e → i < n → In e (take n xs)
In_before e i n [] at before = absurd cc
In_before e i zero (x ∷ xs) at before = absurd (omega arith)
In_before e zero (suc n) (x ∷ xs) at before = inl (ap (λ (o : Option Entry). unwrap_or o x) at)
In_before e (suc i) (suc n) (x ∷ xs) at before = inr (In_before e i n xs at (omega arith))

pub In_behind : (e : Entry) (i n : ℕ) (xs : List Entry) → slice_get xs i ≡ Some e → n ≤ i → In e (drop n xs)
In_behind e i n [] at behind = absurd cc
In_behind e zero zero (x ∷ xs) at behind = inl (ap (λ (o : Option Entry). unwrap_or o x) at)
In_behind e (suc i) zero (x ∷ xs) at behind = inr (In_behind e i zero xs at (omega arith))
In_behind e zero (suc n) (x ∷ xs) at behind = absurd (omega arith)
In_behind e (suc i) (suc n) (x ∷ xs) at behind = In_behind e i n xs at (omega arith)

-- the first entry of a flow
pub In_found : (n : ℕ) (xs : List Entry) (z : ℤ) → option_map (λ (e : Entry). e.credits) (find (λ (e : Entry). e.flow == n) xs) ≡ Some z → (e : Entry) × In e xs × (e.flow ≡ n) × (e.credits ≡ z)
In_found n [] z h = absurd cc
In_found n (x ∷ xs) z h =
    let f = λ (o : Option Entry). option_map (λ (e : Entry). e.credits) o in
    ⊎_elim
    (λ (own : (x.flow == n) ≡ true).
    let here : Some x.credits ≡ Some z = ap f (sym (cond-true (x.flow == n) (Some x) (find (λ (e : Entry). e.flow == n) xs) own)) ∙ h in
    (x, inl refl, eqb-true x.flow n own, ap (λ (o : Option ℤ). unwrap_or o z) here))
    (λ (other : (x.flow == n) ≡ false).
    let r = In_found n xs z (ap f (sym (cond-false (x.flow == n) (Some x) (find (λ (e : Entry). e.flow == n) xs) other)) ∙ h) in
    (r.0, inr r.1, r.2, r.3))
    (cases_Bool (x.flow == n))

-- ---- a flow that stands in a list at most once

pub one_at : (n : ℕ) (x : Entry) → x.flow ≡ n → one n x ≡ 1
one_at n x own = ap (λ (k : ℕ). one k x) (sym own) ∙ one_own x

pub In_counted : (n : ℕ) (e : Entry) (es : List Entry) → In e es → e.flow ≡ n → 1 ≤ times n es
In_counted n e [] h own = absurd h
In_counted n e (x ∷ xs) h own =
    ⊎_elim
    (λ (here : x ≡ e). omega (arith, times-cons n x xs, one_at n x (ap (λ (y : Entry). y.flow) here ∙ own)))
    (λ (there : In e xs). omega (arith, times-cons n x xs, In_counted n e xs there own)) h

pub same_entry : (n : ℕ) (e x : Entry) (es : List Entry) → In e es → In x es → e.flow ≡ n → x.flow ≡ n → times n es ≤ 1 → e ≡ x
same_entry n e x [] h k own own' once = absurd h
same_entry n e x (y ∷ ys) h k own own' once =
    ⊎_elim
    (λ (here : y ≡ e).
    let first : one n y ≡ 1 = one_at n y (ap (λ (z : Entry). z.flow) here ∙ own) in
    ⊎_elim (λ (here' : y ≡ x). sym here ∙ here') (λ (there' : In x ys). absurd (omega (arith, once, times-cons n y ys, first, In_counted n x ys there' own'))) k)
    (λ (there : In e ys).
    ⊎_elim
    (λ (here' : y ≡ x). absurd (omega (arith, once, times-cons n y ys, one_at n y (ap (λ (z : Entry). z.flow) here' ∙ own'), In_counted n e ys there own)))
    (λ (there' : In x ys). same_entry n e x ys there there' own own' (omega (arith, once, times-cons n y ys))) k)
    h

-- a number for each entry of flow n, and 0 for the others
abbrev pub at : ℕ → (Entry → ℕ) → Entry → ℕ
at n f e = cond (e.flow == n) (f e) 0

pub at_own : (n : ℕ) (f : Entry → ℕ) (e : Entry) → e.flow ≡ n → at n f e ≡ f e
at_own n f e own = cond-true (e.flow == n) (f e) 0 (eq-eqb e.flow n own)

pub at_other : (n : ℕ) (f : Entry → ℕ) (e : Entry) → e.flow ≢ n → at n f e ≡ 0
at_other n f e other = cond-false (e.flow == n) (f e) 0 (ne_eqb e.flow n other)

pub sum_none : (n : ℕ) (f : Entry → ℕ) (es : List Entry) → times n es ≡ 0 → sum_by (at n f) es ≡ 0
sum_none n f [] none = refl
sum_none n f (x ∷ xs) none =
    ⊎_elim
    (λ (own : x.flow ≡ n). absurd (omega (arith, none, times-cons n x xs, one_at n x own)))
    (λ (other : x.flow ≢ n). omega (arith, sum_by-cons (at n f) x xs, at_other n f x other, sum_none n f xs (omega (arith, none, times-cons n x xs))))
    (cases_eq x.flow n)

pub sum_once : (n : ℕ) (f : Entry → ℕ) (e : Entry) (es : List Entry) → In e es → e.flow ≡ n → times n es ≤ 1 → sum_by (at n f) es ≡ f e
sum_once n f e [] h own once = absurd h
sum_once n f e (x ∷ xs) h own once =
    ⊎_elim
    (λ (here : x ≡ e).
    let first : x.flow ≡ n = ap (λ (y : Entry). y.flow) here ∙ own in
    omega (arith, sum_by-cons (at n f) x xs, at_own n f x first, ap f here, sum_none n f xs (omega (arith, once, times-cons n x xs, one_at n x first))))
    (λ (there : In e xs).
    let rest : 1 ≤ times n xs = In_counted n e xs there own in
    ⊎_elim
    (λ (own' : x.flow ≡ n). absurd (omega (arith, once, times-cons n x xs, one_at n x own', rest)))
    (λ (other : x.flow ≢ n). omega (arith, sum_by-cons (at n f) x xs, at_other n f x other, sum_once n f e xs there own (omega (arith, once, times-cons n x xs))))
    (cases_eq x.flow n))
    h

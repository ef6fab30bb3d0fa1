-- Look-ups by a key in a list with one more at its end, without the members of one key, and with members changed whose
-- keys stay.
use Rattle.std.proofs.Common.{◌≡◌, ℕ, Bool, true, false, eqb, ◌||◌, not, cond, List, [], ◌∷◌, ◌++◌, map, Some, refl, sym, ap, ◌∙◌, inl, inr}
use Rattle.std.specs.Prelude.{◌==◌}
use Rattle.std.specs.List.{list_any, find, filter}
use Rattle.std.proofs.lemmas.Bool.{eqb-true, false≢true, or_parts, or_from, cases_Bool}
use Rattle.q_drr.proofs.DifferLemmas.{Differ}
use Rattle.q_drr.proofs.NameLemmas.{eqb_swap}

or_nothing : (t : Bool) → (t || false) ≡ t
or_nothing true = refl
or_nothing false = refl

or_joined : (a b c : Bool) → (a || (b || c)) ≡ ((a || b) || c)
or_joined true b c = refl
or_joined false b c = refl

module _ {X : Type 0} (key : X → ℕ) where
  -- whether a member has this key, and the first that has
  abbrev pub has : ℕ → List X → Bool
  has n xs = list_any (λ x. n == key x) xs

  abbrev pub others : ℕ → List X → List X
  others n xs = filter (λ x. not (n == key x)) xs

  -- one more at the end
  pub has_push : (n : ℕ) (y : X) (xs : List X) → has n (xs ++ y ∷ []) ≡ (has n xs || eqb n (key y))
  has_push n y [] = or_nothing (eqb n (key y))
  has_push n y (x ∷ xs) = ap (λ t. eqb n (key x) || t) (has_push n y xs) ∙ or_joined (eqb n (key x)) (has n xs) (eqb n (key y))

  pub find_push : (n : ℕ) (y : X) (xs : List X) → has n xs ≡ true → find (λ x. n == key x) (xs ++ y ∷ []) ≡ find (λ x. n == key x) xs
  find_push n y [] there = absurd (false≢true there)
  find_push n y (x ∷ xs) there = elim (cases_Bool (eqb n (key x))) [
    | inl e ↦ ap (λ (t : Bool). cond t (Some x) (find (λ x. n == key x) (xs ++ y ∷ []))) e ∙ ap (λ (t : Bool). cond t (Some x) (find (λ x. n == key x) xs)) (sym e)
    | inr e ↦ ap (λ o. cond (n == key x) (Some x) o) (find_push n y xs (sym (ap (λ t. t || has n xs) e) ∙ there))
  ]

  pub differ_push : (y : X) (xs : List X) → Differ key xs → has (key y) xs ≡ false → Differ key (xs ++ y ∷ [])
  differ_push y [] d absent = (refl, tt)
  differ_push y (x ∷ xs) d absent =
      let parts = or_parts (eqb (key y) (key x)) (has (key y) xs) absent in
      (has_push (key x) y xs ∙ or_from (has (key x) xs) (eqb (key x) (key y)) d.0 (eqb_swap (key y) (key x) parts.0), differ_push y xs d.1 parts.1)

  -- without the members of one key
  pub has_others : (m n : ℕ) (xs : List X) → eqb n m ≡ false → has m (others n xs) ≡ has m xs
  has_others m n [] apart = refl
  has_others m n (x ∷ xs) apart = elim (cases_Bool (eqb n (key x))) [
    | inl e ↦ ap (λ t. has m (cond (not t) (x ∷ others n xs) (others n xs))) e ∙ has_others m n xs apart
        ∙ ap (λ t. t || has m xs) (sym (ap (eqb m) (sym (eqb-true n (key x) e)) ∙ eqb_swap n m apart))
    | inr e ↦ ap (λ t. has m (cond (not t) (x ∷ others n xs) (others n xs))) e ∙ ap (λ t. eqb m (key x) || t) (has_others m n xs apart)
  ]

  pub find_others : (m n : ℕ) (xs : List X) → eqb n m ≡ false → find (λ x. m == key x) (others n xs) ≡ find (λ x. m == key x) xs
  find_others m n [] apart = refl
  find_others m n (x ∷ xs) apart = elim (cases_Bool (eqb n (key x))) [
    | inl e ↦ ap (λ t. find (λ x. m == key x) (cond (not t) (x ∷ others n xs) (others n xs))) e ∙ find_others m n xs apart
        ∙ ap (λ (t : Bool). cond t (Some x) (find (λ x. m == key x) xs)) (sym (ap (eqb m) (sym (eqb-true n (key x) e)) ∙ eqb_swap n m apart))
    | inr e ↦ ap (λ t. find (λ x. m == key x) (cond (not t) (x ∷ others n xs) (others n xs))) e ∙ ap (λ o. cond (m == key x) (Some x) o) (find_others m n xs apart)
  ]

  -- members changed whose keys stay
  pub has_map : (f : X → X) → ((x : X) → key (f x) ≡ key x) → (n : ℕ) (xs : List X) → has n (map f xs) ≡ has n xs
  has_map f same n [] = refl
  has_map f same n (x ∷ xs) = ap (λ k. eqb n k || has n (map f xs)) (same x) ∙ ap (λ t. eqb n (key x) || t) (has_map f same n xs)

  pub differ_map : (f : X → X) → ((x : X) → key (f x) ≡ key x) → (xs : List X) → Differ key xs → Differ key (map f xs)
  differ_map f same [] d = tt
  differ_map f same (x ∷ xs) d = (
    has_map f same (key (f x)) xs ∙ ap (λ n. has n xs) (same x) ∙ d.0,
    differ_map f same xs d.1,
  )

-- The child of a drr's class, by its number, over what becomes of the classes and of the children.
use Rattle.std.proofs.Common.{◌≡◌, ℕ, zero, suc, Bool, true, false, eqb, not, cond, ◌⊎◌, inl, inr, List, [], ◌∷◌, ◌++◌, map, set, refl, sym, ap, ◌∙◌, Option, Some, None, option_map, option_and_then, arith}
use Rattle.std.specs.Prelude.{◌==◌, slice_get, if◌then◌else◌}
use Rattle.std.specs.List.{position, remove}
use Rattle.std.proofs.lemmas.Bool.{cases_Bool, eqb-true, false≢true, or_parts, or_left, or_right}
use Rattle.std.proofs.lemmas.Option.{none-some, same_Some}
use Rattle.q_drr.specs.Schedule.{Class, has_class}
use Rattle.q_drr.proofs.DifferLemmas.{ClassesDiffer}
use Rattle.q_drr.proofs.KeyLemmas.{others}
use Rattle.q_drr.proofs.ChangeLemmas.{quantum_set}
use Rattle.q_invariants.proofs.class.ClassSums.{position-here, position-there}

abbrev pub place_in : ℕ → List Class → Option ℕ
place_in c classes = position (λ (k : Class). c == k.name) classes

abbrev pub child_for : {X : Type 0} → ℕ → List Class → List X → Option X
child_for c [] xs = None
child_for c (k ∷ classes) [] = None
child_for c (k ∷ classes) (x ∷ xs) = if c == k.name then Some x else child_for c classes xs

-- without a class that is not there all stay
pub all-stay : (n : ℕ) (classes : List Class) → has_class n classes ≡ false → others (λ (k : Class). k.name) n classes ≡ classes
all-stay n [] e = refl
all-stay n (k ∷ classes) e =
    let parts = or_parts (eqb n k.name) (has_class n classes) e in
    ap (λ (t : Bool). cond (not t) (k ∷ others (λ (k : Class). k.name) n classes) (others (λ (k : Class). k.name) n classes)) parts.0 ∙ ap (λ (cs : List Class). k ∷ cs) (all-stay n classes parts.1)

module _ {X : Type 0} (c : ℕ) where
  at-none : (o : Option ℕ) → option_and_then (slice_get {X = X} []) o ≡ None
  at-none None = refl
  at-none (Some i) = refl

  past : (x : X) (xs : List X) (o : Option ℕ) → option_and_then (slice_get (x ∷ xs)) (option_map suc o) ≡ option_and_then (slice_get xs) o
  past x xs None = refl
  past x xs (Some i) = refl

  -- the same, by the place of the class
  pub child-at : (classes : List Class) (xs : List X) → option_and_then (slice_get xs) (place_in c classes) ≡ child_for c classes xs
  child-at [] xs = refl
  child-at (k ∷ classes) [] = at-none (place_in c (k ∷ classes))
  child-at (k ∷ classes) (x ∷ xs) = elim (cases_Bool (eqb c k.name)) [
    | inl here ↦ ap (option_and_then (slice_get (x ∷ xs))) (position-here (λ (k : Class). c == k.name) k classes here) ∙ sym (ap (λ (t : Bool). if t then Some x else child_for c classes xs) here)
    | inr there ↦ ap (option_and_then (slice_get (x ∷ xs))) (position-there (λ (k : Class). c == k.name) k classes there) ∙ past x xs (place_in c classes) ∙ child-at classes xs
        ∙ sym (ap (λ (t : Bool). if t then Some x else child_for c classes xs) there)
  ]

  pub here-is : (k : Class) (classes : List Class) (x : X) (xs : List X) → eqb c k.name ≡ true → child_for c (k ∷ classes) (x ∷ xs) ≡ Some x
  here-is k classes x xs here = ap (λ (t : Bool). if t then Some x else child_for c classes xs) here

  pub there-is : (k : Class) (classes : List Class) (x : X) (xs : List X) → eqb c k.name ≡ false → child_for c (k ∷ classes) (x ∷ xs) ≡ child_for c classes xs
  there-is k classes x xs there = ap (λ (t : Bool). if t then Some x else child_for c classes xs) there

  pub child-has : (classes : List Class) (xs : List X) (v : X) → child_for c classes xs ≡ Some v → has_class c classes ≡ true
  child-has [] xs v e = absurd (none-some v e)
  child-has (k ∷ classes) [] v e = absurd (none-some v e)
  child-has (k ∷ classes) (x ∷ xs) v e = elim (cases_Bool (eqb c k.name)) [
    | inl here ↦ or_left (eqb c k.name) (has_class c classes) here
    | inr there ↦ or_right (eqb c k.name) (has_class c classes) (child-has classes xs v (sym (there-is k classes x xs there) ∙ e))
  ]

  -- ---- one child changed

  pub record IsSet (classes : List Class) (xs : List X) (i : ℕ) (y v : X) : Type 0 where
    pub which : ((place_in c classes ≡ Some i) × (v ≡ y)) ⊎ ((child_for c classes xs ≡ Some v) × (place_in c classes ≡ Some i → ⊥))

  pub child-set : (classes : List Class) (xs : List X) (i : ℕ) (y v : X) → child_for c classes (set xs i y) ≡ Some v → IsSet classes xs i y v
  child-set [] xs i y v e = absurd (none-some v e)
  child-set (k ∷ classes) [] i y v e = absurd (none-some v e)
  child-set (k ∷ classes) (x ∷ xs) zero y v e = elim (cases_Bool (eqb c k.name)) [
    | inl here ↦ record { which = inl (position-here (λ (k : Class). c == k.name) k classes here, sym (same_Some y v (sym (here-is k classes y xs here) ∙ e))) }
    | inr there ↦ record {
      which = inr (
        there-is k classes x xs there ∙ sym (there-is k classes y xs there) ∙ e,
        λ at. not-first (place_in c classes) (sym (position-there (λ (k : Class). c == k.name) k classes there) ∙ at),
      );
    }
  ]
    where
      not-first : (o : Option ℕ) → option_map suc o ≡ Some 0 → ⊥
      not-first None e = none-some 0 e
      not-first (Some j) e = let z : suc j ≡ 0 = same_Some (suc j) 0 e in omega (arith, z)
  child-set (k ∷ classes) (x ∷ xs) (suc i) y v e = elim (cases_Bool (eqb c k.name)) [
    | inl here ↦ record {
      which = inr (
        here-is k classes x xs here ∙ sym (here-is k classes x (set xs i y) here) ∙ e,
        λ at. (let z : 0 ≡ suc i = same_Some 0 (suc i) (sym (position-here (λ (k : Class). c == k.name) k classes here) ∙ at) in omega (arith, z)),
      );
    }
    | inr there ↦ further (child-set classes xs i y v (sym (there-is k classes x (set xs i y) there) ∙ e)).which there
  ]
    where
      sucs : (o : Option ℕ) → option_map suc o ≡ Some (suc i) → o ≡ Some i
      sucs None e = absurd (none-some (suc i) e)
      sucs (Some j) e = ap Some (let z : suc j ≡ suc i = same_Some (suc j) (suc i) e in omega (arith, z))

      further : ((place_in c classes ≡ Some i) × (v ≡ y)) ⊎ ((child_for c classes xs ≡ Some v) × (place_in c classes ≡ Some i → ⊥)) → eqb c k.name ≡ false → IsSet (k ∷ classes) (x ∷ xs) (suc i) y v
      further (inl h) there = record { which = inl (position-there (λ (k : Class). c == k.name) k classes there ∙ ap (option_map suc) h.0, h.1) }
      further (inr h) there = record {
        which = inr (
          there-is k classes x xs there ∙ h.0,
          λ at. h.1 (sucs (place_in c classes) (sym (position-there (λ (k : Class). c == k.name) k classes there) ∙ at)),
        );
      }

  -- ---- a class more, a class less, another quantum

  pub child-added : (classes : List Class) (xs : List X) (k : Class) (y v : X) → child_for c classes xs ≡ Some v → child_for c (classes ++ k ∷ []) (xs ++ y ∷ []) ≡ Some v
  child-added [] xs k y v e = absurd (none-some v e)
  child-added (l ∷ classes) [] k y v e = absurd (none-some v e)
  child-added (l ∷ classes) (x ∷ xs) k y v e = elim (cases_Bool (eqb c l.name)) [
    | inl here ↦ here-is l (classes ++ k ∷ []) x (xs ++ y ∷ []) here ∙ sym (here-is l classes x xs here) ∙ e
    | inr there ↦ there-is l (classes ++ k ∷ []) x (xs ++ y ∷ []) there ∙ child-added classes xs k y v (sym (there-is l classes x xs there) ∙ e)
  ]

  no-child : (classes : List Class) → child_for {X = X} c classes [] ≡ None
  no-child [] = refl
  no-child (k ∷ classes) = refl

  pub child-removed : (n : ℕ) (classes : List Class) (xs : List X) (i : ℕ) (v : X) → ClassesDiffer classes → place_in n classes ≡ Some i
      → child_for c (others (λ (k : Class). k.name) n classes) (remove xs i) ≡ Some v → child_for c classes xs ≡ Some v
  child-removed n [] xs i v differ at e = absurd (none-some v e)
  child-removed n (k ∷ classes) [] zero v differ at e = absurd (none-some v (sym (no-child (others (λ (k : Class). k.name) n (k ∷ classes))) ∙ e))
  child-removed n (k ∷ classes) [] (suc i) v differ at e = absurd (none-some v (sym (no-child (others (λ (k : Class). k.name) n (k ∷ classes))) ∙ e))
  child-removed n (k ∷ classes) (x ∷ xs) zero v differ at e = elim (cases_Bool (eqb n k.name)) [
    | inr apart ↦ absurd (not-first (place_in n classes) (sym (position-there (λ (k : Class). n == k.name) k classes apart) ∙ at))
    | inl same ↦
        let is : n ≡ k.name = eqb-true n k.name same in
        let absent : has_class n classes ≡ false = ap (λ m. has_class m classes) is ∙ differ.0 in
        let left : others (λ (k : Class). k.name) n (k ∷ classes) ≡ classes =
        ap (λ (t : Bool). cond (not t) (k ∷ others (λ (k : Class). k.name) n classes) (others (λ (k : Class). k.name) n classes)) same ∙ all-stay n classes absent in
        let found : child_for c classes xs ≡ Some v = ap (λ (cs : List Class). child_for c cs xs) (sym left) ∙ e in
        there-is k classes x xs (far (eqb c k.name) refl is absent (child-has classes xs v found)) ∙ found
  ]
    where
      not-first : (o : Option ℕ) → option_map suc o ≡ Some 0 → ⊥
      not-first None e = none-some 0 e
      not-first (Some j) e = let z : suc j ≡ 0 = same_Some (suc j) 0 e in omega (arith, z)

      far : (t : Bool) → eqb c k.name ≡ t → n ≡ k.name → has_class n classes ≡ false → has_class c classes ≡ true → eqb c k.name ≡ false
      far false is at absent there = is
      far true is at absent there = absurd (false≢true (sym absent ∙ ap (λ m. has_class m classes) (at ∙ sym (eqb-true c k.name is)) ∙ there))
  child-removed n (k ∷ classes) (x ∷ xs) (suc i) v differ at e = elim (cases_Bool (eqb n k.name)) [
    | inl same ↦ absurd (let z : 0 ≡ suc i = same_Some 0 (suc i) (sym (position-here (λ (k : Class). n == k.name) k classes same) ∙ at) in omega (arith, z))
    | inr apart ↦
        let left : others (λ (k : Class). k.name) n (k ∷ classes) ≡ k ∷ others (λ (k : Class). k.name) n classes =
        ap (λ (t : Bool). cond (not t) (k ∷ others (λ (k : Class). k.name) n classes) (others (λ (k : Class). k.name) n classes)) apart in
        by (ap (λ (cs : List Class). child_for c cs (x ∷ remove xs i)) (sym left) ∙ e)
        (child-removed n classes xs i v differ.1 (sucs (place_in n classes) (sym (position-there (λ (k : Class). n == k.name) k classes apart) ∙ at)))
  ]
    where
      sucs : (o : Option ℕ) → option_map suc o ≡ Some (suc i) → o ≡ Some i
      sucs None e = absurd (none-some (suc i) e)
      sucs (Some j) e = ap Some (let z : suc j ≡ suc i = same_Some (suc j) (suc i) e in omega (arith, z))

      by : child_for c (k ∷ others (λ (k : Class). k.name) n classes) (x ∷ remove xs i) ≡ Some v
          → (child_for c (others (λ (k : Class). k.name) n classes) (remove xs i) ≡ Some v → child_for c classes xs ≡ Some v) → child_for c (k ∷ classes) (x ∷ xs) ≡ Some v
      by h rec = elim (cases_Bool (eqb c k.name)) [
        | inl here ↦ here-is k classes x xs here ∙ sym (here-is k (others (λ (k : Class). k.name) n classes) x (remove xs i) here) ∙ h
        | inr there ↦ there-is k classes x xs there ∙ rec (sym (there-is k (others (λ (k : Class). k.name) n classes) x (remove xs i) there) ∙ h)
      ]

  pub child-quantum : (n q : ℕ) (classes : List Class) (xs : List X) → child_for c (map (quantum_set n q) classes) xs ≡ child_for c classes xs
  child-quantum n q [] xs = refl
  child-quantum n q (k ∷ classes) [] = refl
  child-quantum n q (k ∷ classes) (x ∷ xs) =
      ap (λ m. if c == m then Some x else child_for c (map (quantum_set n q) classes) xs) (same-name k)
      ∙ ap (λ o. if c == k.name then Some x else o) (child-quantum n q classes xs)
    where
      same-name : (k : Class) → (quantum_set n q k).name ≡ k.name
      same-name k = elim (n == k.name) as (λ (t : Bool). (if t then record k { quantum = q } else k).name ≡ k.name) [ true ↦ refl | false ↦ refl ]

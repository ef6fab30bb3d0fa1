-- Lines that are not done are told in lent places, one after the other.
use Rattle.std.proofs.Common.{◌≡◌, ℕ, zero, suc, ◌+◌, ◌<◌, ◌≤◌, List, [], ◌∷◌, ◌++◌, refl, sym, ap, ap₂, subst, ◌∙◌, arith, Some, None}
use Rattle.std.specs.Prelude.{drop, length, map, set, slice_get, take}
use Rattle.std.proofs.lemmas.List.{length-map, take_all}
use Rattle.q_setup.specs.declared.trial.Undone.{Undone}
use Rattle.qtree_c.specs.device.SettingUp.{told_undone, undone_of}
use Rattle.qtree_c.specs.declared.abi.c_undone.CUndone.{CUndone}
use Rattle.q_device.proofs.PlaceLemmas.{filled-more, next-taken, some-left, none-left, map-more, length-taken, all-dropped}

in-front : {A : Type 0} (xs : List A) (i : ℕ) → slice_get (drop i xs) 0 ≡ slice_get xs i
in-front [] zero = refl
in-front [] (suc i) = refl
in-front (x ∷ xs) zero = refl
in-front (x ∷ xs) (suc i) = in-front xs i

taken-of : (n : ℕ) (us : List Undone) → take n (map undone_of us) ≡ map undone_of (take n us)
taken-of zero us = refl
taken-of (suc n) [] = refl
taken-of (suc n) (u ∷ us) = ap (λ ws. undone_of u ∷ ws) (taken-of n us)

-- the first of them are told
pub record IsTelling (i : ℕ) (undone : List Undone) (before after : List CUndone) : Type 0 where
  pub most : i ≤ length undone
  pub places : after ≡ map undone_of (take i undone) ++ drop i before

pub telling-begins : (undone : List Undone) (before : List CUndone) → IsTelling 0 undone before before
telling-begins undone before = record { most = omega arith; places = refl }

pub telling-more : (i : ℕ) (undone : List Undone) (before after : List CUndone) (u : Undone) → IsTelling i undone before after → i < length before → slice_get undone i ≡ Some u
    → IsTelling (i + 1) undone before (set after i (undone_of u))
telling-more i undone before after u inv lt at =
    let next : suc i ≡ i + 1 = omega arith in
    let there : slice_get (drop i undone) 0 ≡ Some u = in-front undone i ∙ at in
    let counted : length (map undone_of (take i undone)) ≡ i = length-taken i undone undone_of inv.most in
    record {
      most = let left = some-left i undone u there in omega (arith, left);
      places = ap (λ (xs : List CUndone). set xs i (undone_of u)) inv.places
          ∙ (subst (λ (k : ℕ). set (map undone_of (take i undone) ++ drop k before) k (undone_of u) ≡ (map undone_of (take i undone) ++ undone_of u ∷ []) ++ drop (suc k) before) counted
          (filled-more (map undone_of (take i undone)) before (undone_of u) (omega (arith, counted, lt)))
          ∙ ap₂ (λ (xs : List CUndone) (k : ℕ). xs ++ drop k before)
          (sym (ap (λ ys. map undone_of ys) (next-taken i undone u there) ∙ map-more undone_of (take i undone) u) ∙ ap (λ (k : ℕ). map undone_of (take k undone)) next) next);
    }

-- every place is taken
pub telling-ends : (i : ℕ) (undone : List Undone) (before after : List CUndone) → IsTelling i undone before after → i ≡ length before → after ≡ told_undone undone before
telling-ends i undone before after inv end =
    let most = inv.most in
    let here : drop i before ≡ [] = all-dropped i before (omega (arith, end)) in
    let there : drop (length undone) before ≡ [] = all-dropped (length undone) before (omega (arith, end, most)) in
    inv.places
    ∙ ap₂ (λ (xs ys : List CUndone). xs ++ ys)
    (ap (λ (k : ℕ). map undone_of (take k undone)) end ∙ sym (taken-of (length before) undone)) (here ∙ sym there)

-- all of them are told
pub telling-stops : (i : ℕ) (undone : List Undone) (before after : List CUndone) → IsTelling i undone before after → i < length before → slice_get undone i ≡ None → after ≡ told_undone undone before
telling-stops i undone before after inv lt at =
    let most = inv.most in
    let left : length undone ≤ i = none-left i undone (in-front undone i ∙ at) in
    let end : i ≡ length undone = omega (arith, left, most) in
    let whole : take i undone ≡ undone = take_all i undone left in
    let fits : length (map undone_of undone) ≤ length before = let same = length-map undone undone_of in omega (arith, same, left, lt) in
    inv.places
    ∙ ap₂ (λ (xs ys : List CUndone). xs ++ ys)
    (ap (λ (us : List Undone). map undone_of us) whole ∙ sym (take_all (length before) (map undone_of undone) fits)) (ap (λ (k : ℕ). drop k before) end)

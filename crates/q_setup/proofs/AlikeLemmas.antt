-- Lists that are compared place by place.
use Rattle.std.proofs.Common.{◌≡◌, ◌≤◌, ◌∙◌, ℕ, zero, suc, ◌+◌, Bool, true, false, ◌&&◌, ◌||◌, List, [], ◌∷◌, Option, Some, None, refl, sym, ap, ap₂, subst, arith}
use Rattle.std.specs.Prelude.{drop, is_some, length, slice_get}
use Rattle.std.proofs.lemmas.Bool.{false≢true}
use Rattle.std.specs.List.{AllByRecursion, list_all, list_any}
use Rattle.std.proofs.lemmas.Option.{none-some, same_Some}
use mathlib.Core.Logic.{inl, inr}
use Rattle.q_setup.specs.Alike.{AreAlike, Entry, IsAmong}

-- past the end nothing is left
pub drop-past : {A : Type 0} (xs : List A) (i : ℕ) → slice_get xs i ≡ None → drop i xs ≡ []
drop-past [] zero e = refl
drop-past [] (suc i) e = refl
drop-past (x ∷ xs) zero e = absurd (none-some x (sym e))
drop-past (x ∷ xs) (suc i) e = drop-past xs i e

-- else the element in that place comes first
at : {A : Type 0} (xs : List A) (i : ℕ) (x : A) → slice_get xs i ≡ Some x → drop i xs ≡ x ∷ drop (suc i) xs
at [] i x e = absurd (none-some x e)
at (y ∷ xs) zero x e = ap (λ a. a ∷ xs) (same_Some y x e)
at (y ∷ xs) (suc i) x e = at xs i x e

pub drop-at : {A : Type 0} (xs : List A) (i : ℕ) (x : A) → slice_get xs i ≡ Some x → drop i xs ≡ x ∷ drop (i + 1) xs
drop-at xs i x e = let next : suc i ≡ i + 1 = omega arith in at xs i x e ∙ ap (λ k. x ∷ drop k xs) next

-- two lists that go on alike behind the same place
pub same_from : {A : Type 0} (xs ys : List A) (i : ℕ) → slice_get xs i ≡ slice_get ys i → drop (i + 1) xs ≡ drop (i + 1) ys → drop i xs ≡ drop i ys
same_from {A = A} xs ys i same rest = by (slice_get ys i) same refl where
  by : (o : Option A) → slice_get xs i ≡ o → slice_get ys i ≡ o → drop i xs ≡ drop i ys
  by None e f = drop-past xs i e ∙ sym (drop-past ys i f)
  by (Some x) e f = drop-at xs i x e ∙ ap (λ zs. x ∷ zs) rest ∙ sym (drop-at ys i x f)

-- all that are left pass where the next one does and all behind it
pub all_from : {A : Type 0} (p : A → Bool) (xs : List A) (i : ℕ) (x : A) → slice_get xs i ≡ Some x → p x ≡ true → list_all p (drop (i + 1) xs) ≡ true → list_all p (drop i xs) ≡ true
all_from p xs i x e here rest = ap (λ zs. list_all p zs) (drop-at xs i x e) ∙ ap₂ (λ a b. a && b) here rest

-- one that passes is among all
pub any_at : {A : Type 0} (p : A → Bool) (xs : List A) (i : ℕ) (x : A) → slice_get xs i ≡ Some x → p x ≡ true → list_any p xs ≡ true
any_at p [] i x e here = absurd (none-some x e)
any_at p (y ∷ xs) zero x e here = ap (λ b. b || list_any p xs) (ap p (same_Some y x e) ∙ here)
any_at p (y ∷ xs) (suc i) x e here = or_true (p y) (list_any p xs) (any_at p xs i x e here) where
  or_true : (a b : Bool) → b ≡ true → (a || b) ≡ true
  or_true true b h = refl
  or_true false b h = h

-- the first of a list, and one behind it
pub among_first : {A : Type 0} (P : A → Type 0) (all : List A) (x : A) (rest left : List A) → left ≡ x ∷ rest → (IsAmong P left → IsAmong P all) → P x → IsAmong P all
among_first P all x rest left is h here = h (subst (IsAmong P) (sym is) (inl here))

pub among_rest : {A : Type 0} (P : A → Type 0) (all : List A) (x : A) (rest left : List A) → left ≡ x ∷ rest → (IsAmong P left → IsAmong P all) → IsAmong P rest → IsAmong P all
among_rest P all x rest left is h more = h (subst (IsAmong P) (sym is) (inr more))

pub all_rest : {A : Type 0} (P : A → Type 0) (all : List A) (x : A) (rest left : List A) → left ≡ x ∷ rest
    → (AllByRecursion P left → AllByRecursion P all) → P x → AllByRecursion P rest → AllByRecursion P all
all_rest P all x rest left is h here more = h (subst (AllByRecursion P) (sym is) (here, more))

-- where nothing is left, all are so
pub all_none : {A : Type 0} (P : A → Type 0) (left : List A) → left ≡ [] → AllByRecursion P left
all_none P left is = subst (AllByRecursion P) (sym is) tt

-- the same of equal lists
pub alike_with : (keep : Bool) (w v a b : List Entry) → AreAlike keep w a → v ≡ w → b ≡ a → AreAlike keep v b
alike_with keep w v a b h is that = subst (λ x. AreAlike keep x b) (sym is) (subst (AreAlike keep w) (sym that) h)

-- any that is left passes just where one behind the next does, if that one does not
pub any_from : {A : Type 0} (p : A → Bool) (xs : List A) (i : ℕ) (x : A) → slice_get xs i ≡ Some x → p x ≡ false → list_any p (drop (i + 1) xs) ≡ list_any p (drop i xs)
any_from p xs i x e here = sym (ap (λ zs. list_any p zs) (drop-at xs i x e) ∙ ap (λ b. b || list_any p (drop (i + 1) xs)) here)

-- all that are left pass just where all behind the next do, if that one does; else not all do
pub all_behind : {A : Type 0} (p : A → Bool) (xs : List A) (i : ℕ) (x : A) → slice_get xs i ≡ Some x → p x ≡ true → list_all p (drop (i + 1) xs) ≡ list_all p (drop i xs)
all_behind p xs i x e here = sym (ap (λ zs. list_all p zs) (drop-at xs i x e) ∙ ap (λ b. b && list_all p (drop (i + 1) xs)) here)

pub not_all : {A : Type 0} (p : A → Bool) (xs : List A) (i : ℕ) (x : A) → slice_get xs i ≡ Some x → p x ≡ false → list_all p (drop i xs) ≡ false
not_all p xs i x e here = ap (λ zs. list_all p zs) (drop-at xs i x e) ∙ ap (λ b. b && list_all p (drop (i + 1) xs)) here

-- a place in which there is something
pub within : {A : Type 0} (xs : List A) (i : ℕ) (x : A) → slice_get xs i ≡ Some x → i + 1 ≤ length xs
within [] i x e = absurd (none-some x e)
within (y ∷ xs) zero x e = omega arith
within (y ∷ xs) (suc i) x e = let rest = within xs i x e in omega (arith, rest)

pub within_if : {A : Type 0} (xs : List A) (i : ℕ) (o : Option A) → slice_get xs i ≡ o → is_some o ≡ true → i + 1 ≤ length xs
within_if xs i None e h = absurd (false≢true h)
within_if xs i (Some x) e h = within xs i x e

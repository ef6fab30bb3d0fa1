-- The member at a place of a list, and the front and the back of a list: what holds of all holds of them, and a test that the member
-- passes is passed there.
use Rattle.std.proofs.Common.{◌≡◌, ℕ, zero, suc, Bool, true, false, List, [], ◌∷◌, ◌++◌, length, refl, sym, ap, subst, ◌∙◌, Some}
use Rattle.std.specs.Prelude.{slice_get}
use Rattle.std.specs.List.{All, list_any}
use Rattle.std.proofs.lemmas.Bool.{or_parts, or_left, or_right}
use Rattle.std.proofs.lemmas.List.{take_at, drop_at}
use Rattle.std.proofs.lemmas.List.Elements.{All-take, All-drop}
use Rattle.std.proofs.lemmas.Option.{none-some, same_Some, slice_get_within, get_or_from_slice_get}

pub All-at : {X : Type 0} (P : X → Type 0) (xs : List X) (i : ℕ) (x : X) → All P xs → slice_get xs i ≡ Some x → P x
All-at P xs i x h e = subst P (get_or_from_slice_get xs i x x e) (h i x (slice_get_within xs i x e))

-- one of a list in which none passes a test fails it, and where one passes it some do
pub fails-at : {X : Type 0} (test : X → Bool) (xs : List X) (i : ℕ) (x : X) → list_any test xs ≡ false → slice_get xs i ≡ Some x → test x ≡ false
fails-at test [] i x none e = absurd (none-some x e)
fails-at test (y ∷ xs) zero x none e = ap test (sym (same_Some y x e)) ∙ (or_parts (test y) (list_any test xs) none).0
fails-at test (y ∷ xs) (suc i) x none e = fails-at test xs i x (or_parts (test y) (list_any test xs) none).1 e

pub passes-at : {X : Type 0} (test : X → Bool) (xs : List X) (i : ℕ) (x : X) → slice_get xs i ≡ Some x → test x ≡ true → list_any test xs ≡ true
passes-at test [] i x e p = absurd (none-some x e)
passes-at test (y ∷ xs) zero x e p = or_left (test y) (list_any test xs) (ap test (same_Some y x e) ∙ p)
passes-at test (y ∷ xs) (suc i) x e p = or_right (test y) (list_any test xs) (passes-at test xs i x e p)

pub All-front : {X : Type 0} (P : X → Type 0) (xs ys : List X) → All P (xs ++ ys) → All P xs
All-front P xs ys h = subst (All P) (take_at xs ys (length xs) refl) (All-take P (length xs) (xs ++ ys) h)

pub All-back : {X : Type 0} (P : X → Type 0) (xs ys : List X) → All P (xs ++ ys) → All P ys
All-back P xs ys h = subst (All P) (drop_at xs ys (length xs) refl) (All-drop P (length xs) (xs ++ ys) h)

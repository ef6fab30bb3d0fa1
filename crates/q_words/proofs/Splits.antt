-- A word that is split at marks: its first piece, and the pieces behind the first mark.
use Rattle.std.proofs.Common.{◌≡◌, ℕ, ◌+◌, ◌-◌, ◌≤◌, Bool, true, false, cond, List, [], ◌∷◌, length, take, drop, nat_lt, length-drop, Some, None, refl, sym, ap, ◌∙◌, arith}
use Rattle.std.specs.List.{slice_split, position, position_or_len}
use Rattle.std.proofs.lemmas.Bool.{ltb-true, ltb-false}
use Rattle.std.proofs.lemmas.List.{take_all}
use Rattle.std.proofs.lemmas.List.Splits.{slice_split_first}

-- where there is no mark, the word is the only piece
split_whole : (p : ℕ → Bool) (xs : List ℕ) → length xs ≤ position_or_len p xs → slice_split p xs ≡ xs ∷ []
split_whole p [] h = refl
split_whole p (x ∷ xs) h = by_test (split_whole p xs) (p x) refl
  where
    by_test : (length xs ≤ position_or_len p xs → slice_split p xs ≡ xs ∷ []) → (b : Bool) → p x ≡ b → slice_split p (x ∷ xs) ≡ (x ∷ xs) ∷ []
    by_test more true t = absurd (let e : position_or_len p (x ∷ xs) ≡ 0 = rw t refl in omega arith)
    by_test more false t =
        let e : position_or_len p (x ∷ xs) ≡ 1 + position_or_len p xs = rw t refl in
        rw (t, more (omega arith)) refl

pub split_none : (p : ℕ → Bool) (xs : List ℕ) → position p xs ≡ None → slice_split p xs ≡ xs ∷ []
split_none p xs e = by_test (nat_lt (position_or_len p xs) (length xs)) refl
  where
    by_test : (b : Bool) → nat_lt (position_or_len p xs) (length xs) ≡ b → slice_split p xs ≡ xs ∷ []
    by_test true t = absurd (let none : Some (position_or_len p xs) ≡ None = ap (λ b. cond b (Some (position_or_len p xs)) None) (sym t) ∙ e in cc)
    by_test false t = split_whole p xs (ltb-false (position_or_len p xs) (length xs) t)

pub split_some : (p : ℕ → Bool) (xs : List ℕ) (at : ℕ) → position p xs ≡ Some at → slice_split p xs ≡ take at xs ∷ slice_split p (drop (at + 1) xs)
split_some p xs at e = by_test (nat_lt (position_or_len p xs) (length xs)) refl
  where
    by_test : (b : Bool) → nat_lt (position_or_len p xs) (length xs) ≡ b → slice_split p xs ≡ take at xs ∷ slice_split p (drop (at + 1) xs)
    by_test true t =
        let same : Some (position_or_len p xs) ≡ Some at = ap (λ b. cond b (Some (position_or_len p xs)) None) (sym t) ∙ e in
        let at_is : position_or_len p xs ≡ at = cc in
        rw (← at_is) (slice_split_first p xs 0 (ltb-true (position_or_len p xs) (length xs) t))
    by_test false t = absurd (let none : None ≡ Some at = ap (λ b. cond b (Some (position_or_len p xs)) None) (sym t) ∙ e in cc)

-- the bytes from a place on, as a slice has them
pub rest_is : (xs : List ℕ) (at : ℕ) → take (length xs - at) (drop at xs) ≡ drop at xs
rest_is xs at = take_all (length xs - at) (drop at xs) (omega (arith, length-drop at xs))

-- A priomap in which no number is too large names bands alone.
use Rattle.std.proofs.Common.{◌≡◌, ◌∙◌, ℕ, ◌+◌, ◌<◌, ◌≤◌, cond, Bool, true, false, List, [], ◌∷◌, length, nat_lt, nat_le, slice_index_or, Option, Some, None, option_map, unwrap_or, refl, ap, arith}
use Rattle.std.specs.List.{All, position, position_or_len}
use Rattle.std.specs.Option.{IfSome}
use Rattle.std.proofs.lemmas.Bool.{leb-false, ltb-false}
use Rattle.std.proofs.lemmas.List.Elements.{All-nil, All-cons}
use Rattle.q_model.specs.Numbers.{IsWithin}
use Rattle.q_line.specs.Drafts.{default_priomap}

all_below : (bands : ℕ) (xs : List ℕ) → length xs ≤ position_or_len (λ n. nat_le bands n) xs → All (λ band. band < bands) xs
all_below bands [] h = All-nil (λ band. band < bands)
all_below bands (x ∷ xs) h = by_test (all_below bands xs) (nat_le bands x) refl
  where
    by_test : (length xs ≤ position_or_len (λ n. nat_le bands n) xs → All (λ band. band < bands) xs) → (b : Bool) → nat_le bands x ≡ b → All (λ band. band < bands) (x ∷ xs)
    by_test more true t = absurd (let e : position_or_len (λ n. nat_le bands n) (x ∷ xs) ≡ 0 = rw t refl in omega arith)
    by_test more false t =
        let e : position_or_len (λ n. nat_le bands n) (x ∷ xs) ≡ 1 + position_or_len (λ n. nat_le bands n) xs = rw t refl in
        All-cons (λ band. band < bands) x xs (leb-false bands x t) (more (omega arith))

pub no_bad : (bands from : ℕ) (xs : List ℕ) → None ≡ option_map (λ i. from + i) (position (λ n. nat_le bands n) xs) → All (λ band. band < bands) xs
no_bad bands from xs e = by_test (nat_lt (position_or_len (λ n. nat_le bands n) xs) (length xs)) refl
  where
    place : ℕ
    place = position_or_len (λ n. nat_le bands n) xs

    by_test : (b : Bool) → nat_lt (position_or_len (λ n. nat_le bands n) xs) (length xs) ≡ b → All (λ band. band < bands) xs
    by_test true t = absurd (let some : None ≡ Some (from + place) = e ∙ ap (λ b. option_map (λ i. from + i) (cond b (Some place) None)) t in cc)
    by_test false t = all_below bands xs (ltb-false place (length xs) t)

pub few_bands : (bands : Option ℕ) → IfSome bands (IsWithin 2 16) → IsWithin 2 16 (unwrap_or bands 3)
few_bands None h = (omega arith, omega arith)
few_bands (Some n) h = h

pub default_bands : (bands : ℕ) → 3 ≤ bands → All (λ band. band < bands) default_priomap
default_bands bands h k d within =
    let first_three : slice_index_or default_priomap k d < 3 = all_below 3 default_priomap (omega arith) k d within in
    omega arith

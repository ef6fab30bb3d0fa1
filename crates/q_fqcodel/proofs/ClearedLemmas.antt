-- The order in which elements of a list are changed does not matter.
use Rattle.std.proofs.Common.{◌≡◌, ℕ, zero, suc, List, [], ◌∷◌, ◌++◌, refl, sym, ap, ◌∙◌}
use Rattle.q_fqcodel.specs.Cleared.{adjust, clear}

pub adjust_comm : {F : Type 0} (r : F → F) (m n : ℕ) (xs : List F) → adjust r m (adjust r n xs) ≡ adjust r n (adjust r m xs)
unfolding adjust
adjust_comm r m n [] = refl
adjust_comm r zero zero (x ∷ xs) = refl
adjust_comm r zero (suc n) (x ∷ xs) = refl
adjust_comm r (suc m) zero (x ∷ xs) = refl
adjust_comm r (suc m) (suc n) (x ∷ xs) = ap (λ l. x ∷ l) (adjust_comm r m n xs)

pub clear-adjust : {F : Type 0} (r : F → F) (ns : List ℕ) (n : ℕ) (xs : List F) → clear r ns (adjust r n xs) ≡ adjust r n (clear r ns xs)
unfolding clear
clear-adjust r [] n xs = refl
clear-adjust r (m ∷ ns) n xs = ap (clear r ns) (adjust_comm r m n xs) ∙ clear-adjust r ns n (adjust r m xs)

pub clear-append : {F : Type 0} (r : F → F) (ms ns : List ℕ) (xs : List F) → clear r (ms ++ ns) xs ≡ clear r ns (clear r ms xs)
unfolding clear
clear-append r [] ns xs = refl
clear-append r (m ∷ ms) ns xs = clear-append r ms ns (adjust r m xs)

pub clear-nil : {F : Type 0} (r : F → F) (xs : List F) → clear r [] xs ≡ xs
unfolding clear
clear-nil r xs = refl

pub clear-cons : {F : Type 0} (r : F → F) (n : ℕ) (ns : List ℕ) (xs : List F) → clear r (n ∷ ns) xs ≡ clear r ns (adjust r n xs)
unfolding clear
clear-cons r n ns xs = refl

-- one of them may as well be changed first
pub clear_middle : {F : Type 0} (r : F → F) (ms : List ℕ) (n : ℕ) (ns : List ℕ) (xs : List F) → clear r (ms ++ n ∷ ns) xs ≡ clear r (ms ++ ns) (adjust r n xs)
clear_middle r ms n ns xs =
    clear-append r ms (n ∷ ns) xs
    ∙ clear-cons r n ns (clear r ms xs)
    ∙ ap (clear r ns) (sym (clear-adjust r ms n xs))
    ∙ sym (clear-append r ms ns (adjust r n xs))

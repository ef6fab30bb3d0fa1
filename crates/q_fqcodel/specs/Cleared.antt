-- A list with some of its elements changed, named by their places; a place may be named twice.
-- It says of which flows CoDel forgets since when they were late, and that they were dropping, as they leave a list
-- (RFC 8290, section 4.2).
use Rattle.std.specs.Prelude.{ℕ, zero, suc, List, [], ◌∷◌}

-- the list with its n-th element changed by r
unfoldable pub adjust : {F : Type 0} → (F → F) → ℕ → List F → List F
adjust r n [] = []
adjust r zero (x ∷ xs) = r x ∷ xs
adjust r (suc n) (x ∷ xs) = x ∷ adjust r n xs

-- the list with each of these elements changed by r
unfoldable pub clear : {F : Type 0} → (F → F) → List ℕ → List F → List F
clear r [] xs = xs
clear r (n ∷ ns) xs = clear r ns (adjust r n xs)

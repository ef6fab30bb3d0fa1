-- Places with what they have in common, their homes, and the next place of a home.
-- Nothing here is of a standard.
use Rattle.std.specs.Prelude.{◌≡◌, ℕ, ◌<◌, ◌≤◌, List, length, slice_get, Some}

-- The first place from `from` on that has this home, or the end of the places where there is none
pub record IsNext (homes : List ℕ) (home from place : ℕ) : Type 0 where
  pub behind : from ≤ place
  pub within : place ≤ length homes
  pub there : place < length homes → slice_get homes place ≡ Some home
  pub first : (j : ℕ) → from ≤ j → j < place → slice_get homes j ≡ Some home → ⊥

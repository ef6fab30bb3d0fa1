-- What is stored for the places of each home: the first, and behind each the next.
-- Nothing here is of a standard.
use Rattle.std.specs.Prelude.{◌≡◌, ℕ, suc, ◌<◌, ◌≤◌, List, length, slice_get, Some}
use Rattle.q_tree.specs.filters.Chains.{IsNext}
use Rattle.q_tree.specs.declared.filters.chains.Chains.TheInside.{Inside}

-- each home of a place has its first one
abbrev pub AreFirsts : List ℕ → ℕ → List ℕ → Type 0
AreFirsts homes from firsts = (home place : ℕ) → slice_get firsts home ≡ Some place → IsNext homes home from place

-- each place from `from` on has the next one of its home
abbrev pub AreNexts : List ℕ → ℕ → List ℕ → Type 0
AreNexts homes from nexts = (j home place : ℕ) → from ≤ j → slice_get homes j ≡ Some home → slice_get nexts j ≡ Some place → IsNext homes home (suc j) place

-- what is stored beside the homes
pub record IsChained (a : Inside) : Type 0 where
  pub firsts_are : AreFirsts a.homes.items 0 a.firsts.items
  pub nexts_are : AreNexts a.homes.items 0 a.nexts.items
  pub long : length a.nexts.items ≡ length a.homes.items
  pub known : (j home : ℕ) → slice_get a.homes.items j ≡ Some home → home < length a.firsts.items

-- The nodes of a tree that are left in the order of show (tc(8)), behind one of them.
use Rattle.std.specs.Prelude.{◌≡◌, ℕ, ◌+◌, List, [], ◌∷◌, ◌++◌, drop, slice_get}
use Rattle.std.specs.Option.{option_map_or}
use Rattle.q_model.specs.declared.place.Place.{Place}
use Rattle.q_model.specs.Node.{Node, children, side_by_side}
use Rattle.q_model.specs.Views.{places_below}
use Rattle.q_tree.specs.answers.Showing.{standing_in}
use Rattle.q_tree.specs.Kept.{Kept}

-- the children of a node from this one on, and all below them
abbrev pub children_from : {M : Type 0} → ℕ → Node M → List (Place × Node M)
children_from i n = standing_in (drop i (places_below n.own n.below)) (side_by_side (drop i (children n)))

-- Behind the node at the end of this path down come all below it, and then, from the end of the path up, the nodes further on
-- at each level.
abbrev pub behind : {M : Type 0} → List ℕ → Node M → List (Place × Node M)
behind [] n = children_from 0 n
behind (i ∷ way) n = option_map_or (behind way) (slice_get (children n) i) [] ++ children_from (i + 1) n

-- the node that comes first behind the one at the end of a path down from n, and the path to it, which goes on from `here`
pub record IsNextBehind (way : List ℕ) (n : Node Kept) (here there : List ℕ) (x : Place × Node Kept) : Type 0 where
  pub on : List ℕ
  pub way_on : there ≡ here ++ on
  pub first : behind way n ≡ x ∷ behind on n

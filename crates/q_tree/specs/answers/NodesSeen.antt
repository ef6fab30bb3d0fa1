-- What a contract sees of a walk over the nodes of a tree: those that are still to come.
use Rattle.std.specs.Prelude.{ℕ, ◌≤◌, List, Option, Some, None}
use Rattle.arrayvec.specs.ArrayVec.{ArrayVec}
use Rattle.q_model.specs.declared.place.Place.{Place}
use Rattle.q_model.specs.declared.place.Place.TheVariants as place
use Rattle.q_model.specs.Find.{depth}
use Rattle.q_model.specs.Node.{Node}
use Rattle.q_tree.specs.answers.Nodes.{behind}
use Rattle.q_tree.specs.answers.Showing.{IsNumbered, standing}
use Rattle.q_tree.specs.Kept.{Kept}
use Rattle.q_tree.specs.declared.answers.nodes.Nodes.TheInside.{Inside}

-- behind the one to which this path leads, or all
abbrev pub left_behind : Option (ArrayVec ℕ) → Node Kept → List (Place × Node Kept)
left_behind None n = standing place.Root n
left_behind (Some way) n = behind way.items n

abbrev pub nodes_seen : Inside → List (Place × Node Kept)
nodes_seen a = left_behind a.last a.root.now

pub record IsWalk (a : Inside) : Type 0 where
  pub numbered : IsNumbered a.root.now
  pub levels : depth a.root.now ≤ 8

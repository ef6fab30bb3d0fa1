-- What show lists of a tree, node by node: its classes or its filters.
use Rattle.std.specs.Prelude.{◌≡◌, ℕ, List, Some, slice_get}
use Rattle.std.specs.List.{flat_map}
use Rattle.q_model.specs.Conserved.{every_node}
use Rattle.q_model.specs.Lawful.{IsLawfulTree}
use Rattle.q_model.specs.Node.{Node, with_memory}
use Rattle.q_model.specs.Tally.{Counts, totals}
use Rattle.q_model.specs.TreeState.{TreeState}
use Rattle.q_tree.specs.Kept.{Kept}
use Rattle.q_tree.specs.TreeSeen.{tree_numbers}

-- the tree is lawful at some time, so that it has 256 qdiscs at most, and as many filters at a node
abbrev pub IsLawfulSeen : TreeState Kept → Type 0
IsLawfulSeen s = (clock : ℕ) × IsLawfulTree totals clock (tree_numbers s)

-- a node of a lawful tree
abbrev pub IsOfLawful : Node Kept → Type 0
IsOfLawful n = (s : TreeState Kept) × IsLawfulSeen s × (i : ℕ) × (slice_get (every_node s.root) i ≡ Some n)

-- a node without its places, which show does not print
abbrev pub counted : Node Kept → Node Counts
counted n = with_memory (λ (k : Kept). k.counts) n

-- the text of all that is listed, from the root down
abbrev pub listed_text : {A : Type 0} → (A → List ℕ) → (Node Counts → List A) → TreeState Counts → List ℕ
listed_text line of_node s = flat_map (λ n. flat_map line (of_node n)) (every_node s.root)

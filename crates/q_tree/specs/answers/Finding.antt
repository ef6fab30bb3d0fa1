-- The qdisc with a handle, and the node in one of its classes, among a node and those below it (tc(8), "NAMING").
use Rattle.std.specs.Prelude.{ℕ, List, Option, option_and_then, option_map, slice_get}
use Rattle.q_model.specs.Find.{path_of, node_at, class_place}
use Rattle.q_model.specs.Node.{Node, children}

abbrev pub qdisc_with : {M : Type 0} → ℕ → Node M → Option (Node M)
qdisc_with handle n = option_and_then (λ path. node_at path n) (path_of handle n)

-- the child in the class of this number
abbrev pub class_with : {M : Type 0} → ℕ → Node M → Option (Node M)
class_with minor n = option_and_then (slice_get (children n)) (class_place minor n)

-- the node at the end of a path that was found, with the path
abbrev pub reached : {M : Type 0} → Node M → Option (List ℕ) → Option (List ℕ × Node M)
reached root found = option_and_then (λ path. option_map (λ n. (path, n)) (node_at path root)) found

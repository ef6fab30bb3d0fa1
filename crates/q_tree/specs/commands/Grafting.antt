-- Which refusals a new qdisc meets at the end of a path, once the place is known to be there (tc(8), `add`).
use Rattle.std.specs.Prelude.{ℕ, ◌+◌, ◌-◌, nat_lt, List, [], ◌∷◌, length, Option}
use Rattle.std.specs.Option.{option_map_or}
use Rattle.q_model.specs.declared.kind.Kind.{Kind}
use Rattle.q_model.specs.declared.refusal.Refusal.TheVariants.{Exists, HandleTaken, TooDeep, TooMany}
use Rattle.q_model.specs.Find.{count_nodes, has_handle, is_explicit, node_at}
use Rattle.q_model.specs.Node.{Node}
use Rattle.q_model.specs.Refusals.{Check, is_so, most_levels, most_nodes, refuse}
use Rattle.q_invariants.specs.Sizes.{levels_made, nodes_made}
use Rattle.q_tree.specs.Kept.{Kept}

-- the nodes that the new one takes the place of
abbrev pub nodes_at : List ℕ → Node Kept → ℕ
nodes_at path root = option_map_or count_nodes (node_at path root) 0

abbrev pub graft_checks : Option ℕ → Kind → List ℕ → Node Kept → List Check
graft_checks handle kind path root =
    refuse Exists (is_explicit path root)
    ∷ refuse HandleTaken (is_so (λ h. has_handle h root) handle)
    ∷ refuse TooDeep (nat_lt most_levels (length path + levels_made kind))
    ∷ refuse TooMany (nat_lt most_nodes (count_nodes root + nodes_made kind - nodes_at path root))
    ∷ []

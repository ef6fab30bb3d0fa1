-- A node without the places of its queues, which are memory and mean nothing to the rules, and the place that a path leads to.
-- Nothing here is of a standard.
use Rattle.std.specs.Prelude.{ℕ, List, IfSome, IsSome, option_and_then, slice_get}
use Rattle.std.specs.Option.{option_map_or}
use Rattle.q_model.specs.Find.{node_at}
use Rattle.q_model.specs.Node.{Node, with_memory}
use Rattle.q_model.specs.Tally.{Counts}
use Rattle.q_tree.specs.arrival.Arrivals.{HasPlaceIn}
use Rattle.q_tree.specs.Kept.{Kept}

abbrev pub unplaced : Node Kept → Node Counts
unplaced n = with_memory (λ (k : Kept). k.counts) n

-- how many packets the queue of the node at the end of this path has places for, none where there is no node
abbrev pub places_at : List ℕ → Node Kept → ℕ
places_at path n = option_map_or (λ (end : Node Kept). end.memory.places) (node_at path n) 0

-- the same for a path that begins at the child in this place
abbrev pub places_under : List ℕ → ℕ → List (Node Kept) → ℕ
places_under rest place children = option_map_or (λ (end : Node Kept). end.memory.places) (option_and_then (node_at rest) (slice_get children place)) 0

-- the path leads on to a node, from the child in this place
abbrev pub Leads : List ℕ → ℕ → List (Node Kept) → Type 0
Leads rest place children = IsSome (option_and_then (node_at rest) (slice_get children place))

-- and the queue there has a place for one packet more
abbrev pub HasPlaceAt : List ℕ → ℕ → List (Node Kept) → Type 0
HasPlaceAt rest place children = IfSome (option_and_then (node_at rest) (slice_get children place)) (λ (end : Node Kept). HasPlaceIn end.memory.places end.own.discipline)

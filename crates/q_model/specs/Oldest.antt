-- How long packets wait: when the packet arrived that has been queued longest at a node or below it, among those in its own
-- lists, the one that it holds, and those of its children. It is what a sojourn time is counted from (RFC 8289, section 3.1).
use Rattle.std.specs.Prelude.{ℕ, List, [], ◌++◌, map, Option, option_map, option_and_then}
use Rattle.std.specs.List.{flat_map}
use Rattle.std.specs.Option.{option_to_list}
use Rattle.q_packet.specs.Descriptor.{Descriptor}
use Rattle.q_packet.specs.declared.stamped.Stamped.{Stamped}
use Rattle.q_fqcodel.specs.FqState.{all_packets}
use Rattle.q_fqcodel.specs.Oldest.{earliest}
use Rattle.q_model.specs.declared.place.Place.{Place}
use Rattle.q_model.specs.declared.place.Place.TheVariants as place
use Rattle.q_model.specs.Find.{node_at, class_path}
use Rattle.q_model.specs.Node.{Discipline, Fifo, Prio, Tbf, Drr, FqCodel, Own, Node, from_below}
use Rattle.q_model.specs.TreeState.{TreeState}

-- when the packets in a discipline's own lists arrived
abbrev pub arrivals_in : Discipline → List ℕ
arrivals_in (Fifo limit queue) = map (λ (s : Stamped). s.at) queue
arrivals_in (FqCodel s) = map (λ (p : Stamped). p.at) (all_packets s.flows)
arrivals_in (Prio priomap) = []
arrivals_in (Tbf bucket limit) = []
arrivals_in (Drr s) = []

-- when the packet arrived that a node holds
abbrev pub arrival_held : Own → Option ℕ
arrival_held own = option_map (λ (p : Descriptor). own.since) own.held

-- at a node, given the same of each of its children
abbrev pub oldest_own : Own → List (Option ℕ) → Option ℕ
oldest_own own below =
    earliest (option_to_list (arrival_held own) ++ arrivals_in own.discipline ++ flat_map (λ (o : Option ℕ). option_to_list o) below)

abbrev pub oldest : {M : Type 0} → Node M → Option ℕ
oldest n = from_below oldest_own n

-- at the node in a place; None also where none stands there
abbrev pub oldest_at : {M : Type 0} → Place → TreeState M → Option ℕ
oldest_at place.Top s = oldest s.root
oldest_at place.Root s = oldest s.root
oldest_at (place.Class class) s = option_and_then (λ n. oldest n) (option_and_then (λ path. node_at path s.root) (class_path class s.root))

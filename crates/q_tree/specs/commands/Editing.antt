-- What an edit of a tree makes of the node at the end of its path, and of the nodes above it (tc(8), `add`, `change`, `del`).
-- Each node above counts what is lost as dropped, and a class of a drr that is thereby empty leaves the active list.
use Rattle.std.specs.Prelude.{◌≡◌, ℕ, ◌<◌, ◌≤◌, ◌^◌, ◌==◌, Bool, false, not, nat_lt, List, [], length, set}
use Rattle.std.specs.List.{filter}
use Rattle.std.specs.Option.{option_map_or}
use Rattle.q_packet.specs.Descriptor.{Descriptor}
use Rattle.q_packet.specs.declared.cause.Cause.TheVariants.{Purged}
use Rattle.q_model.specs.declared.filter.Filter.{Filter}
use Rattle.q_model.specs.declared.row.Row.{Row}
use Rattle.q_model.specs.declared.totals.Totals.{Totals}
use Rattle.q_model.specs.Beneath.{beneath, is_empty}
use Rattle.q_model.specs.Edit.{edited_at}
use Rattle.q_model.specs.Filters.{with_filter}
use Rattle.q_model.specs.Find.{node_at}
use Rattle.q_model.specs.Node.{Node, children, side_by_side}
use Rattle.q_model.specs.Tally.{Note, noted}
use Rattle.q_model.specs.Work.{losses_of, settled_in}
use Rattle.q_tree.specs.arrival.Arrivals.{plus, minus}
use Rattle.q_tree.specs.commands.DisciplineChanges.{AreReady, IsFresh, KeepsAll, TakesMore, adds_children, children_after, discipline_after, lost_with}
use Rattle.q_tree.specs.Kept.{Kept, kept}
use Rattle.q_tree.specs.declared.commands.discipline_change.DisciplineChange as shapes
use Rattle.q_tree.specs.Seen.{children_seen, discipline_seen, places_seen}
use Rattle.q_tree.specs.declared.commands.edit.Edit.{Edit}
use Rattle.q_tree.specs.declared.commands.edit.Edit.TheVariants.{Graft, AddFilter, RemoveFilters, DisciplineChange}
use Rattle.q_tree.specs.declared.node.Discipline.{Discipline}

abbrev pub with_filters : List Filter → Node Kept → Node Kept
with_filters filters n = record n { own = record n.own { filters = filters } }

-- the node with another discipline and other children, which counts what went with those that are gone
abbrev pub changed_by : shapes.DisciplineChange → Node Kept → Node Kept
changed_by r n = record {
  own = record n.own { discipline = discipline_after r n.own.discipline (children n) };
  memory = noted kept n.memory (losses_of Purged (lost_with r n.own.discipline (children n)));
  below = side_by_side (children_after r n.own.discipline (children n));
}

-- the node that it makes of this one
abbrev pub effect : Edit → Node Kept → Node Kept
effect (Graft new) n = new
effect (AddFilter f) n = with_filters (with_filter f n.own.filters) n
effect (RemoveFilters prio) n = with_filters (filter (λ (f : Filter). not (f.prio == prio)) n.own.filters) n
effect (DisciplineChange r) n = changed_by r n

-- the packets that it loses there
abbrev pub removed : Edit → Node Kept → List Descriptor
removed (Graft new) n = beneath n
removed (AddFilter f) n = []
removed (RemoveFilters prio) n = []
removed (DisciplineChange r) n = lost_with r n.own.discipline (children n)

-- what takes the place of a node is new: it has counted nothing, and nothing is queued there
abbrev pub IsReady : Edit → Type 0
IsReady (Graft new) = IsFresh new
IsReady (AddFilter f) = Unit {0}
IsReady (RemoveFilters prio) = Unit {0}
IsReady (DisciplineChange r) = AreReady r

-- the edits that lose nothing
abbrev pub LosesNothing : Edit → Type 0
LosesNothing (Graft new) = ⊥
LosesNothing (AddFilter f) = Unit {0}
LosesNothing (RemoveFilters prio) = Unit {0}
LosesNothing (DisciplineChange r) = KeepsAll r

-- whether it brings nodes below another, for whose handles there has to be room
abbrev pub adds_nodes : Edit → Bool
adds_nodes (Graft new) = nat_lt 0 (length (children new))
adds_nodes (AddFilter f) = false
adds_nodes (RemoveFilters prio) = false
adds_nodes (DisciplineChange r) = adds_children r

-- the edits that take memory: for a filter or a child more, or for the handles where there were none below the root
abbrev pub TakesMemory : Edit → Type 0
TakesMemory (Graft new) = 0 < length (children new)
TakesMemory (AddFilter f) = Unit {0}
TakesMemory (RemoveFilters prio) = ⊥
TakesMemory (DisciplineChange r) = TakesMore r

-- the same for a path from a node down
abbrev pub removed_at : Edit → List ℕ → Node Kept → List Descriptor
removed_at e path n = option_map_or (removed e) (node_at path n) []

abbrev pub notes_of : Edit → List ℕ → Node Kept → List Note
notes_of e path n = losses_of Purged (removed_at e path n)

abbrev pub edited_by : Edit → List ℕ → Node Kept → Node Kept
edited_by e path n = edited_at kept (notes_of e path n) (effect e) path n

-- a row in which this is booked as dropped
abbrev pub with_dropped : Totals → Row → Row
with_dropped lost r = record r { dropped = plus r.dropped lost; queued = minus r.queued lost }

-- no more is lost than was queued, and what has arrived, of which it is a part, fits 64 bits
pub record CanDrop (lost : Totals) (r : Row) : Type 0 where
  pub packets : lost.packets ≤ r.queued.packets
  pub bytes : lost.bytes ≤ r.queued.bytes
  pub arrived_packets : r.arrived.packets < 2 ^ 64
  pub arrived_bytes : r.arrived.bytes < 2 ^ 64

-- a discipline after an edit below its child in this place
pub record IsEditedBeneath (e : Edit) (rest : List ℕ) (place : ℕ) (c : Node Kept) (old new : Discipline) : Type 0 where
  pub discipline : discipline_seen new ≡ settled_in place (is_empty (edited_by e rest c)) (discipline_seen old)
  pub children : children_seen new ≡ set (children_seen old) place (edited_by e rest c)
  pub places : places_seen new ≡ places_seen old

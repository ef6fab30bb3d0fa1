-- What a command does to a tree: one node is put in place of another, or one node gets other settings and children.
-- What is removed loses its packets, and each node above notes them (tc(8), `del`; the order is this project's choice).
use Rattle.std.specs.Prelude.{ℕ, Bool, false, ◌==◌, if◌then◌else◌, List, [], ◌∷◌, map, slice_get, set}
use Rattle.std.specs.List.{enumerate_from, flat_map, list_any}
use Rattle.std.specs.Option.{option_map_or, option_to_list}
use Rattle.q_packet.specs.Descriptor.{Descriptor}
use Rattle.q_packet.specs.declared.cause.Cause.TheVariants.{Purged}
use Rattle.q_model.specs.Tally.{Tally, Note, noted}
use Rattle.q_model.specs.Node.{Own, Node, Shape, blank, children, side_by_side}
use Rattle.q_model.specs.Beneath.{beneath, is_empty}
use Rattle.q_model.specs.Find.{node_at}
use Rattle.q_model.specs.Work.{losses_of, settled}

-- A child of a node that is edited: the one that was at this place, with all that it remembers; the same with these
-- settings; or a new one. An edit names children by their places, so that it keeps what they remember without saying it.
pub data Child : Type 0 where
  Kept : ℕ → Child
  Retuned : ℕ → Own → Child
  New : Shape → Child

-- Graft: this node takes the place of the one at the end of the path. Remake: the node at its end gets these
-- settings and children, and the children that are not among them go.
pub data Edit : Type 0 where
  Graft : List ℕ → Shape → Edit
  Remake : List ℕ → Own → List Child → Edit

abbrev pub with_own : {M : Type 0} → Own → Node M → Node M
with_own own n = record n { own = own }

abbrev pub child_of : {M : Type 0} → Tally M → List (Node M) → Child → List (Node M)
child_of t old (Kept i) = option_to_list (slice_get old i)
child_of t old (Retuned i own) = map (with_own own) (option_to_list (slice_get old i))
child_of t old (New s) = blank t s ∷ []

abbrev pub remade : {M : Type 0} → Tally M → Own → List Child → List Note → Node M → Node M
remade t own below notes n = record {
  own = own;
  memory = noted t n.memory notes;
  below = side_by_side (flat_map (child_of t (children n)) below);
}

-- a node above one that was edited: it notes what was lost, and a class of a drr that is thereby empty leaves the active list
abbrev pub above : {M : Type 0} → Tally M → List Note → ℕ → Node M → Node M → Node M
above t notes i child n = record {
  own = settled i (is_empty child) n.own;
  memory = noted t n.memory notes;
  below = side_by_side (set (children n) i child);
}

abbrev pub edited_at : {M : Type 0} → Tally M → List Note → (Node M → Node M) → List ℕ → Node M → Node M
edited_at t notes f [] n = f n
edited_at t notes f (i ∷ path) n = option_map_or (λ child. above t notes i (edited_at t notes f path child) n) (slice_get (children n) i) n

-- whether the child that was at place i stays
abbrev pub keeps : ℕ → Child → Bool
keeps i (Kept j) = i == j
keeps i (Retuned j own) = i == j
keeps i (New s) = false

-- what was below the children that go, in class order
abbrev pub beneath_removed : List Child → Shape → List Descriptor
beneath_removed below n =
    flat_map (λ child. if list_any (keeps child.0) below then [] else beneath child.1) (enumerate_from 0 (children n))

-- What an edit of this tree loses: all that was below the node which another replaces, or below the children which go.
abbrev pub packets_removed : Edit → Shape → List Descriptor
packets_removed (Graft path new) root = option_map_or (λ (old : Shape). beneath old) (node_at path root) []
packets_removed (Remake path own below) root = option_map_or (beneath_removed below) (node_at path root) []

abbrev pub lost_by : Edit → Shape → List Note
lost_by edit root = losses_of Purged (packets_removed edit root)

abbrev pub edited : {M : Type 0} → Tally M → List Note → Edit → Node M → Node M
edited t notes (Graft path new) root = edited_at t notes (λ old. blank t new) path root
edited t notes (Remake path own below) root = edited_at t notes (remade t own below notes) path root

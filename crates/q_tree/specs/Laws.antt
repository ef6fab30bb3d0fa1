-- What is true of every call for a packet, whatever the tree.
use Rattle.std.specs.Prelude.{◌≡◌, ◌≢◌, ℕ, not, List, ◌∷◌, ◌++◌, map, Some}
use Rattle.std.specs.List.{filter}
use Rattle.q_packet.specs.Cause.{is_refusal}
use Rattle.q_packet.specs.Descriptor.{Descriptor}
use Rattle.q_codel.specs.declared.loss.Loss.{Loss}
use Rattle.q_model.specs.declared.totals.Totals.{Totals}
use Rattle.q_model.specs.Beneath.{totals_in}
use Rattle.q_model.specs.Edit.{Edit, Graft, Remake}
use Rattle.q_model.specs.Find.{node_at}
use Rattle.q_model.specs.Route.{Route, device_route}
use Rattle.q_model.specs.Step.{losses_in}
use Rattle.q_model.specs.Tally.{Counts}
use Rattle.q_model.specs.TreeState.{TreeState, put, noted_by_put, peek_packet, take_packet, noted_by_take, with_edit}
use Rattle.q_tree.specs.arrival.Arrivals.{plus}
use Rattle.q_tree.specs.arrival.Places.{places_at}
use Rattle.q_tree.specs.Kept.{Kept, kept}

-- Where the path to a node leaves the packet's route, a put changes nothing there: neither the node nor what it counted.
abbrev pub PutLeavesOtherSubtrees : Type 0
PutLeavesOtherSubtrees =
    (now : ℕ) (p : Descriptor) (s : TreeState Kept) (r : Route) (shared rest below : List ℕ) (i j : ℕ)
    → device_route p s.device.mtu s.root ≡ Some r → r.path ≡ shared ++ i ∷ rest → i ≢ j
    → node_at (shared ++ j ∷ below) (put kept now p s).root ≡ node_at (shared ++ j ∷ below) s.root

-- A put makes no place and takes none away: every queue has as many as it had.
abbrev pub PutKeepsPlaces : Type 0
PutKeepsPlaces = (now : ℕ) (p : Descriptor) (s : TreeState Kept) (way : List ℕ) → places_at way (put kept now p s).root ≡ places_at way s.root

-- the path to the node that a command edits
abbrev pub way_to : Edit → List ℕ
way_to (Graft path new) = path
way_to (Remake path own below) = path

-- Where the path to a node leaves that, a command changes nothing there: neither the node, nor what it counted, nor its places.
abbrev pub EditLeavesOtherSubtrees : Type 0
EditLeavesOtherSubtrees =
    (edit : Edit) (s : TreeState Kept) (shared rest below : List ℕ) (i j : ℕ) → way_to edit ≡ shared ++ i ∷ rest → i ≢ j
    → node_at (shared ++ j ∷ below) (with_edit kept edit s).root ≡ node_at (shared ++ j ∷ below) s.root

-- what packets lost for these causes come to, refusals and later losses apart
abbrev pub refused_of : List Loss → Totals
refused_of losses = totals_in (map (λ (l : Loss). l.packet) (filter (λ (l : Loss). is_refusal l.cause) losses))

abbrev pub dropped_of : List Loss → Totals
dropped_of losses = totals_in (map (λ (l : Loss). l.packet) (filter (λ (l : Loss). not (is_refusal l.cause)) losses))

-- From one row of counters to another, refused and dropped have grown by these losses.
pub record HasCountedLosses (losses : List Loss) (before after : Counts) : Type 0 where
  pub refused : after.refused ≡ plus before.refused (refused_of losses)
  pub dropped : after.dropped ≡ plus before.dropped (dropped_of losses)

abbrev pub PutCountsItsLosses : Type 0
PutCountsItsLosses =
    (now : ℕ) (p : Descriptor) (s : TreeState Kept) → HasCountedLosses (losses_in (noted_by_put now p s)) s.top.counts (put kept now p s).top.counts

abbrev pub PeekCountsItsLosses : Type 0
PeekCountsItsLosses =
    (now : ℕ) (s : TreeState Kept) → HasCountedLosses (losses_in (noted_by_take now s)) s.top.counts (peek_packet kept now s).top.counts

abbrev pub TakeCountsItsLosses : Type 0
TakeCountsItsLosses =
    (now : ℕ) (s : TreeState Kept) → HasCountedLosses (losses_in (noted_by_take now s)) s.top.counts (take_packet kept now s).top.counts

-- What the invariant of a device comes to for its caller.
use Rattle.std.proofs.Common.{ℕ, ◌≤◌, ◌∙◌, zero, suc, List, [], ◌∷◌, length, sym, subst, Option, Some, None, option_and_then, option_map, arith}
use Rattle.std.specs.Prelude.{All, IfSome, slice_get}
use Rattle.std.proofs.lemmas.List.{take_all}
use Rattle.std.proofs.lemmas.List.Elements.{All-head, All-tail}
use Rattle.q_model.specs.declared.event.Event.{Event}
use Rattle.q_model.specs.declared.place.Place.{Place}
use Rattle.q_model.specs.declared.place.Place.TheVariants as place
use Rattle.q_model.specs.Beneath.{row}
use Rattle.q_model.specs.Conserved.{nodes_of, every_node, IsBalanced}
use Rattle.q_model.specs.Events.{IsEvent}
use Rattle.q_model.specs.Find.{class_path, node_at}
use Rattle.q_model.specs.Lawful.{IsLawfulNode, IsLawfulTree}
use Rattle.q_model.specs.Node.{Forest, none, more, Node, children, nodes_in}
use Rattle.q_model.specs.Settings.{IsInRange}
use Rattle.q_model.specs.Tally.{Counts, totals}
use Rattle.q_model.specs.TreeState.{TreeState, stats}
use Rattle.q_invariants.proofs.tree.Members.{All-front, All-back}
use Rattle.q_device.specs.device.DeviceSeen.{DeviceSeen}
use Rattle.q_device.specs.DeviceLaws.{IsReplayOfRecorded, IsLawfulDevice, TellsItsLosses}
use Rattle.q_device.specs.Replayed.{IsReplayOf}
use Rattle.q_device.proofs.laws.LawfulLemmas.{losses-told, seen-lawful}

-- what is true of every node of a tree is true of every node beneath a child, and of the one at the end of a way
at-child : (P : Node Counts → Type 0) (x : Forest Counts) (i : ℕ) → All P (nodes_of x) → IfSome (slice_get (nodes_in x) i) (λ c. All P (every_node c))
at-child P none i all = tt
at-child P (more own m below others) zero all =
    let c : Node Counts = record { own = own; memory = m; below = below } in
    All-front P (c ∷ nodes_of below) (nodes_of others) all
at-child P (more own m below others) (suc i) all =
    let c : Node Counts = record { own = own; memory = m; below = below } in
    at-child P others i (All-back P (c ∷ nodes_of below) (nodes_of others) all)

at-way : (P : Node Counts → Type 0) (path : List ℕ) (n : Node Counts) → All P (every_node n) → IfSome (node_at path n) P
at-way P [] n all = All-head P n (nodes_of n.below) all
at-way P (i ∷ path) n all = by (slice_get (children n) i) (at-child P n.below i (All-tail P n (nodes_of n.below) all)) (λ c. at-way P path c)
  where
    by : (o : Option (Node Counts)) → IfSome o (λ c. All P (every_node c)) → ((c : Node Counts) → All P (every_node c) → IfSome (node_at path c) P) → IfSome (option_and_then (node_at path) o) P
    by None all below = tt
    by (Some c) all below = below c all

stats-balanced : (clock : ℕ) (s : TreeState Counts) → IsLawfulTree totals clock s → (p : Place) → IfSome (stats totals p s) IsBalanced
stats-balanced clock s h place.Top = h.device
stats-balanced clock s h place.Root = (All-head (IsLawfulNode totals s.device.mtu clock) s.root (nodes_of s.root.below) h.nodes).balanced
stats-balanced clock s h (place.Class class) = by (class_path class s.root)
  where
    at : (o : Option (Node Counts)) → IfSome o (IsLawfulNode totals s.device.mtu clock) → IfSome (option_map (row totals) o) IsBalanced
    at None lawful = tt
    at (Some n) lawful = lawful.balanced

    by : (o : Option (List ℕ)) → IfSome (option_map (row totals) (option_and_then (λ path. node_at path s.root) o)) IsBalanced
    by None = tt
    by (Some path) = at (node_at path s.root) (at-way (IsLawfulNode totals s.device.mtu clock) path s.root h.nodes)

module _ (events : List Event) (d : DeviceSeen) (h : IsReplayOf events d) (range : IsInRange d.settings) (all : All IsEvent events) where
  pub of-recorded : IsReplayOfRecorded d
  of-recorded few =
      let within : length events ≤ d.settings.recorder = omega (arith, few, h.counted, range.recorder) in
      subst (λ es. IsReplayOf es d) (sym (h.recorded ∙ take_all d.settings.recorder events within)) h

  pub lawful-device : IsLawfulDevice d
  lawful-device = let tree = seen-lawful events d h range all in record { tree = tree; rows = stats-balanced d.device.clock d.device.tree tree }

  pub tells-losses : TellsItsLosses d
  tells-losses =
      let lost = losses-told events d h in
      record { lost = lost; arrived = omega (arith, lost, (seen-lawful events d h range all).device.packets) }

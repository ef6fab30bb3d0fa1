-- Whether two trees are the same, but for what they hold and counted, for the order of a drr's classes, and for numbers that a file
-- leaves to the device. Nodes are compared by what `tc qdisc show`, `tc class show` and `tc filter show` print of them (tc(8)).
use Rattle.std.specs.Prelude.{◌≡◌, ◌≤◌, ◌^◌, ℕ, Bool, true, ◌&&◌, ◌==◌, List, [], ◌∷◌, map, length, Option, Some, None}
use Rattle.std.specs.List.{AllByRecursion, list_all, list_any}
use Rattle.std.specs.Option.{option_eq}
use mathlib.Core.Logic.{◌⊎◌}
use Rattle.q_model.specs.declared.class_kind.ClassKind.{ClassKind}
use Rattle.q_model.specs.declared.class_kind.ClassKind.TheVariants as class
use Rattle.q_model.specs.declared.class_view.ClassView.{ClassView}
use Rattle.q_model.specs.declared.filter_view.FilterView.{FilterView}
use Rattle.q_model.specs.declared.place.Place.{Place}
use Rattle.q_model.specs.declared.place.Place.TheVariants as place
use Rattle.q_model.specs.declared.qdisc_view.QdiscView.{QdiscView}
use Rattle.q_model.specs.Node.{Node, children}
use Rattle.q_model.specs.TreeState.{TreeState}
use Rattle.q_model.specs.Views.{class_views, filter_views, qdisc_view}
use Rattle.q_tree.specs.answers.Showing.{standing}
use Rattle.q_setup.specs.Naming.{same_handle, same_place}

-- a node, as show prints it without its counters
pub record Entry : Type 0 where
  pub place : Place
  pub handle : Option ℕ
  pub qdisc : QdiscView
  pub classes : List ClassView
  pub filters : List FilterView

abbrev pub entry : {M : Type 0} → Place × Node M → Entry
entry x = record {
  place = x.0;
  handle = x.1.own.handle;
  qdisc = qdisc_view (length (children x.1)) x.1.own.discipline;
  classes = class_views x.1;
  filters = filter_views x.1;
}

abbrev pub entries : {M : Type 0} → TreeState M → List Entry
entries s = map entry (standing place.Root s.root)

-- the quantum of a class of a drr; no other has one
abbrev pub quantum_of : ClassKind → Option ℕ
quantum_of (class.Drr quantum deficit) = Some quantum
quantum_of class.Prio = None
quantum_of class.Tbf = None

-- the same number in its qdisc, and the same quantum
abbrev pub same_share : ClassView → ClassView → Bool
same_share c d = (c.class.minor == d.class.minor) && option_eq (λ a b. a == b) (quantum_of c.kind) (quantum_of d.kind)

abbrev pub has_classes : List ClassView → List ClassView → Bool
has_classes cs ds = list_all (λ c. list_any (same_share c) ds) cs

-- A node is like one that is wanted: the same qdisc with the same settings in the same place, with the same classes, and the same
-- filters in the same order.
pub record IsLike (keep : Bool) (wanted node : Entry) : Type 0 where
  pub handle : same_handle keep wanted.handle node.handle ≡ true
  pub place : same_place keep wanted.place node.place ≡ true
  pub qdisc : wanted.qdisc ≡ node.qdisc
  pub filters : wanted.filters ≡ node.filters
  pub classes : has_classes wanted.classes node.classes ≡ true
  pub no_others : has_classes node.classes wanted.classes ≡ true

-- few enough classes and filters to be gone over; those of a lawful tree are
pub record IsShort (e : Entry) : Type 0 where
  pub classes : length e.classes ≤ 2 ^ 16
  pub filters : length e.filters ≤ 2 ^ 16

-- some of a list is so
abbrev pub IsAmong : {A : Type 0} → (A → Type 0) → List A → Type 0
IsAmong P [] = ⊥
IsAmong P (x ∷ xs) = P x ⊎ IsAmong P xs

-- each node of the wanted tree has its like in the other, and each node of that is like one that is wanted
pub record AreAlike (keep : Bool) (wanted nodes : List Entry) : Type 0 where
  pub there : AllByRecursion (λ x. IsAmong (IsLike keep x) nodes) wanted
  pub besides : AllByRecursion (λ y. IsAmong (λ x. IsLike keep x y) wanted) nodes

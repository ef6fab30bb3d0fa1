-- The class of a drr that is to go, and the child in it.
use Rattle.std.proofs.Common.{◌≡◌, ℕ, ◌<◌, ◌∙◌, true, List, length, sym, ap, Option, Some, None, option_and_then, option_map}
use Rattle.std.specs.Prelude.{is_some, slice_get, slice_index_or}
use Rattle.q_drr.specs.Schedule.{Schedule, has_class, place_of}
use Rattle.q_model.specs.Node as spec
use Rattle.q_model.specs.Node.{Node}
use Rattle.q_invariants.proofs.edit.EditClasses.{class_known, member_at}
use Rattle.q_tree.specs.commands.DisciplineChanges.{class_child}
use Rattle.q_tree.specs.Kept.{Kept}
use Rattle.q_tree.proofs.arrival.Puts.{same-child}

pub class-is-there : (class i : ℕ) (s : Schedule) → Some i ≡ place_of class s.classes → has_class class s.classes ≡ true
class-is-there class i s place = sym (class_known 0 class s) ∙ ap is_some (sym place)

module _ (class : ℕ) (d : spec.Discipline) (s : Schedule) (ns items : List (Node Kept)) (is : d ≡ spec.Drr s) (same : ns ≡ items) where
  child-by : (o : Option ℕ) → o ≡ place_of class s.classes → class_child class d ns ≡ option_and_then (λ i. option_map {U = ℕ × Node Kept} (λ (c : Node Kept). (i, c)) (slice_get items i)) o
  child-by o place =
      ap (λ x. class_child class x ns) is
      ∙ ap (λ p. option_and_then (λ i. option_map {U = ℕ × Node Kept} (λ (c : Node Kept). (i, c)) (slice_get ns i)) p) (sym place)
      ∙ ap (λ xs. option_and_then (λ i. option_map {U = ℕ × Node Kept} (λ (c : Node Kept). (i, c)) (slice_get xs i)) o) same

  pub found-class : (i : ℕ) (x : Node Kept) → Some i ≡ place_of class s.classes → i < length items → x ≡ slice_index_or items i x → class_child class d ns ≡ Some (i, x)
  found-class i x place lt at =
      let there = member_at items i lt in
      child-by (Some i) place ∙ ap (option_map {U = ℕ × Node Kept} (λ (c : Node Kept). (i, c))) (there.1 ∙ ap (λ c. Some c) (sym (same-child items i x there.0 at there.1)))

  pub past-class : (i : ℕ) → Some i ≡ place_of class s.classes → slice_get items i ≡ None → class_child class d ns ≡ None
  past-class i place past = child-by (Some i) place ∙ ap (option_map {U = ℕ × Node Kept} (λ (c : Node Kept). (i, c))) past

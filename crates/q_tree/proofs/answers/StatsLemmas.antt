-- The node in a class is the child in that class of the qdisc that it names.
use Rattle.std.proofs.Common.{◌≡◌, ℕ, ◌∙◌, List, [], ◌∷◌, ◌++◌, refl, sym, ap, Option, Some, None, option_map, option_and_then}
use Rattle.std.specs.Prelude.{slice_get}
use Rattle.std.proofs.lemmas.Option.{none-some, same_Some}
use Rattle.q_model.specs.declared.class_id.ClassId.{ClassId}
use Rattle.q_model.specs.declared.place.Place.{Place}
use Rattle.q_model.specs.declared.place.Place.TheVariants as place
use Rattle.q_model.specs.Beneath.{row}
use Rattle.q_model.specs.Find.{path_of, node_at, class_place, class_path}
use Rattle.q_model.specs.Node.{Node, children}
use Rattle.q_model.specs.TreeState.{TreeState, stats}
use Rattle.q_tree.specs.answers.Finding.{qdisc_with, class_with}
use Rattle.q_tree.specs.Kept.{Kept, kept}

at-end : (path : List ℕ) (i : ℕ) (n parent : Node Kept) → node_at path n ≡ Some parent → node_at (path ++ i ∷ []) n ≡ slice_get (children parent) i
at-end [] i n parent e = last (slice_get (children n) i) ∙ ap (λ (m : Node Kept). slice_get (children m) i) (same_Some n parent e) where
  last : (o : Option (Node Kept)) → option_and_then (node_at []) o ≡ o
  last None = refl
  last (Some m) = refl
at-end (j ∷ path) i n parent e = by (slice_get (children n) j) (λ c. at-end path i c parent) e where
  by : (o : Option (Node Kept)) → ((c : Node Kept) → node_at path c ≡ Some parent → node_at (path ++ i ∷ []) c ≡ slice_get (children parent) i)
      → option_and_then (node_at path) o ≡ Some parent → option_and_then (node_at (path ++ i ∷ [])) o ≡ slice_get (children parent) i
  by None on there = absurd (none-some parent there)
  by (Some c) on there = on c there

pub in-class : (id : ClassId) (n : Node Kept) → option_and_then (class_with id.minor) (qdisc_with id.major n) ≡ option_and_then (λ path. node_at path n) (class_path id n)
in-class id n = by (path_of id.major n) where
  class-at : (path : List ℕ) (o : Option (Node Kept)) → node_at path n ≡ o
      → option_and_then (class_with id.minor) o ≡ option_and_then (λ p. node_at p n)
      (option_and_then (λ parent. option_map (λ i. path ++ i ∷ []) (class_place id.minor parent)) o)
  class-at path None e = refl
  class-at path (Some parent) e = child (class_place id.minor parent) where
    child : (o : Option ℕ) → option_and_then (slice_get (children parent)) o ≡ option_and_then (λ p. node_at p n) (option_map (λ i. path ++ i ∷ []) o)
    child None = refl
    child (Some i) = sym (at-end path i n parent e)

  by : (o : Option (List ℕ))
      → option_and_then (class_with id.minor) (option_and_then (λ path. node_at path n) o)
      ≡ option_and_then (λ path. node_at path n)
      (option_and_then (λ path. option_and_then (λ parent. option_map (λ i. path ++ i ∷ []) (class_place id.minor parent)) (node_at path n)) o)
  by None = refl
  by (Some path) = class-at path (node_at path n) refl

-- what is counted there
pub class-stats : (s : TreeState Kept) (p : Place) (id : ClassId) (n : Node Kept) (m : Option (Node Kept)) → p ≡ place.Class id
    → qdisc_with id.major s.root ≡ Some n → class_with id.minor n ≡ m → option_map (row kept) m ≡ stats kept p s
class-stats s p id n m is parent child =
    ap (option_map (row kept)) (sym (ap (option_and_then (class_with id.minor)) parent ∙ child) ∙ in-class id s.root)
    ∙ sym (ap (λ q. stats kept q s) is)

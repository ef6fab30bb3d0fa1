-- What a node counted, in a tree whose nodes remember something else.
use Rattle.std.proofs.Common.{◌≡◌, ℕ, ◌∙◌, List, [], ◌∷◌, ◌++◌, length, refl, sym, ap, ap₂, Option, Some, None, option_map, option_and_then}
use Rattle.std.specs.Prelude.{◌==◌, slice_get}
use Rattle.std.specs.List.{find}
use Rattle.std.proofs.lemmas.List.{length-map}
use Rattle.q_model.specs.declared.class_id.ClassId.{ClassId}
use Rattle.q_model.specs.declared.place.Place.{Place}
use Rattle.q_model.specs.declared.place.Place.TheVariants as place
use Rattle.q_model.specs.Beneath.{beneath_own, beneath, row_of, row}
use Rattle.q_model.specs.Find.{addresses_own, Address, class_in, class_place, class_path, node_at, path_of}
use Rattle.q_model.specs.Node.{Node, children, with_memory}
use Rattle.q_model.specs.Shrink.{remembering}
use Rattle.q_model.specs.Tally.{Tally, Counts}
use Rattle.q_model.specs.TreeState.{TreeState, stats}
use Rattle.q_model.proofs.ShrinkLemmas.{child-with_memory, each-each_memory, nodes_in-each_memory}

module _ {M N : Type 0} (t : Tally M) (u : Tally N) (f : M → N) (same : (m : M) → t.counts_of m ≡ u.counts_of (f m)) where
  beneath-stands : (n : Node M) → beneath (with_memory f n) ≡ beneath n
  beneath-stands n = ap (beneath_own n.own) (each-each_memory beneath_own f n.below)

  row-stands : (n : Node M) → row t n ≡ row u (with_memory f n)
  row-stands n = ap₂ row_of (same n.memory) (sym (beneath-stands n))

  pub node_at-stands : (path : List ℕ) (n : Node M) → node_at path (with_memory f n) ≡ option_map (with_memory f) (node_at path n)
  node_at-stands [] n = refl
  node_at-stands (i ∷ path) n = ap (option_and_then (node_at path)) (child-with_memory f n i) ∙ by (slice_get (children n) i) (λ c. node_at-stands path c)
    where
      by : (o : Option (Node M)) → ((c : Node M) → node_at path (with_memory f c) ≡ option_map (with_memory f) (node_at path c))
          → option_and_then (node_at path) (option_map (with_memory f) o) ≡ option_map (with_memory f) (option_and_then (node_at path) o)
      by None below = refl
      by (Some c) below = below c

  path-stands : (handle : ℕ) (n : Node M) → path_of handle (with_memory f n) ≡ path_of handle n
  path-stands handle n = ap (λ below. option_map (λ (a : Address). a.path) (find (λ (a : Address). a.handle == handle) (addresses_own n.own below))) (each-each_memory addresses_own f n.below)

  place-stands : (minor : ℕ) (n : Node M) → class_place minor (with_memory f n) ≡ class_place minor n
  place-stands minor n = ap (λ bands. class_in bands minor n.own.discipline) (ap length (nodes_in-each_memory f n.below) ∙ length-map (children n) (with_memory f))

  pub class-stands : (class : ClassId) (n : Node M) → class_path class (with_memory f n) ≡ class_path class n
  class-stands class n =
      ap (λ o. option_and_then (λ path. option_and_then (λ parent. option_map (λ i. path ++ i ∷ []) (class_place class.minor parent)) (node_at path (with_memory f n))) o) (path-stands class.major n)
      ∙ by (path_of class.major n)
    where
      child : (path : List ℕ) (o : Option (Node M))
          → option_and_then (λ parent. option_map (λ i. path ++ i ∷ []) (class_place class.minor parent)) (option_map (with_memory f) o)
          ≡ option_and_then (λ parent. option_map (λ i. path ++ i ∷ []) (class_place class.minor parent)) o
      child path None = refl
      child path (Some parent) = ap (option_map (λ i. path ++ i ∷ [])) (place-stands class.minor parent)

      by : (o : Option (List ℕ))
          → option_and_then (λ path. option_and_then (λ parent. option_map (λ i. path ++ i ∷ []) (class_place class.minor parent))
          (node_at path (with_memory f n))) o ≡ option_and_then
          (λ path. option_and_then (λ parent. option_map (λ i. path ++ i ∷ []) (class_place class.minor parent)) (node_at path n)) o
      by None = refl
      by (Some path) = ap (option_and_then (λ parent. option_map (λ i. path ++ i ∷ []) (class_place class.minor parent))) (node_at-stands path n) ∙ child path (node_at path n)

  pub stats-stands : (p : Place) (s : TreeState M) → stats t p s ≡ stats u p (remembering f s)
  stats-stands place.Top s = ap₂ (λ (c : Counts) ps. Some (row_of c ps)) (same s.top) (sym (beneath-stands s.root))
  stats-stands place.Root s = ap Some (row-stands s.root)
  stats-stands (place.Class class) s =
      by (class_path class s.root) ∙ ap (λ o. option_map (row u) (option_and_then (λ path. node_at path (with_memory f s.root)) o)) (sym (class-stands class s.root))
    where
      at : (o : Option (Node M)) → option_map (row t) o ≡ option_map (row u) (option_map (with_memory f) o)
      at None = refl
      at (Some n) = ap Some (row-stands n)

      by : (o : Option (List ℕ)) → option_map (row t) (option_and_then (λ path. node_at path s.root) o) ≡ option_map (row u) (option_and_then (λ path. node_at path (with_memory f s.root)) o)
      by None = refl
      by (Some path) = at (node_at path s.root) ∙ ap (option_map (row u)) (sym (node_at-stands path s.root))

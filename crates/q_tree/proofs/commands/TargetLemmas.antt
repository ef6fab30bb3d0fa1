-- The qdisc that a line names is the same in a tree and in its shape.
use Rattle.std.proofs.Common.{◌≡◌, ℕ, ◌<◌, ◌≤◌, ◌∙◌, List, [], ◌∷◌, ◌++◌, length, refl, sym, ap, Option, Some, None, option_map, option_and_then, Result, Err, arith}
use Rattle.std.specs.Prelude.{Bool, true, false, ◌==◌, is_some, if◌then◌else◌}
use Rattle.std.specs.List.{find}
use Rattle.std.specs.Option.{option_eq, option_map_or}
use Rattle.std.proofs.lemmas.Option.{none-some, same_Some}
use Rattle.q_model.specs.declared.class_id.ClassId.{ClassId}
use Rattle.q_model.specs.declared.refusal.Refusal.{Refusal}
use Rattle.q_model.specs.declared.place.Place.{Place}
use Rattle.q_model.specs.declared.place.Place.TheVariants as place
use Rattle.q_model.specs.Edit as model
use Rattle.q_model.specs.Find.{Address, addresses_own, class_in, class_path, class_place, depth, is_explicit, node_at, path_of, place_path}
use Rattle.q_model.specs.Node.{Node, Shape, shape}
use Rattle.q_model.specs.QdiscCommands.{at_target, explicit_at, handle_at, target}
use Rattle.q_model.specs.Refusals.{is_so}
use Rattle.q_invariants.proofs.edit.Edits.{found_in_shape}
use Rattle.q_invariants.proofs.edit.EditSuits.{length-shape, node_at-shape}
use Rattle.q_invariants.proofs.sizes.EditSizes.{depth-node, sized-within}
use Rattle.q_invariants.proofs.sizes.MadeSizes.{depth-shape}
use Rattle.q_tree.specs.answers.Finding.{reached}
use Rattle.q_tree.specs.Kept.{Kept}

pub path-shape : (h : ℕ) (root : Node Kept) → path_of h (shape root) ≡ path_of h root
path-shape h root = ap (λ xs. option_map (λ (a : Address). a.path) (find (λ (a : Address). a.handle == h) xs)) (found_in_shape addresses_own root)

pub class-shape : (minor : ℕ) (n : Node Kept) → class_place minor (shape n) ≡ class_place minor n
class-shape minor n = ap (λ k. class_in k minor n.own.discipline) (length-shape n)

class_path-shape : (class : ClassId) (root : Node Kept) → class_path class (shape root) ≡ class_path class root
class_path-shape class root =
    ap (option_and_then (λ path. option_and_then (λ (parent : Shape). option_map (λ i. path ++ i ∷ []) (class_place class.minor parent)) (node_at path (shape root)))) (path-shape class.major root)
    ∙ by (path_of class.major root) where
      at : (path : List ℕ) (o : Option (Node Kept))
          → option_and_then (λ (parent : Shape). option_map (λ i. path ++ i ∷ []) (class_place class.minor parent)) (option_map shape o)
          ≡ option_and_then (λ (parent : Node Kept). option_map (λ i. path ++ i ∷ []) (class_place class.minor parent)) o
      at path None = refl
      at path (Some n) = ap (option_map (λ i. path ++ i ∷ [])) (class-shape class.minor n)

      by : (o : Option (List ℕ))
          → option_and_then (λ path. option_and_then (λ (parent : Shape). option_map (λ i. path ++ i ∷ []) (class_place class.minor parent))
          (node_at path (shape root))) o ≡ option_and_then
          (λ path. option_and_then (λ (parent : Node Kept). option_map (λ i. path ++ i ∷ []) (class_place class.minor parent)) (node_at path root)) o
      by None = refl
      by (Some path) = ap (option_and_then (λ (parent : Shape). option_map (λ i. path ++ i ∷ []) (class_place class.minor parent))) (node_at-shape path root) ∙ at path (node_at path root)

pub place-shape : (p : Place) (root : Node Kept) → place_path p (shape root) ≡ place_path p root
place-shape place.Top root = refl
place-shape place.Root root = refl
place-shape (place.Class class) root = class_path-shape class root

pub explicit-shape : (path : List ℕ) (root : Node Kept) → is_explicit path (shape root) ≡ is_explicit path root
explicit-shape path root = ap (λ o. option_map_or (λ (at : Shape). is_some at.own.handle) o false) (node_at-shape path root) ∙ by (node_at path root) where
  by : (o : Option (Node Kept)) → option_map_or (λ (at : Shape). is_some at.own.handle) (option_map shape o) false ≡ option_map_or (λ (at : Node Kept). is_some at.own.handle) o false
  by None = refl
  by (Some n) = refl

-- a way that leads to a node is shorter than the tree is deep
pub path-short : (path : List ℕ) (root n : Node Kept) → node_at path root ≡ Some n → depth root ≤ 8 → length path < 8
path-short path root n at deep =
    let within = sized-within path (shape root) (shape n) (node_at-shape path root ∙ ap (option_map shape) at) in
    omega (arith, within.0, depth-shape root, depth-node (shape n), deep)

-- the way to an explicit qdisc, once that to its place is known
pub explicit-at : (p : Place) (root : Node Kept) (o : Option (List ℕ)) → o ≡ place_path p root
    → option_and_then (λ path. if is_explicit path root then Some path else None) o ≡ explicit_at (Some p) (shape root)
explicit-at p root o is = by o ∙ ap (option_and_then (λ path. if is_explicit path (shape root) then Some path else None)) (is ∙ sym (place-shape p root)) where
  by : (x : Option (List ℕ)) → option_and_then (λ path. if is_explicit path root then Some path else None) x ≡ option_and_then (λ path. if is_explicit path (shape root) then Some path else None) x
  by None = refl
  by (Some path) = ap (λ b. if b then Some path else None) (sym (explicit-shape path root))

-- what was found, with the node there
pub record IsReached (root : Node Kept) (found : Option (List ℕ)) (path : List ℕ) (n : Node Kept) : Type 0 where
  pub found_is : found ≡ Some path
  pub there : node_at path root ≡ Some n

pub reached-at : (root : Node Kept) (found : Option (List ℕ)) (path : List ℕ) (n : Node Kept) → reached root found ≡ Some (path, n) → IsReached root found path n
reached-at root None path n e = absurd (none-some (path, n) e)
reached-at root (Some way) path n e = by (node_at way root) refl e where
  by : (o : Option (Node Kept)) → node_at way root ≡ o → option_map {U = List ℕ × Node Kept} (λ (m : Node Kept). (way, m)) o ≡ Some (path, n) → IsReached root (Some way) path n
  by None at same = absurd (none-some (path, n) same)
  by (Some m) at same =
      let pair = same_Some (way, m) (path, n) same in
      record { found_is = ap (λ (x : List ℕ × Node Kept). Some x.0) pair; there = ap (λ (x : List ℕ × Node Kept). node_at x.0 root) (sym pair) ∙ at ∙ ap (λ (x : List ℕ × Node Kept). Some x.1) pair }

-- a qdisc that is named by its place and by its handle
pub both-name : (p : Place) (h : ℕ) (root n : Node Kept) (path : List ℕ) (b : Bool)
    → reached root (explicit_at (Some p) (shape root)) ≡ Some (path, n) → b ≡ option_eq (λ a c. a == c) n.own.handle (Some h)
    → (if b then Some (path, n) else None) ≡ reached root (target (Some p) (Some h) (shape root))
both-name p h root n path b e same =
    let is : IsReached root (explicit_at (Some p) (shape root)) path n = reached-at root (explicit_at (Some p) (shape root)) path n e in
    let handle : handle_at path (shape root) ≡ n.own.handle = ap (option_and_then (λ (m : Shape). m.own.handle)) (node_at-shape path root ∙ ap (option_map shape) is.there) in
    by b is.there
    ∙ ap (λ t. reached root (if t then Some path else None)) (same ∙ asks n.own.handle ∙ sym (ap (is_so (λ k. k == h)) handle))
    ∙ sym (ap (λ o. reached root (option_and_then (λ way. if is_so (λ k. k == h) (handle_at way (shape root)) then Some way else None) o)) is.found_is) where
      by : (t : Bool) → node_at path root ≡ Some n → (if t then Some (path, n) else None) ≡ reached root (if t then Some path else None)
      by true there = sym (ap (option_map {U = List ℕ × Node Kept} (λ (m : Node Kept). (path, m))) there)
      by false there = refl

      asks : (o : Option ℕ) → option_eq (λ a c. a == c) o (Some h) ≡ is_so (λ k. k == h) o
      asks None = refl
      asks (Some k) = refl

-- what the model plans for it
module _ (root : Node Kept) (found : Option (List ℕ)) (refusal : Refusal) (f : List ℕ → Shape → Result model.Edit Refusal) where
  pub target-none : reached root found ≡ None → at_target refusal found f (shape root) ≡ Err refusal
  target-none e = by found e where
    node : (way : List ℕ) (o : Option (Node Kept)) → option_map {U = List ℕ × Node Kept} (λ (n : Node Kept). (way, n)) o ≡ None → option_map_or (f way) (option_map shape o) (Err refusal) ≡ Err refusal
    node way None same = refl
    node way (Some n) same = absurd (none-some (way, n) (sym same))

    by : (o : Option (List ℕ)) → reached root o ≡ None → at_target refusal o f (shape root) ≡ Err refusal
    by None same = refl
    by (Some way) same = ap (λ o. option_map_or (f way) o (Err refusal)) (node_at-shape way root) ∙ node way (node_at way root) same

  pub target-some : (path : List ℕ) (n : Node Kept) → reached root found ≡ Some (path, n) → at_target refusal found f (shape root) ≡ f path (shape n)
  target-some path n e =
      let is : IsReached root found path n = reached-at root found path n e in
      ap (λ o. at_target refusal o f (shape root)) is.found_is ∙ ap (λ o. option_map_or (f path) o (Err refusal)) (node_at-shape path root ∙ ap (option_map shape) is.there)

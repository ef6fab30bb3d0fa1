-- The texts of a list from one place on, and how many are listed of a node of a lawful tree.
use Rattle.std.proofs.Common.{◌≡◌, ◌∙◌, ℕ, zero, suc, ◌+◌, ◌≤◌, List, [], ◌∷◌, ◌++◌, length, Some, None, refl, sym, ap, arith}
use Rattle.std.specs.Prelude.{drop, option_map, slice_get}
use Rattle.std.specs.Option.{option_map_or}
use Rattle.std.specs.List.{flat_map}
use Rattle.std.proofs.lemmas.Option.{none-some}
use Rattle.q_model.specs.Conserved.{every_node}
use Rattle.q_model.specs.Lawful.{IsLawfulNode}
use Rattle.q_model.specs.Node.{Node}
use Rattle.q_model.specs.Tally.{Counts, totals}
use Rattle.q_model.specs.Views.{class_views, filter_views}
use Rattle.q_invariants.proofs.tree.Members.{All-at}
use Rattle.q_tree.specs.Kept.{Kept}
use Rattle.q_tree.specs.TreeSeen.{tree_numbers}
use Rattle.q_session.specs.Shown.{IsOfLawful, counted}
use Rattle.q_session.proofs.ShownCounts.{HasFewChildren, count-is, few-children, few-classes, few-filters}
use Rattle.q_session.proofs.ShownNodes.{node-at}

first-of : {A : Type 0} (f : A → List ℕ) (xs : List A) (i : ℕ) (x : A) → slice_get xs i ≡ Some x → flat_map f (drop i xs) ≡ f x ++ flat_map f (drop (suc i) xs)
first-of f [] i x e = absurd (none-some x e)
first-of f (y ∷ xs) zero x e = ap (λ o. option_map_or f o [] ++ flat_map f xs) e
first-of f (y ∷ xs) (suc i) x e = first-of f xs i x e

pub text-first : {A : Type 0} (f : A → List ℕ) (xs : List A) (i : ℕ) (x : A) → slice_get xs i ≡ Some x → flat_map f (drop i xs) ≡ f x ++ flat_map f (drop (i + 1) xs)
text-first f xs i x e =
    let next : suc i ≡ i + 1 = omega arith in
    first-of f xs i x e ∙ ap (λ k. f x ++ flat_map f (drop k xs)) next

pub text-none : {A : Type 0} (f : A → List ℕ) (xs : List A) (i : ℕ) → slice_get xs i ≡ None → flat_map f (drop i xs) ≡ []
text-none f [] zero e = refl
text-none f [] (suc i) e = refl
text-none f (y ∷ xs) zero e = absurd (none-some y (sym e))
text-none f (y ∷ xs) (suc i) e = text-none f xs i e

-- of each node of a lawful tree 256 at most
few-of : {A : Type 0} (of_node : Node Counts → List A) → ((mtu clock : ℕ) (n : Node Counts) → IsLawfulNode totals mtu clock n → HasFewChildren 256 n → length (of_node n) ≤ 256)
    → (n : Node Kept) → IsOfLawful n → length (of_node (counted n)) ≤ 256
few-of of_node few n (s, h, i, is) =
    let nodes : List (Node Counts) = every_node (tree_numbers s).root in
    let at : slice_get nodes i ≡ Some (counted n) = node-at s.root i ∙ ap (option_map counted) is in
    let most : length nodes ≤ 256 = omega (arith, count-is (tree_numbers s).root, h.1.few) in
    few s.device.mtu h.0 (counted n) (All-at (IsLawfulNode totals s.device.mtu h.0) nodes i (counted n) h.1.nodes at)
    (All-at (HasFewChildren 256) nodes i (counted n) (few-children 256 (tree_numbers s).root h.1.few) at)

pub few-classes-of : (n : Node Kept) → IsOfLawful n → length (class_views (counted n)) ≤ 256
few-classes-of = few-of class_views (λ mtu clock. few-classes totals mtu clock)

pub few-filters-of : (n : Node Kept) → IsOfLawful n → length (filter_views (counted n)) ≤ 256
few-filters-of = few-of filter_views (λ mtu clock n lawful few. few-filters totals mtu clock n lawful)

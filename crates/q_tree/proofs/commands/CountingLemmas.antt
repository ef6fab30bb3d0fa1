-- How many nodes a tree has: of the nodes that were passed, and of those that are still ahead.
use Rattle.std.proofs.Common.{◌≡◌, ℕ, zero, suc, ◌+◌, ◌<◌, ◌≤◌, ◌∙◌, List, [], ◌∷◌, drop, length, map, refl, sym, ap, arith}
use Rattle.std.specs.Prelude.{slice_index_or}
use Rattle.std.specs.List.{sum}
use Rattle.std.proofs.lemmas.List.{drop_more, drop_all}
use Rattle.std.proofs.lemmas.List.Sums.{sum_by-cons}
use Rattle.q_model.specs.Find.{count_nodes}
use Rattle.q_model.specs.Node.{Node, children}
use Rattle.q_invariants.proofs.sizes.EditSizes.{nodes_own}
use Rattle.q_invariants.proofs.tree.Forests.{each-nodes}
use Rattle.q_tree.specs.Kept.{Kept}

-- the nodes from this place on, with those beneath them
abbrev pub ahead : ℕ → List (Node Kept) → ℕ
ahead i ns = sum (map count_nodes (drop i ns))

pub count-all : (n : Node Kept) (ns : List (Node Kept)) → ns ≡ children n → count_nodes n ≡ suc (ahead 0 ns)
count-all n ns is = ap (λ ks. suc (sum ks)) (each-nodes nodes_own n.below) ∙ ap (λ xs. suc (sum (map count_nodes xs))) (sym is)

module _ (ns : List (Node Kept)) (i : ℕ) where
  module _ (n : Node Kept) (inside : i < length ns) (is : n ≡ slice_index_or ns i n) where
    here : drop i ns ≡ n ∷ drop (i + 1) ns
    here = drop_more ns i n inside ∙ ap (λ x. x ∷ drop (i + 1) ns) (sym is)

    pub count-next : ahead i ns ≡ count_nodes n + ahead (i + 1) ns
    count-next = ap (λ xs. sum (map count_nodes xs)) here ∙ sum_by-cons (λ k. k) (count_nodes n) (map count_nodes (drop (i + 1) ns))

  pub count-end : length ns ≤ i → ahead i ns ≡ 0
  count-end past = ap (λ xs. sum (map count_nodes xs)) (drop_all i ns past)

-- no more nodes stand from a place on than there are
fewer-from : (k : ℕ) (ns : List (Node Kept)) → ahead k ns ≤ ahead 0 ns
fewer-from zero ns = omega arith
fewer-from (suc k) [] = omega arith
fewer-from (suc k) (n ∷ ns) = omega (arith, fewer-from k ns, sum_by-cons (λ i. i) (count_nodes n) (map count_nodes ns))

pub few-from : (n : Node Kept) (place : ℕ) → sum (map count_nodes (drop place (children n))) ≤ count_nodes n
few-from n place = omega (arith, fewer-from place (children n), count-all n (children n) refl)

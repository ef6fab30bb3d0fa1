-- The nodes of a tree, one by one, are those of the same tree with totals.
use Rattle.std.proofs.Common.{◌≡◌, ◌∙◌, ℕ, zero, suc, List, [], ◌∷◌, ◌++◌, map, Some, refl, sym, ap, ap₂}
use Rattle.std.specs.Prelude.{option_map, slice_get}
use Rattle.std.specs.List.{AllByRecursion, flat_map}
use Rattle.std.proofs.lemmas.Option.{slice_get-map}
use Rattle.std.proofs.lemmas.List.{map-append}
use Rattle.q_model.specs.declared.node_view.NodeView.{NodeView}
use Rattle.q_model.specs.declared.place.Place.{Place}
use Rattle.q_model.specs.Conserved.{nodes_of, every_node}
use Rattle.q_model.specs.Node.{Forest, none, more, Node, each_memory}
use Rattle.q_model.specs.Tally.{Counts, totals}
use Rattle.q_model.specs.TreeState.{TreeState}
use Rattle.q_model.specs.Views.{class_views, node_view, views}
use Rattle.q_tree.specs.Kept.{Kept, kept}
use Rattle.q_tree.specs.TreeSeen.{tree_numbers}
use Rattle.q_script_semantics.proofs.ShownLemmas.{class_views-seen, views-seen}
use Rattle.q_session.specs.Shown.{IsLawfulSeen, IsOfLawful, counted, listed_text}

abbrev counts_of : Kept → Counts
counts_of k = k.counts

same : (k : Kept) → kept.counts_of k ≡ totals.counts_of (counts_of k)
same k = refl

nodes-seen : (x : Forest Kept) → nodes_of (each_memory counts_of x) ≡ map counted (nodes_of x)
nodes-seen none = refl
nodes-seen (more own m below others) =
    ap (λ (ns : List (Node Counts)). counted (record { own = own; memory = m; below = below }) ∷ ns)
    (ap₂ (λ (a b : List (Node Counts)). a ++ b) (nodes-seen below) (nodes-seen others) ∙ sym (map-append counted (nodes_of below) (nodes_of others)))

every-seen : (n : Node Kept) → every_node (counted n) ≡ map counted (every_node n)
every-seen n = ap (λ (ns : List (Node Counts)). counted n ∷ ns) (nodes-seen n.below)

pub node-at : (n : Node Kept) (i : ℕ) → slice_get (every_node (counted n)) i ≡ option_map counted (slice_get (every_node n) i)
node-at n i = ap (λ (ns : List (Node Counts)). slice_get ns i) (every-seen n) ∙ slice_get-map counted (every_node n) i

pub classes-counted : (n : Node Kept) → class_views n ≡ class_views (counted n)
classes-counted n = class_views-seen kept totals counts_of same n

mapped : {A B : Type 0} (f : A → B) (text : B → List ℕ) (xs : List A) → flat_map (λ x. text (f x)) xs ≡ flat_map text (map f xs)
mapped f text [] = refl
mapped f text (x ∷ xs) = ap (λ ys. text (f x) ++ ys) (mapped f text xs)

module _ (s : TreeState Kept) (nodes : List (Place × Node Kept)) where
  -- the texts of all nodes
  pub text-views : (text : NodeView → List ℕ) → map (λ (x : Place × Node Kept). node_view kept x.0 x.1) nodes ≡ views kept s
      → flat_map text (views totals (tree_numbers s)) ≡ flat_map (λ (x : Place × Node Kept). text (node_view kept x.0 x.1)) nodes
  text-views text are =
      sym (mapped (λ (x : Place × Node Kept). node_view kept x.0 x.1) text nodes ∙ ap (λ vs. flat_map text vs) (are ∙ views-seen kept totals counts_of same s))

  module _ (every : map (λ (x : Place × Node Kept). x.1) nodes ≡ every_node s.root) where
    -- the texts of what is listed of each node
    pub text-listed : {A : Type 0} (line : A → List ℕ) (of_node : Node Counts → List A)
        → listed_text line of_node (tree_numbers s) ≡ flat_map (λ (x : Place × Node Kept). flat_map line (of_node (counted x.1))) nodes
    text-listed line of_node =
        let text : Node Counts → List ℕ = λ n. flat_map line (of_node n) in
        sym (mapped (λ (x : Place × Node Kept). x.1) (λ n. text (counted n)) nodes
        ∙ ap (λ ns. flat_map (λ n. text (counted n)) ns) every
        ∙ mapped counted text (every_node s.root)
        ∙ ap (λ ns. flat_map text ns) (sym (every-seen s.root)))

    pub all-lawful : IsLawfulSeen s → AllByRecursion (λ (x : Place × Node Kept). IsOfLawful x.1) nodes
    all-lawful h = among nodes (λ j n e. (j, ap (λ ns. slice_get ns j) (sym every) ∙ e)) where
      among : (xs : List (Place × Node Kept)) → ((j : ℕ) (n : Node Kept) → slice_get (map (λ (x : Place × Node Kept). x.1) xs) j ≡ Some n → (i : ℕ) × (slice_get (every_node s.root) i ≡ Some n))
          → AllByRecursion (λ (x : Place × Node Kept). IsOfLawful x.1) xs
      among [] at = tt
      among (x ∷ xs) at = let here = at zero x.1 refl in ((s, h, here.0, here.1), among xs (λ j n e. at (suc j) n e))

-- Nodes side by side as a forest and as a list: what is found of each, what holds of each, and what a change of one child leaves.
use Rattle.std.proofs.Common.{◌≡◌, ℕ, ◌∙◌, List, [], ◌∷◌, map, set, refl, sym, ap, subst, Some}
use Rattle.std.specs.Prelude.{slice_get, option_map}
use Rattle.std.specs.List.{All}
use Rattle.std.proofs.lemmas.Option.{slice_get-map}
use Rattle.std.proofs.lemmas.List.{map-set}
use Rattle.std.proofs.lemmas.List.Elements.{All-nil, All-cons, All-head, All-tail}
use Rattle.q_model.specs.Tally.{Note}
use Rattle.q_model.specs.Node.{Own, Forest, none, more, Node, nodes_in, side_by_side, each, each_memory, from_below, with_memory}
use Rattle.q_model.specs.Beneath.{beneath_own}
use Rattle.q_model.specs.Lawful.{IsLawfulOwn}
use Rattle.q_model.specs.Work.{Worked}
use Rattle.q_model.proofs.ShrinkLemmas.{each-each_memory}
use Rattle.q_invariants.specs.Kept.{AllCounted, AllLawful, AreLawful, IsCountedRoot, IsLawfulRoot}
use Rattle.q_invariants.proofs.sums.Told.{AllTold, IsRootTold}

module _ {M : Type 0} where
  pub nodes-side : (ns : List (Node M)) → nodes_in (side_by_side ns) ≡ ns
  nodes-side [] = refl
  nodes-side (n ∷ ns) = ap (λ xs. n ∷ xs) (nodes-side ns)

  pub side-nodes : (x : Forest M) → side_by_side (nodes_in x) ≡ x
  side-nodes none = refl
  side-nodes (more own m below others) = ap (more own m below) (side-nodes others)

  -- what is found of each
  pub each-side : {A : Type 0} (f : Own → List A → A) (ns : List (Node M)) → each f (side_by_side ns) ≡ map (from_below f) ns
  each-side f [] = refl
  each-side f (n ∷ ns) = ap (λ o. f n.own (each f n.below) ∷ o) (each-side f ns)

  pub each-nodes : {A : Type 0} (f : Own → List A → A) (x : Forest M) → each f x ≡ map (from_below f) (nodes_in x)
  each-nodes f x = ap (each f) (sym (side-nodes x)) ∙ each-side f (nodes_in x)

  -- one child changed
  pub each-set : {A : Type 0} (f : Own → List A → A) (x : Forest M) (i : ℕ) (c : Node M) → each f (side_by_side (set (nodes_in x) i c)) ≡ set (each f x) i (from_below f c)
  each-set f x i c = each-side f (set (nodes_in x) i c) ∙ map-set (from_below f) (nodes_in x) i c ∙ ap (λ xs. set xs i (from_below f c)) (sym (each-nodes f x))

  pub each-at : {A : Type 0} (f : Own → List A → A) (x : Forest M) (i : ℕ) (c : Node M) → slice_get (nodes_in x) i ≡ Some c → slice_get (each f x) i ≡ Some (from_below f c)
  each-at f x i c e = ap (λ xs. slice_get xs i) (each-nodes f x) ∙ slice_get-map (from_below f) (nodes_in x) i ∙ ap (option_map (from_below f)) e

  pub are-lawful : (mtu clock : ℕ) (ns : List (Node M)) → All (IsLawfulRoot mtu clock) ns → AreLawful mtu clock ns
  are-lawful mtu clock [] h = tt
  are-lawful mtu clock (n ∷ ns) h =
      (All-head (IsLawfulRoot mtu clock) n ns h, are-lawful mtu clock ns (All-tail (IsLawfulRoot mtu clock) n ns h))

  pub lawful-side : (mtu clock : ℕ) (ns : List (Node M)) → AreLawful mtu clock ns → AllLawful mtu clock (side_by_side ns)
  lawful-side mtu clock [] h = tt
  lawful-side mtu clock (n ∷ ns) h = (h.0.0, h.0.1, lawful-side mtu clock ns h.1)

  pub lawful-nodes : (mtu clock : ℕ) (x : Forest M) → AllLawful mtu clock x → All (IsLawfulRoot mtu clock) (nodes_in x)
  lawful-nodes mtu clock none h = All-nil (IsLawfulRoot mtu clock)
  lawful-nodes mtu clock (more own m below others) h =
      All-cons (IsLawfulRoot mtu clock) (record { own = own; memory = m; below = below }) (nodes_in others) (h.0, h.1) (lawful-nodes mtu clock others h.2)

pub counted-side : (ns : List (Node (List Note))) → All IsCountedRoot ns → AllCounted (side_by_side ns)
counted-side [] h = tt
counted-side (n ∷ ns) h =
    let first = All-head IsCountedRoot n ns h in
    (first.0, first.1, counted-side ns (All-tail IsCountedRoot n ns h))

pub counted-nodes : (x : Forest (List Note)) → AllCounted x → All IsCountedRoot (nodes_in x)
counted-nodes none h = All-nil IsCountedRoot
counted-nodes (more own m below others) h =
    All-cons IsCountedRoot (record { own = own; memory = m; below = below }) (nodes_in others) (h.0, h.1) (counted-nodes others h.2)

abbrev pub AreTold : {A : Type 0} → List (Node A) → List Worked → Type 0
AreTold [] [] = Unit {0}
AreTold [] (w ∷ ws) = ⊥
AreTold (n ∷ ns) [] = ⊥
AreTold (n ∷ ns) (w ∷ ws) = IsRootTold n w × AreTold ns ws

pub told-side : {A : Type 0} (ns : List (Node A)) (ws : List Worked) → AreTold ns ws → AllTold (side_by_side ns) (side_by_side ws)
told-side [] [] h = tt
told-side [] (w ∷ ws) h = absurd h
told-side (n ∷ ns) [] h = absurd h
told-side (n ∷ ns) (w ∷ ws) h = (h.0.0, h.0.1, h.0.2, told-side ns ws h.1)

-- what a node remembers is not looked at
pub lawful-memory : {A B : Type 0} (mtu clock : ℕ) (f : A → B) (x : Forest A) → AllLawful mtu clock x → AllLawful mtu clock (each_memory f x)
lawful-memory mtu clock f none h = tt
lawful-memory mtu clock f (more own m below others) h =
    (subst (IsLawfulOwn mtu clock own) (sym (each-each_memory beneath_own f below)) h.0, lawful-memory mtu clock f below h.1, lawful-memory mtu clock f others h.2)

pub lawful-with_memory : {A B : Type 0} (mtu clock : ℕ) (f : A → B) (n : Node A) → IsLawfulRoot mtu clock n → IsLawfulRoot mtu clock (with_memory f n)
lawful-with_memory mtu clock f n h = (subst (IsLawfulOwn mtu clock n.own) (sym (each-each_memory beneath_own f n.below)) h.0, lawful-memory mtu clock f n.below h.1)

-- What is noted of a tree whose nodes are a list: children of which nothing has happened stay, and one that has worked is booked.
use Rattle.std.proofs.Common.{◌≡◌, ℕ, zero, suc, ◌∙◌, List, [], ◌∷◌, map, set, refl, ap, ap₂, Some, option_map}
use Rattle.std.specs.Prelude.{slice_get}
use Rattle.std.proofs.lemmas.Option.{slice_get-map, same_Some}
use Rattle.q_model.specs.Tally.{Tally, Note, noted, totals}
use Rattle.q_model.specs.Node.{Forest, none, more, Node, nodes_in, side_by_side, children, each_memory, shape}
use Rattle.q_model.specs.Work.{Worked, quiet, each_booked, booked}
use Rattle.q_tree.specs.Kept.{Kept, kept}

pub nodes-memory : {M N : Type 0} (f : M → N) (x : Forest M)
    → nodes_in (each_memory f x) ≡ map (λ (n : Node M). record { own = n.own; memory = f n.memory; below = each_memory f n.below }) (nodes_in x)
nodes-memory f none = refl
nodes-memory f (more own m below others) = ap (λ xs. record { own = own; memory = f m; below = each_memory f below } ∷ xs) (nodes-memory f others)

pub children-shape : {M : Type 0} (n : Node M) → children (shape n) ≡ map shape (children n)
children-shape n = nodes-memory (λ m. tt) n.below

pub child-shape : {M : Type 0} (n : Node M) (i : ℕ) (c : Node M) → slice_get (children n) i ≡ Some c → slice_get (children (shape n)) i ≡ Some (shape c)
child-shape n i c e = ap (λ xs. slice_get xs i) (children-shape n) ∙ slice_get-map shape (children n) i ∙ ap (option_map shape) e

pub booked-quiet : {M : Type 0} (t : Tally M) (x : Forest M) → each_booked t x (each_memory {N = List Note} (λ u. []) (each_memory {N = Unit {0}} (λ m. tt) x)) ≡ x
booked-quiet t none = refl
booked-quiet t (more own m below others) = ap₂ (λ b o. more own m b o) (booked-quiet t below) (booked-quiet t others)

pub side-quiet : {M : Type 0} (t : Tally M) (ns : List (Node M)) → each_booked t (side_by_side ns) (side_by_side (map quiet (map shape ns))) ≡ side_by_side ns
side-quiet t [] = refl
side-quiet t (n ∷ ns) = ap₂ (λ b o. more n.own n.memory b o) (booked-quiet t n.below) (side-quiet t ns)

-- one of them has worked
pub side-booked : {M : Type 0} (t : Tally M) (ns : List (Node M)) (i : ℕ) (c : Node M) (w : Worked) → slice_get ns i ≡ Some c
    → each_booked t (side_by_side ns) (side_by_side (set (map quiet (map shape ns)) i w)) ≡ side_by_side (set ns i (booked t c w))
side-booked t [] i c w e = cc
side-booked t (n ∷ ns) zero c w e =
    ap (λ o. more w.own (noted t n.memory w.memory) (each_booked t n.below w.below) o) (side-quiet t ns)
    ∙ ap (λ (x : Node _). side_by_side (booked t x w ∷ ns)) (same_Some n c e)
side-booked t (n ∷ ns) (suc i) c w e = ap₂ (λ b o. more n.own n.memory b o) (booked-quiet t n.below) (side-booked t ns i c w e)

-- what a node of the code remembers, apart
pub noted-kept : (k : Kept) (notes : List Note) → noted kept k notes ≡ record { counts = noted totals k.counts notes; places = k.places }
noted-kept k [] = refl
noted-kept k (n ∷ notes) = noted-kept (kept.more k n) notes

-- How many qdiscs, classes and filters a lawful tree has: 256 of each at a node at most, so that they can be counted.
use Rattle.std.proofs.Common.{◌≡◌, ℕ, suc, ◌≤◌, List, [], ◌∷◌, ◌++◌, All, length, sum, Option, Some, None, refl, ap, arith, length-append}
use Rattle.std.specs.Prelude.{option_map}
use Rattle.std.specs.List.{cons_option, filter_map}
use Rattle.std.proofs.lemmas.List.{length-map}
use Rattle.std.proofs.lemmas.List.Elements.{All-append, All-cons, All-nil}
use Rattle.std.proofs.lemmas.Slice.Zip.{AllZip-long}
use Rattle.std.proofs.lemmas.List.FromFn.{length-range_with_len}
use Rattle.q_drr.specs.Schedule.{Class}
use Rattle.q_model.specs.Beneath.{beneath_own}
use Rattle.q_model.specs.Conserved.{nodes_of, every_node}
use Rattle.q_model.specs.Find.{count_nodes}
use Rattle.q_model.specs.Lawful.{IsLawfulDiscipline, IsLawfulNode}
use Rattle.q_model.specs.Node.{Discipline, Fifo, Prio, Tbf, Drr, FqCodel, Own, Forest, none, more, Node, nodes_in, children, each, from_below}
use Rattle.q_model.specs.Tally.{Tally}
use Rattle.q_model.specs.declared.class_id.ClassId.{ClassId}
use Rattle.q_model.specs.declared.class_view.ClassView.{ClassView}
use Rattle.q_model.specs.declared.filter.Filter.{Filter}
use Rattle.q_model.specs.declared.filter_view.FilterView.{FilterView}
use Rattle.q_model.specs.Views.{class_ids, class_kind, class_views, filter_views, minors}
use Rattle.q_invariants.proofs.sizes.EditSizes.{sum-cons}
use Rattle.q_invariants.proofs.tree.Forests.{each-nodes}

-- every node of a tree is counted
counted : {M : Type 0} (x : Forest M) → length (nodes_of x) ≡ sum (each (λ own below. suc (sum below)) x)
counted none = refl
counted (more own m below others) =
    let b = counted below in
    let o = counted others in
    omega (arith, length-append (nodes_of below) (nodes_of others), b, o, sum-cons (suc (sum (each (λ own below. suc (sum below)) below))) (each (λ own below. suc (sum below)) others))

pub count-is : {M : Type 0} (n : Node M) → length (every_node n) ≡ count_nodes n
count-is n = ap suc (counted n.below)

-- a node has no more children than there are nodes
side-count : {M : Type 0} (x : Forest M) → length (nodes_in x) ≤ length (nodes_of x)
side-count none = omega arith
side-count (more own m below others) =
    let o = side-count others in
    omega (arith, length-append (nodes_of below) (nodes_of others), o)

abbrev pub HasFewChildren : {M : Type 0} → ℕ → Node M → Type 0
HasFewChildren most n = length (children n) ≤ most

few-below : {M : Type 0} (most : ℕ) (x : Forest M) → length (nodes_of x) ≤ most → All (HasFewChildren most) (nodes_of x)
few-below most none few = All-nil (HasFewChildren most)
few-below most (more own m below others) few =
    let joined = length-append (nodes_of below) (nodes_of others) in
    let here = side-count below in
    All-cons (HasFewChildren most) (record { own = own; memory = m; below = below }) (nodes_of below ++ nodes_of others) (omega (arith, few, joined, here))
    (All-append (HasFewChildren most) (nodes_of below) (nodes_of others) (few-below most below (omega (arith, few, joined))) (few-below most others (omega (arith, few, joined))))

pub few-children : {M : Type 0} (most : ℕ) (n : Node M) → count_nodes n ≤ most → All (HasFewChildren most) (every_node n)
few-children most n few =
    let all = count-is n in
    let here = side-count n.below in
    All-cons (HasFewChildren most) n (nodes_of n.below) (omega (arith, few, all, here)) (few-below most n.below (omega (arith, few, all)))

-- classes
filtered : {A B : Type 0} (f : A → Option B) (xs : List A) → length (filter_map f xs) ≤ length xs
filtered f [] = omega arith
filtered f (x ∷ xs) = one (f x) (filter_map f xs) (length xs) (filtered f xs) where
  one : {B : Type 0} (o : Option B) (ys : List B) (n : ℕ) → length ys ≤ n → length (cons_option o ys) ≤ suc n
  one (Some y) ys n h = omega (arith, h)
  one None ys n h = omega (arith, h)

few-minors : {M : Type 0} (mtu clock : ℕ) (own : Own) (below : Forest M) → IsLawfulDiscipline mtu clock (each beneath_own below) own.discipline → length (nodes_in below) ≤ 256
    → length (minors (length (nodes_in below)) own.discipline) ≤ 256
few-minors mtu clock own below lawful few = by own.discipline lawful where
  by : (d : Discipline) → IsLawfulDiscipline mtu clock (each beneath_own below) d → length (minors (length (nodes_in below)) d) ≤ 256
  by (Fifo limit queue) h = omega arith
  by (Prio priomap) h = omega (arith, few, length-range_with_len 1 (length (nodes_in below)))
  by (Tbf bucket limit) h = omega arith
  by (Drr s) h =
      omega (
        arith,
        few,
        length-map s.classes (λ (c : Class). c.name),
        AllZip-long _ s.classes (each beneath_own below) h.exact,
        ap length
            (each-nodes beneath_own below),
        length-map (nodes_in below) (from_below beneath_own),
      )
  by (FqCodel s) h = omega arith

-- what stands at one node is counted up to 256
pub few-classes : {M : Type 0} (t : Tally M) (mtu clock : ℕ) (n : Node M) → IsLawfulNode t mtu clock n → HasFewChildren 256 n → length (class_views n) ≤ 256
few-classes t mtu clock n lawful few =
    omega (
      arith,
      few-minors mtu clock n.own n.below lawful.own.discipline few,
      length-map {B = ClassView} (class_ids n) (λ (c : ClassId). record { class = c; kind = class_kind n.own.discipline c.minor }),
      filtered {B = ClassId} (λ minor. option_map (λ major. record { major = major; minor = minor }) n.own.handle) (minors (length (children n)) n.own.discipline),
    )

pub few-filters : {M : Type 0} (t : Tally M) (mtu clock : ℕ) (n : Node M) → IsLawfulNode t mtu clock n → length (filter_views n) ≤ 256
few-filters t mtu clock n lawful =
    omega (arith, lawful.own.filters, filtered {B = FilterView} (λ (f : Filter). option_map (λ parent. record { parent = parent; filter = f }) n.own.handle) n.own.filters)

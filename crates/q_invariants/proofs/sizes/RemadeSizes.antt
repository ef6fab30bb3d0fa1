-- How deep a node with other children is, and how many nodes it has: all of them kept, bands more or fewer, a class more or less.
use Rattle.std.proofs.Common.{◌≡◌, ℕ, zero, suc, ◌+◌, ◌-◌, ◌≤◌, min, max, Bool, true, false, List, [], ◌∷◌, ◌++◌, length, map, take, drop, replicate, refl, sym, ap, ap₂, subst, ◌∙◌, inl, inr, arith}
use Rattle.std.specs.Prelude.{is_some, if◌then◌else◌}
use Rattle.std.specs.List.{remove, sum}
use Rattle.std.proofs.lemmas.Bool.{cases_lt}
use Rattle.std.proofs.lemmas.List.FromFn.{length-map-range_with_len}
use Rattle.std.proofs.lemmas.List.{map-append, take_all, drop_all, append-nil, take_min, take-append-drop}
use Rattle.q_model.specs.Node.{Own, Shape, children, blank}
use Rattle.q_model.specs.Make.{Device, implicit_pfifo}
use Rattle.q_model.specs.Find.{greatest, depth, count_nodes}
use Rattle.q_model.specs.Edit.{Child, Kept, Retuned, New, remade}
use Rattle.q_model.specs.QdiscCommands.{all_kept, relimited, leaf_of_tbf}
use Rattle.q_model.specs.TreeState.{nothing}
use Rattle.q_invariants.specs.Sizes.{counts}
use Rattle.q_invariants.proofs.edit.EditChildren.{kept_from, kids, kids-append, kids_kept, kids_new, kids_all, kids_removed}
use Rattle.q_invariants.proofs.edit.EditFront.{front_and_new}
use Rattle.q_invariants.proofs.sizes.EditSizes.{levels_own, nodes_own, depths, sum-cons, depth-node, count-node}
use Rattle.q_invariants.proofs.tree.Forests.{each-side}

-- ---- numbers of several nodes

greatest-append : (xs ys : List ℕ) → greatest (xs ++ ys) ≡ max (greatest xs) (greatest ys)
greatest-append [] ys = omega arith
greatest-append (x ∷ xs) ys = omega (arith, greatest-append xs ys)

sum-append : (xs ys : List ℕ) → sum (xs ++ ys) ≡ sum xs + sum ys
sum-append [] ys = omega arith
sum-append (x ∷ xs) ys = omega (arith, sum-cons x (xs ++ ys), sum-cons x xs, sum-append xs ys)

depths-append : (xs ys : List Shape) → greatest (depths (xs ++ ys)) ≡ max (greatest (depths xs)) (greatest (depths ys))
depths-append xs ys = ap greatest (map-append (λ (n : Shape). depth n) xs ys) ∙ greatest-append (depths xs) (depths ys)

counts-append : (xs ys : List Shape) → sum (counts (xs ++ ys)) ≡ sum (counts xs) + sum (counts ys)
counts-append xs ys = ap sum (map-append (λ (n : Shape). count_nodes n) xs ys) ∙ sum-append (counts xs) (counts ys)

-- so many implicit leaves
pub leaves-depth : (d : Device) (k : ℕ) → greatest (depths (replicate k (blank nothing (implicit_pfifo d)))) ≤ 1
leaves-depth d zero = omega arith
leaves-depth d (suc k) = omega (arith, leaves-depth d k)

pub leaves-count : (d : Device) (k : ℕ) → sum (counts (replicate k (blank nothing (implicit_pfifo d)))) ≡ k
leaves-count d zero = refl
leaves-count d (suc k) = omega (arith, sum-cons 1 (counts (replicate k (blank nothing (implicit_pfifo d)))), leaves-count d k)

-- the first ones, and the others
take-depths : (cs : List Shape) (k : ℕ) → greatest (depths (take k cs)) ≤ greatest (depths cs)
take-depths cs k = omega (arith, depths-append (take k cs) (drop k cs), ap (λ (xs : List Shape). greatest (depths xs)) (take-append-drop k cs))

drop-depths : (cs : List Shape) (k : ℕ) → greatest (depths (drop k cs)) ≤ greatest (depths cs)
drop-depths cs k = omega (arith, depths-append (take k cs) (drop k cs), ap (λ (xs : List Shape). greatest (depths xs)) (take-append-drop k cs))

pub take-counts : (cs : List Shape) (k : ℕ) → sum (counts (take k cs)) + sum (counts (drop k cs)) ≡ sum (counts cs)
take-counts cs k = omega (arith, counts-append (take k cs) (drop k cs), ap (λ (xs : List Shape). sum (counts xs)) (take-append-drop k cs))

pub some-depth : (cs : List Shape) → 1 ≤ length cs → 1 ≤ greatest (depths cs)
some-depth [] h = absurd (omega arith)
some-depth (c ∷ cs) h = omega arith

-- all but one
remove-depths : (cs : List Shape) (i : ℕ) → greatest (depths (remove cs i)) ≤ greatest (depths cs)
remove-depths cs i = omega (arith, depths-append (take i cs) (drop (suc i) cs), take-depths cs i, drop-depths cs (suc i))

fewer-counts : (cs : List Shape) (i : ℕ) → sum (counts (remove cs i)) ≤ sum (counts cs)
fewer-counts [] zero = omega arith
fewer-counts [] (suc i) = omega arith
fewer-counts (x ∷ cs) zero = omega (arith, sum-cons (count_nodes x) (counts cs))
fewer-counts (x ∷ cs) (suc i) = omega (arith, sum-cons (count_nodes x) (counts cs), sum-cons (count_nodes x) (counts (remove cs i)), fewer-counts cs i)

-- ---- a node with other children

-- it is no deeper than it was, and has no more nodes
pub record IsNoLarger (old new : Shape) : Type 0 where
  pub depth_is : depth new ≤ depth old
  pub count_is : count_nodes new ≤ count_nodes old

module _ (own : Own) (old : Shape) where
  abbrev pub with_children : List Child → Shape
  with_children below = remade nothing own below [] old

  pub depth-children : (below : List Child) (ns : List Shape) → kids nothing (children old) below ≡ ns
      → depth (with_children below) ≡ suc (greatest (depths ns))
  depth-children below ns e = ap (λ ks. suc (greatest ks)) (each-side levels_own (kids nothing (children old) below)) ∙ ap (λ (xs : List Shape). suc (greatest (depths xs))) e

  pub count-children : (below : List Child) (ns : List Shape) → kids nothing (children old) below ≡ ns
      → count_nodes (with_children below) ≡ suc (sum (counts ns))
  count-children below ns e = ap (λ ks. suc (sum ks)) (each-side nodes_own (kids nothing (children old) below)) ∙ ap (λ (xs : List Shape). suc (sum (counts xs))) e

  same-size : (below : List Child) (ns : List Shape) → kids nothing (children old) below ≡ ns
      → greatest (depths ns) ≤ greatest (depths (children old))
      → sum (counts ns) ≤ sum (counts (children old)) → IsNoLarger old (with_children below)
  same-size below ns e deep many = record {
    depth_is = omega (arith, depth-children below ns e, depth-node old);
    count_is = omega (arith, count-children below ns e, count-node old);
  }

  -- all are kept
  pub kept-sizes : IsNoLarger old (with_children (all_kept old))
  kept-sizes = same-size (all_kept old) (children old) (kids_all nothing (children old) (length (children old)) refl) (omega arith) (omega arith)

  -- a prio with a band already, and so many bands now
  bands-are : (d : Device) (bands : ℕ)
      → kids nothing (children old) (front_and_new (min (length (children old)) bands) (bands - length (children old)) (implicit_pfifo d))
      ≡ take bands (children old) ++ replicate (bands - length (children old)) (blank nothing (implicit_pfifo d))
  bands-are d bands =
      let cs : List Shape = children old in
      let m : ℕ = min (length cs) bands in
      kids-append nothing cs (kept_from 0 m) (replicate (bands - length cs) (New (implicit_pfifo d)))
      ∙ ap₂ (λ (a : List Shape) (b : List Shape). a ++ b) (kids_kept nothing cs 0 m ∙ ap (λ k. take k cs) {x = m} {y = min bands (length cs)} (omega arith) ∙ take_min bands cs)
      (kids_new nothing cs (implicit_pfifo d) (bands - length cs))

  pub bands-depth : (d : Device) (bands : ℕ) → 1 ≤ length (children old)
      → depth (with_children (front_and_new (min (length (children old)) bands) (bands - length (children old)) (implicit_pfifo d))) ≤ depth old
  bands-depth d bands some =
      let cs : List Shape = children old in
      let leaves : List Shape = replicate (bands - length cs) (blank nothing (implicit_pfifo d)) in
      let is = depth-children (front_and_new (min (length cs) bands) (bands - length cs) (implicit_pfifo d)) (take bands cs ++ leaves) (bands-are d bands) in
      omega (arith, is, depths-append (take bands cs) leaves, take-depths cs bands, leaves-depth d (bands - length cs), some-depth cs some, depth-node old)

  pub bands-count : (d : Device) (bands : ℕ)
      → count_nodes (with_children (front_and_new (min (length (children old)) bands) (bands - length (children old)) (implicit_pfifo d))) + sum (counts (drop bands (children old)))
      ≡ count_nodes old + (bands - length (children old))
  bands-count d bands =
      let cs : List Shape = children old in
      let leaves : List Shape = replicate (bands - length cs) (blank nothing (implicit_pfifo d)) in
      let is = count-children (front_and_new (min (length cs) bands) (bands - length cs) (implicit_pfifo d)) (take bands cs ++ leaves) (bands-are d bands) in
      omega (arith, is, counts-append (take bands cs) leaves, take-counts cs bands, leaves-count d (bands - length cs), count-node old)

  -- a class more
  added-are : (d : Device)
      → kids nothing (children old) (all_kept old ++ New (implicit_pfifo d) ∷ []) ≡ children old ++ blank nothing (implicit_pfifo d) ∷ []
  added-are d =
      kids-append nothing (children old) (all_kept old) (New (implicit_pfifo d) ∷ [])
      ∙ ap (λ (a : List Shape). a ++ blank nothing (implicit_pfifo d) ∷ []) (kids_all nothing (children old) (length (children old)) refl)

  pub added-depth : (d : Device)
      → depth (with_children (all_kept old ++ New (implicit_pfifo d) ∷ [])) ≡ max 2 (depth old)
  added-depth d =
      let leaf : List Shape = blank nothing (implicit_pfifo d) ∷ [] in
      let is = depth-children (all_kept old ++ New (implicit_pfifo d) ∷ []) (children old ++ leaf) (added-are d) in
      omega (arith, is, depths-append (children old) leaf, depth-node old)

  pub added-count : (d : Device)
      → count_nodes (with_children (all_kept old ++ New (implicit_pfifo d) ∷ [])) ≡ suc (count_nodes old)
  added-count d =
      let leaf : List Shape = blank nothing (implicit_pfifo d) ∷ [] in
      let is = count-children (all_kept old ++ New (implicit_pfifo d) ∷ []) (children old ++ leaf) (added-are d) in
      omega (arith, is, counts-append (children old) leaf, leaves-count d 1, count-node old)

  pub removed-sizes : (i : ℕ) → IsNoLarger old (with_children (remove (all_kept old) i))
  removed-sizes i =
      let cs : List Shape = children old in
      elim (cases_lt i (length cs)) [
        | inl lt ↦ same-size (remove (all_kept old) i) (remove cs i) (kids_removed nothing cs (length cs) i refl lt) (remove-depths cs i) (fewer-counts cs i)
        | inr past ↦ subst (λ (below : List Child). IsNoLarger old (with_children below)) (sym (none-removed i past)) kept-sizes
      ]
    where
      none-removed : (i : ℕ) → length (children old) ≤ i → remove (all_kept old) i ≡ all_kept old
      none-removed i past =
          let below : List Child = all_kept old in
          let size : length below ≡ length (children old) = length-map-range_with_len Kept 0 (length (children old)) in
          ap₂ (λ (a : List Child) (b : List Child). a ++ b) (take_all i below (omega arith)) (drop_all (suc i) below (omega arith)) ∙ append-nil below

-- a tbf, whose one child may get another limit
module _ (bytes : ℕ) where
  abbrev IsAlike : List Shape → List Shape → Type 0
  IsAlike cs ns = (greatest (depths ns) ≤ greatest (depths cs)) × (sum (counts ns) ≤ sum (counts cs))

  leaf-alike : (cs : List Shape) → length cs ≤ 1 → IsAlike cs (kids nothing cs (map (leaf_of_tbf bytes) cs))
  leaf-alike [] one = omega arith
  leaf-alike (c ∷ []) one =
      let own : Own = record c.own { discipline = relimited bytes c.own.discipline } in
      elim (is_some c.own.handle) as (λ (t : Bool). IsAlike (c ∷ []) (kids nothing (c ∷ []) ((if t then Kept 0 else Retuned 0 own) ∷ []))) [
        | true ↦ omega arith
        | false ↦ omega arith
      ]
  leaf-alike (c ∷ d ∷ cs) one = absurd (omega arith)

  pub bucket-sizes : (own : Own) (old : Shape) → length (children old) ≤ 1
      → IsNoLarger old (with_children own old (map (leaf_of_tbf bytes) (children old)))
  bucket-sizes own old one =
      let below : List Child = map (leaf_of_tbf bytes) (children old) in
      let h = leaf-alike (children old) one in
      same-size own old below (kids nothing (children old) below) refl h.0 h.1

-- How deep a tree is after an edit, and how many nodes it has, found from the node that is put in and the way to it.
use Rattle.std.proofs.Common.{◌≡◌, ℕ, zero, suc, ◌+◌, ◌-◌, ◌≤◌, List, [], ◌∷◌, length, map, set, refl, sym, ap, subst, Option, Some, None, arith}
use Rattle.std.specs.Prelude.{slice_get, option_and_then}
use Rattle.std.specs.List.{sum}
use Rattle.std.specs.Option.{option_map_or}
use Rattle.std.proofs.lemmas.List.Sums.{sum_by-cons}
use Rattle.std.proofs.lemmas.Option.{none-some, same_Some}
use Rattle.q_model.proofs.ShrinkLemmas.{each-each_memory}
use Rattle.q_model.specs.Node.{Own, Shape, children, each, blank}
use Rattle.q_model.specs.Find.{greatest, depth, count_nodes, node_at}
use Rattle.q_model.specs.Edit.{above, edited_at}
use Rattle.q_model.specs.TreeState.{nothing}
use Rattle.q_invariants.specs.Sizes.{counts}
use Rattle.q_invariants.proofs.tree.Forests.{each-nodes, each-set, each-at}

-- ---- one of several numbers changed

pub le-greatest : (ks : List ℕ) (i k : ℕ) → slice_get ks i ≡ Some k → k ≤ greatest ks
le-greatest [] i k e = absurd (none-some k e)
le-greatest (x ∷ ks) zero k e = omega (arith, same_Some x k e)
le-greatest (x ∷ ks) (suc i) k e = omega (arith, le-greatest ks i k e)

greatest-set-le : (ks : List ℕ) (i new most : ℕ) → greatest ks ≤ most → new ≤ most → greatest (set ks i new) ≤ most
greatest-set-le [] i new most le at = omega arith
greatest-set-le (k ∷ ks) zero new most le at = omega arith
greatest-set-le (k ∷ ks) (suc i) new most le at = omega (arith, greatest-set-le ks i new most (omega arith) at)

le-greatest-set : (ks : List ℕ) (i old new : ℕ) → slice_get ks i ≡ Some old → new ≤ greatest (set ks i new)
le-greatest-set [] i old new e = absurd (none-some old e)
le-greatest-set (k ∷ ks) zero old new e = omega arith
le-greatest-set (k ∷ ks) (suc i) old new e = omega (arith, le-greatest-set ks i old new e)

pub sum-cons : (k : ℕ) (ks : List ℕ) → sum (k ∷ ks) ≡ k + sum ks
sum-cons k ks = sum_by-cons (λ n. n) k ks

pub le-sum : (ks : List ℕ) (i k : ℕ) → slice_get ks i ≡ Some k → k ≤ sum ks
le-sum [] i k e = absurd (none-some k e)
le-sum (x ∷ ks) zero k e = omega (arith, sum-cons x ks, same_Some x k e)
le-sum (x ∷ ks) (suc i) k e = omega (arith, sum-cons x ks, le-sum ks i k e)

sum-set : (ks : List ℕ) (i old new : ℕ) → slice_get ks i ≡ Some old → sum (set ks i new) + old ≡ sum ks + new
sum-set [] i old new e = absurd (none-some old e)
sum-set (k ∷ ks) zero old new e = omega (arith, sum-cons k ks, sum-cons new ks, same_Some k old e)
sum-set (k ∷ ks) (suc i) old new e = omega (arith, sum-cons k ks, sum-cons k (set ks i new), sum-set ks i old new e)

-- ---- a node and its children

abbrev pub levels_own : Own → List ℕ → ℕ
levels_own own below = suc (greatest below)

abbrev pub nodes_own : Own → List ℕ → ℕ
nodes_own own below = suc (sum below)

abbrev pub depths : List Shape → List ℕ
depths ns = map depth ns

pub depth-node : (n : Shape) → depth n ≡ suc (greatest (depths (children n)))
depth-node n = ap (λ ks. suc (greatest ks)) (each-nodes levels_own n.below)

pub count-node : (n : Shape) → count_nodes n ≡ suc (sum (counts (children n)))
count-node n = ap (λ ks. suc (sum ks)) (each-nodes nodes_own n.below)

-- a new node is as deep as what it is made of
pub depth-blank : (s : Shape) → depth (blank nothing s) ≡ depth s
depth-blank s = ap (λ ks. suc (greatest ks)) (each-each_memory levels_own (λ u. tt) s.below)

pub count-blank : (s : Shape) → count_nodes (blank nothing s) ≡ count_nodes s
count-blank s = ap (λ ks. suc (sum ks)) (each-each_memory nodes_own (λ u. tt) s.below)

-- ---- the way down

pub record Down (i : ℕ) (path : List ℕ) (n old : Shape) : Type 0 where
  pub child : Shape
  pub at : slice_get (children n) i ≡ Some child
  pub rest : node_at path child ≡ Some old

pub down : (i : ℕ) (path : List ℕ) (n old : Shape) → node_at (i ∷ path) n ≡ Some old → Down i path n old
down i path n old e = go (slice_get (children n) i) refl e
  where
    go : (o : Option Shape) → slice_get (children n) i ≡ o → option_and_then (node_at path) o ≡ Some old
        → Down i path n old
    go None at e = absurd (none-some old e)
    go (Some child) at e = record { child = child; at = at; rest = e }

-- the tree `after`, in which `new` stands at the end of the way in place of `old`
pub record IsSized (path : List ℕ) (root old new after : Shape) : Type 0 where
  pub most : (levels : ℕ) → depth root ≤ levels → length path + depth new ≤ levels → depth after ≤ levels
  pub least : length path + depth new ≤ depth after
  pub count : count_nodes after + count_nodes old ≡ count_nodes root + count_nodes new

module _ (f : Shape → Shape) where
  sized-above : (i : ℕ) (path : List ℕ) (n child old after : Shape) → slice_get (children n) i ≡ Some child
      → IsSized path child old (f old) after
      → IsSized (i ∷ path) n old (f old) (above nothing [] i after n)
  sized-above i path n child old after at h =
      let ds : List ℕ = each levels_own n.below in
      let cs : List ℕ = each nodes_own n.below in
      let depth_at : slice_get ds i ≡ Some (depth child) = each-at levels_own n.below i child at in
      let count_at : slice_get cs i ≡ Some (count_nodes child) = each-at nodes_own n.below i child at in
      let ds_is : depth (above nothing [] i after n) ≡ suc (greatest (set ds i (depth after))) = ap (λ ks. suc (greatest ks)) (each-set levels_own n.below i after) in
      let cs_is : count_nodes (above nothing [] i after n) ≡ suc (sum (set cs i (count_nodes after))) = ap (λ ks. suc (sum ks)) (each-set nodes_own n.below i after) in
      record {
        most = λ levels le at_le.
            let child_le : depth child ≤ levels - 1 = omega (arith, le-greatest ds i (depth child) depth_at) in
            let after_le : depth after ≤ levels - 1 = h.most (levels - 1) child_le (omega arith) in
            omega (arith, ds_is, greatest-set-le ds i (depth after) (levels - 1) (omega arith) after_le);
        least = omega (arith, ds_is, h.least, le-greatest-set ds i (depth child) (depth after) depth_at);
        count = omega (arith, cs_is, h.count, sum-set cs i (count_nodes child) (count_nodes after) count_at);
      }

  pub sized-edit : (path : List ℕ) (root old : Shape) → node_at path root ≡ Some old
      → IsSized path root old (f old) (edited_at nothing [] f path root)
  sized-edit [] root old e =
      subst (λ (o : Shape). IsSized [] root o (f o) (f root)) (same_Some root old e) (record {
        most = λ levels le at. omega arith;
        least = omega arith;
        count = omega arith;
      })
  sized-edit (i ∷ path) root old e =
      let d : Down i path root old = down i path root old e in
      let below : Shape = edited_at nothing [] f path d.child in
      let h : IsSized path d.child old (f old) below = sized-edit path d.child old d.rest in
      let go : Shape → Shape = λ c. above nothing [] i (edited_at nothing [] f path c) root in
      subst (IsSized (i ∷ path) root old (f old)) (sym (ap (λ (o : Option Shape). option_map_or go o root) d.at)) (sized-above i path root d.child old below d.at h)

-- the way to a node is no longer than the tree is deep, and the node has no more nodes than the tree
pub sized-within : (path : List ℕ) (root old : Shape) → node_at path root ≡ Some old
    → (length path + depth old ≤ depth root) × (count_nodes old ≤ count_nodes root)
sized-within [] root old e =
    subst (λ (o : Shape). (length {A = ℕ} [] + depth o ≤ depth root) × (count_nodes o ≤ count_nodes root)) (same_Some root old e) (omega arith)
sized-within (i ∷ path) root old e =
    let d : Down i path root old = down i path root old e in
    let h = sized-within path d.child old d.rest in
    omega (
      arith,
      h.0,
      h.1,
      le-greatest (each levels_own root.below) i (depth d.child) (each-at levels_own root.below i d.child d.at),
      le-sum (each nodes_own root.below) i (count_nodes d.child) (each-at nodes_own root.below i d.child d.at),
    )

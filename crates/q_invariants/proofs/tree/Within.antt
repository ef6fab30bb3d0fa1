-- The nodes within a tree: the one that is found by its handle, which no other has, and what holds of it.
use Rattle.std.proofs.Common.{◌≡◌, ℕ, zero, suc, ◌≤◌, Bool, true, false, ◌⊎◌, inl, inr, List, [], ◌∷◌, ◌++◌, set, refl, sym, ap, subst, ◌∙◌, Option, Some, None, ⊎_elim, eq-eqb, arith}
use Rattle.std.specs.Prelude.{◌==◌, find, slice_get, if◌then◌else◌}
use Rattle.std.specs.Option.{option_map_or}
use Rattle.std.proofs.lemmas.Bool.{cases_Bool, cond-true, cond-false, eqb-true, false≢true}
use Rattle.std.proofs.lemmas.Option.{none-some, same_Some}
use Rattle.q_model.specs.Tally.{Note}
use Rattle.q_model.specs.Node.{Forest, none, more, Node, nodes_in, side_by_side}
use Rattle.q_model.specs.Conserved.{nodes_of, every_node}
use Rattle.q_model.specs.Step.{DeviceState}
use Rattle.q_model.specs.Stretches.{has_major, qdisc}
use Rattle.q_invariants.specs.Kept.{AllLawful, IsLawfulRoot}
use Rattle.q_invariants.proofs.edit.EditHandles.{one, times_below, times}
use Rattle.q_invariants.proofs.tree.Forests.{side-nodes}

-- a node of a forest, at any depth
abbrev pub Within : {M : Type 0} → Node M → Forest M → Type 0
Within n none = ⊥
Within {M} n (more own m below others) = (◌≡◌ {A = Node M} (record { own = own; memory = m; below = below }) n) ⊎ Within n below ⊎ Within n others

-- the root or a node beneath it
abbrev pub IsOf : {M : Type 0} → Node M → Node M → Type 0
IsOf n root = (root ≡ n) ⊎ Within n root.below

-- one of a list
abbrev Among : {X : Type 0} → X → List X → Type 0
Among x [] = ⊥
Among x (y ∷ ys) = (y ≡ x) ⊎ Among x ys

among-append : {X : Type 0} (x : X) (xs ys : List X) → Among x (xs ++ ys) → Among x xs ⊎ Among x ys
among-append x [] ys h = inr h
among-append x (z ∷ xs) ys (inl e) = inl (inl e)
among-append x (z ∷ xs) ys (inr h) =
    ⊎_elim (λ (l : Among x xs). inl (inr l)) (λ (r : Among x ys). inr r) (among-append x xs ys h)

among-found : {X : Type 0} (test : X → Bool) (xs : List X) (x : X) → find test xs ≡ Some x → Among x xs × (test x ≡ true)
among-found test [] x e = absurd (none-some x e)
among-found test (y ∷ xs) x e = elim (cases_Bool (test y)) [
  | inl passes ↦
      let same : y ≡ x = same_Some y x (sym (cond-true (test y) (Some y) (find test xs) passes) ∙ e) in
      (inl same, ap test (sym same) ∙ passes)
  | inr fails ↦
      let rest = among-found test xs x (sym (cond-false (test y) (Some y) (find test xs) fails) ∙ e) in
      (inr rest.0, rest.1)
]

among-within : {M : Type 0} (n : Node M) (x : Forest M) → Among n (nodes_of x) → Within n x
among-within n none h = h
among-within n (more own m below others) (inl e) = inl e
among-within n (more own m below others) (inr h) =
    ⊎_elim (λ (a : Among n (nodes_of below)). inr (inl (among-within n below a))) (λ (b : Among n (nodes_of others)). inr (inr (among-within n others b)))
    (among-append n (nodes_of below) (nodes_of others) h)

-- a node that has this handle
abbrev pub HasHandle : {M : Type 0} → ℕ → Node M → Type 0
HasHandle h n = n.own.handle ≡ Some h

has-handle : (h : ℕ) (n : Node (List Note)) → has_major h n ≡ true → HasHandle h n
has-handle h n e = by n.own.handle refl e
  where
    by : (o : Option ℕ) → n.own.handle ≡ o → option_map_or (λ (k : ℕ). k == h) o false ≡ true → n.own.handle ≡ Some h
    by None is e = absurd (false≢true e)
    by (Some k) is e = is ∙ ap Some (eqb-true k h e)

-- the one that is found
pub record Found (h : ℕ) (d : DeviceState (List Note)) (n : Node (List Note)) : Type 0 where
  pub there : IsOf n d.tree.root
  pub handle : HasHandle h n

pub found : (h : ℕ) (d : DeviceState (List Note)) (n : Node (List Note)) → qdisc h d ≡ Some n → Found h d n
found h d n e =
    let r = among-found (has_major h) (every_node d.tree.root) n e in
    record { there = by r.0; handle = has-handle h n r.1 }
  where
    by : Among n (every_node d.tree.root) → IsOf n d.tree.root
    by (inl same) = inl same
    by (inr below) = inr (among-within n d.tree.root.below below)

-- ---- no other has its handle

module _ {M : Type 0} (h : ℕ) where
  counts-one : (n : Node M) → HasHandle h n → one h n.own.handle ≡ 1
  counts-one n e = ap (one h) e ∙ ap (λ (t : Bool). if t then 1 else 0) (eq-eqb h h refl)

  pub within-counts : (n : Node M) (x : Forest M) → Within n x → HasHandle h n → 1 ≤ times_below h x
  within-counts n none w e = absurd w
  within-counts n (more own m below others) (inl is) e =
      let here : one h own.handle ≡ 1 = ap (λ (k : Node M). one h k.own.handle) is ∙ counts-one n e in
      omega (arith, here)
  within-counts n (more own m below others) (inr (inl w)) e = omega (arith, within-counts n below w e)
  within-counts n (more own m below others) (inr (inr w)) e = omega (arith, within-counts n others w e)

  pub of-counts : (n root : Node M) → IsOf n root → HasHandle h n → 1 ≤ times h root
  of-counts n root (inl is) e =
      let here : one h root.own.handle ≡ 1 = ap (λ (k : Node M). one h k.own.handle) is ∙ counts-one n e in
      omega (arith, here)
  of-counts n root (inr w) e = omega (arith, within-counts n root.below w e)

  same-within : (n k : Node M) (x : Forest M) → Within n x → Within k x → HasHandle h n → HasHandle h k → times_below h x ≤ 1 → n ≡ k
  same-within n k none a b e f once = absurd a
  same-within n k (more own m below others) (inl is) (inl at) e f once = sym is ∙ at
  same-within n k (more own m below others) (inl is) (inr (inl w)) e f once =
      let here : one h own.handle ≡ 1 = ap (λ (k : Node M). one h k.own.handle) is ∙ counts-one n e in
      absurd (omega (arith, here, once, within-counts k below w f))
  same-within n k (more own m below others) (inl is) (inr (inr w)) e f once =
      let here : one h own.handle ≡ 1 = ap (λ (k : Node M). one h k.own.handle) is ∙ counts-one n e in
      absurd (omega (arith, here, once, within-counts k others w f))
  same-within n k (more own m below others) (inr (inl v)) (inl at) e f once =
      let here : one h own.handle ≡ 1 = ap (λ (k : Node M). one h k.own.handle) at ∙ counts-one k f in
      absurd (omega (arith, here, once, within-counts n below v e))
  same-within n k (more own m below others) (inr (inl v)) (inr (inl w)) e f once = same-within n k below v w e f (omega (arith, once))
  same-within n k (more own m below others) (inr (inl v)) (inr (inr w)) e f once =
      absurd (omega (arith, once, within-counts n below v e, within-counts k others w f))
  same-within n k (more own m below others) (inr (inr v)) (inl at) e f once =
      let here : one h own.handle ≡ 1 = ap (λ (k : Node M). one h k.own.handle) at ∙ counts-one k f in
      absurd (omega (arith, here, once, within-counts n others v e))
  same-within n k (more own m below others) (inr (inr v)) (inr (inl w)) e f once =
      absurd (omega (arith, once, within-counts n others v e, within-counts k below w f))
  same-within n k (more own m below others) (inr (inr v)) (inr (inr w)) e f once = same-within n k others v w e f (omega (arith, once))

  pub same-node : (n k root : Node M) → IsOf n root → IsOf k root → HasHandle h n → HasHandle h k → times h root ≤ 1 → n ≡ k
  same-node n k root (inl is) (inl at) e f once = sym is ∙ at
  same-node n k root (inl is) (inr w) e f once =
      let here : one h root.own.handle ≡ 1 = ap (λ (k : Node M). one h k.own.handle) is ∙ counts-one n e in
      absurd (omega (arith, here, once, within-counts k root.below w f))
  same-node n k root (inr v) (inl at) e f once =
      let here : one h root.own.handle ≡ 1 = ap (λ (k : Node M). one h k.own.handle) at ∙ counts-one k f in
      absurd (omega (arith, here, once, within-counts n root.below v e))
  same-node n k root (inr v) (inr w) e f once = same-within n k root.below v w e f (omega (arith, once))

-- ---- what holds of every node holds of it

lawful-within : {M : Type 0} (mtu clock : ℕ) (n : Node M) (x : Forest M) → AllLawful mtu clock x → Within n x → IsLawfulRoot mtu clock n
lawful-within mtu clock n none h w = absurd w
lawful-within mtu clock n (more own m below others) h (inl is) = subst (IsLawfulRoot mtu clock) is (h.0, h.1)
lawful-within mtu clock n (more own m below others) h (inr (inl w)) = lawful-within mtu clock n below h.1 w
lawful-within mtu clock n (more own m below others) h (inr (inr w)) = lawful-within mtu clock n others h.2 w

pub lawful-of : {M : Type 0} (mtu clock : ℕ) (n root : Node M) → IsLawfulRoot mtu clock root → IsOf n root → IsLawfulRoot mtu clock n
lawful-of mtu clock n root h (inl is) = subst (IsLawfulRoot mtu clock) is h
lawful-of mtu clock n root h (inr w) = lawful-within mtu clock n root.below h.1 w

-- ---- a child, and what is within it

-- a node beneath one whose child was changed
pub within-set : (n new old : Node (List Note)) (x : Forest (List Note)) (i : ℕ) → slice_get (nodes_in x) i ≡ Some old → Within n (side_by_side (set (nodes_in x) i new)) → IsOf n new ⊎ Within n x
within-set n new old none i e w = absurd (none-some old e)
within-set n new old (more own m below others) zero e (inl is) = inl (inl is)
within-set n new old (more own m below others) zero e (inr (inl w)) = inl (inr w)
within-set n new old (more own m below others) zero e (inr (inr w)) = inr (inr (inr (subst (Within n) (side-nodes others) w)))
within-set n new old (more own m below others) (suc i) e (inl is) = inr (inl is)
within-set n new old (more own m below others) (suc i) e (inr (inl w)) = inr (inr (inl w))
within-set n new old (more own m below others) (suc i) e (inr (inr w)) = by (within-set n new old others i e w)
  where
    by : IsOf n new ⊎ Within n others → IsOf n new ⊎ Within n (more own m below others)
    by (inl a) = inl a
    by (inr b) = inr (inr (inr b))

pub child-within : {M : Type 0} (n c : Node M) (x : Forest M) (i : ℕ) → slice_get (nodes_in x) i ≡ Some c → IsOf n c → Within n x
child-within n c none i e h = absurd (none-some c e)
child-within n c (more own m below others) zero e (inl is) = inl (same_Some (record { own = own; memory = m; below = below }) c e ∙ is)
child-within n c (more own m below others) zero e (inr w) =
    inr (inl (subst (λ (k : Node _). Within n k.below) (sym (same_Some (record { own = own; memory = m; below = below }) c e)) w))
child-within n c (more own m below others) (suc i) e h = inr (inr (child-within n c others i e h))

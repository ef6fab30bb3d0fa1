-- The classes of a drr by their places, and the tbfs of a tree, for the ways to classes.
use Rattle.std.proofs.Common.{◌≡◌, ℕ, zero, suc, ◌+◌, ◌≤◌, ◌∙◌, eqb, Bool, List, [], ◌∷◌, take, drop, map, refl, sym, ap, Option, Some, None, option_map, eq-eqb, true, false, ◌||◌, arith}
use Rattle.std.specs.Prelude.{◌==◌, IsTrue, slice_get, sum_by}
use Rattle.std.specs.List.{list_any, position}
use Rattle.std.proofs.lemmas.Bool.{ne_eqb, false≢true}
use Rattle.std.proofs.lemmas.List.Sums.{sum_by-cons, sum_by_more}
use Rattle.std.proofs.lemmas.Option.{none-some, same_Some, get_or_from_slice_get, slice_get_within}
use Rattle.q_drr.specs.Schedule.{Class, has_class, name_at, quantum_of}
use Rattle.q_drr.proofs.DifferLemmas.{ClassesDiffer}
use Rattle.q_drr.proofs.LookupLemmas.{quantum_here, quantum_behind}
use Rattle.q_model.specs.Node.{Own, Node, children, each}
use Rattle.q_invariants.proofs.class.ClassSums.{position-here, position-there}
use Rattle.q_invariants.proofs.tree.Forests.{each-nodes}
use Rattle.q_invariants.proofs.tree.Members.{passes-at}
use Rattle.q_tree.specs.answers.Ways.{has_tbf, is_tbf}
use Rattle.q_tree.specs.Kept.{Kept}

-- a class is found by its name in its place, with its quantum
pub record IsAt (classes : List Class) (i : ℕ) (c : Class) : Type 0 where
  pub has : has_class c.name classes ≡ true
  pub place : position (λ (k : Class). c.name == k.name) classes ≡ Some i
  pub quantum : quantum_of c.name classes ≡ c.quantum
  pub part : c.quantum ≤ sum_by (λ (k : Class). k.quantum) classes

pub is-at : (classes : List Class) (i : ℕ) (c : Class) → ClassesDiffer classes → slice_get classes i ≡ Some c → IsAt classes i c
is-at [] i c differ e = absurd (none-some c e)
is-at (k ∷ classes) zero c differ e =
    let same : k ≡ c = same_Some k c e in
    let here : eqb c.name k.name ≡ true = eq-eqb c.name k.name (ap (λ (x : Class). x.name) (sym same)) in
    record {
      has = passes-at (λ (x : Class). c.name == x.name) (k ∷ classes) 0 k refl here;
      place = position-here (λ (x : Class). c.name == x.name) k classes here;
      quantum = quantum_here c.name k classes here ∙ ap (λ (x : Class). x.quantum) same;
      part = omega (arith, sum_by-cons (λ (x : Class). x.quantum) k classes, ap (λ (x : Class). x.quantum) same);
    }
is-at (k ∷ classes) (suc i) c differ e =
    let rest = is-at classes i c differ.1 e in
    let there : eqb c.name k.name ≡ false = ne_eqb c.name k.name (λ same. false≢true (sym differ.0 ∙ ap (λ m. has_class m classes) (sym same) ∙ rest.has)) in
    record {
      has = ap (λ t. t || has_class c.name classes) there ∙ rest.has;
      place = position-there (λ (x : Class). c.name == x.name) k classes there ∙ ap (option_map suc) rest.place;
      quantum = quantum_behind c.name k classes there ∙ rest.quantum;
      part = omega (arith, sum_by-cons (λ (x : Class). x.quantum) k classes, rest.part);
    }

-- the class of which the name was read
pub record IsNamed (classes : List Class) (i name : ℕ) : Type 0 where
  pub class : Class
  pub there : slice_get classes i ≡ Some class
  pub named : class.name ≡ name

pub is-named : (classes : List Class) (i name : ℕ) → name_at i classes ≡ Some name → IsNamed classes i name
is-named classes i name e = by (slice_get classes i) refl e
  where
    by : (o : Option Class) → slice_get classes i ≡ o → option_map (λ (c : Class). c.name) o ≡ Some name → IsNamed classes i name
    by None at e = absurd (none-some name e)
    by (Some c) at e = record { class = c; there = at; named = same_Some c.name name e }

pub named-has : (classes : List Class) (i name : ℕ) → ClassesDiffer classes → name_at i classes ≡ Some name → IsTrue (has_class name classes)
named-has classes i name differ e =
    let n = is-named classes i name e in
    sym (ap (λ k. has_class k classes) n.named) ∙ (is-at classes i n.class differ n.there).has

-- the sum of the quanta with one more
pub sum-next : (classes : List Class) (i name : ℕ) → ClassesDiffer classes → name_at i classes ≡ Some name
    → sum_by (λ (c : Class). c.quantum) (take (i + 1) classes) ≡ sum_by (λ (c : Class). c.quantum) (take i classes) + quantum_of name classes
sum-next classes i name differ e =
    let n = is-named classes i name e in
    sum_by_more (λ (c : Class). c.quantum) classes i n.class (slice_get_within classes i n.class n.there)
    ∙ ap (λ (c : Class). sum_by (λ (k : Class). k.quantum) (take i classes) + c.quantum) (get_or_from_slice_get classes i n.class n.class n.there)
    ∙ ap (λ q. sum_by (λ (k : Class). k.quantum) (take i classes) + q) (sym (is-at classes i n.class differ n.there).quantum ∙ ap (λ k. quantum_of k classes) n.named)

-- ---- tbfs

-- whether there is one from this place on
abbrev pub tbf_ahead : ℕ → List (Node Kept) → Bool
tbf_ahead i ns = list_any (λ b. b) (map has_tbf (drop i ns))

abbrev tbf_here : Own → List Bool → Bool
tbf_here own below = is_tbf own.discipline || list_any (λ b. b) below

pub tbf-all : (n : Node Kept) (ns : List (Node Kept)) → ns ≡ children n → is_tbf n.own.discipline ≡ false → tbf_ahead 0 ns ≡ has_tbf n
tbf-all n ns is other =
    ap (λ xs. list_any (λ b. b) (map has_tbf xs)) is
    ∙ sym (ap (λ b. b || list_any (λ x. x) (each tbf_here n.below)) other ∙ ap (list_any (λ b. b)) (each-nodes tbf_here n.below))

-- Children of which nothing has happened, and one among them to which something has.
use Rattle.std.proofs.Common.{◌≡◌, ℕ, zero, suc, ◌+◌, List, [], ◌∷◌, map, set, refl, sym, ap, ap₂, subst, Some, arith}
use Rattle.std.specs.Prelude.{slice_get}
use Rattle.std.proofs.lemmas.Option.{same_Some}
use Rattle.q_packet.specs.Descriptor.{Descriptor}
use Rattle.q_model.specs.Tally.{Note}
use Rattle.q_model.specs.Node.{Own, Forest, none, more, Node, Shape, nodes_in, side_by_side, children, each, each_memory, from_below}
use Rattle.q_model.specs.Beneath.{beneath_own, beneath}
use Rattle.q_model.specs.Conserved.{held_own, held_beneath}
use Rattle.q_model.specs.Work.{Worked, quiet}
use Rattle.q_model.proofs.ShrinkLemmas.{each-each_memory}
use Rattle.q_invariants.specs.Kept.{AllLawful, AreLawful, IsLawfulRoot}
use Rattle.q_invariants.specs.Weights.{weigh}
use Rattle.q_invariants.proofs.ask.Answer.{waiting, holds}
use Rattle.q_invariants.proofs.sums.Sums.{in_children, held_in_children}
use Rattle.q_invariants.proofs.sums.Told.{IsTold, AllTold, IsRootTold}
use Rattle.q_invariants.proofs.sums.Weights.{arrived-nil, sent-nil, lost-nil, dropped-nil, marked-nil}
use Rattle.q_invariants.proofs.tree.Forests.{AreTold, lawful-with_memory}

-- the children of a node as they were, remembering nothing yet
abbrev pub quiets : Shape → List Worked
quiets s = map quiet (children s)

pub side-quiet : (x : Forest (Unit {0})) → side_by_side (map quiet (nodes_in x)) ≡ each_memory (λ u. []) x
side-quiet none = refl
side-quiet (more own m below others) = ap (λ o. more own [] (each_memory (λ u. []) below) o) (side-quiet others)

each-quiets : {A : Type 0} (f : Own → List A → A) (x : Forest (Unit {0})) → map (from_below f) (map quiet (nodes_in x)) ≡ each f x
each-quiets f none = refl
each-quiets f (more own m below others) = ap₂ (λ a b. f own a ∷ b) (each-each_memory f (λ u. []) below) (each-quiets f others)

pub waiting-quiet : (s : Shape) → waiting s.own (quiets s) ≡ beneath s
waiting-quiet s = ap (beneath_own s.own) (each-quiets beneath_own s.below)

pub holds-quiet : (s : Shape) → holds s.own (quiets s) ≡ held_beneath s
holds-quiet s = ap (held_own s.own) (each-quiets held_own s.below)

pub beneath-quiets : (s : Shape) → map beneath (quiets s) ≡ each beneath_own s.below
beneath-quiets s = each-quiets beneath_own s.below

same-told : (waiting held : List Descriptor) → IsTold [] waiting waiting held held
same-told waiting held = record {
  conserved = λ w. omega (arith, arrived-nil w, sent-nil w, lost-nil w);
  marks = λ w. omega (arith, marked-nil w, sent-nil w, dropped-nil w);
}

forgotten : Forest (Unit {0}) → Forest (List Note)
forgotten x = each_memory (λ u. []) x

quiet-told : (x : Forest (Unit {0})) → AllTold (forgotten x) (forgotten x)
unfolding forgotten
quiet-told none = tt
quiet-told (more own m below others) =
    (same-told (beneath_own own (each beneath_own (each_memory (λ u. []) below))) (held_own own (each held_own (each_memory (λ u. []) below))), refl, quiet-told below, quiet-told others)

pub one-quiet : (c : Shape) → IsRootTold (quiet c) (quiet c)
unfolding forgotten
one-quiet c = (same-told (beneath (quiet c)) (held_beneath (quiet c)), refl, quiet-told c.below)

-- the children as a list
pub quiets-told : (cs : List Shape) → AreTold (map quiet cs) (map quiet cs)
quiets-told [] = tt
quiets-told (c ∷ cs) = (one-quiet c, quiets-told cs)

pub quiets-lawful : (mtu now : ℕ) (x : Forest (Unit {0})) → AllLawful mtu now x → AreLawful mtu now (map quiet (nodes_in x))
quiets-lawful mtu now none h = tt
quiets-lawful mtu now (more own m below others) h =
    (lawful-with_memory mtu now (λ u. []) (record { own = own; memory = m; below = below }) (h.0, h.1), quiets-lawful mtu now others h.2)

pub child-lawful : {M : Type 0} (mtu now : ℕ) (x : Forest M) (i : ℕ) (c : Node M) → AllLawful mtu now x → slice_get (nodes_in x) i ≡ Some c → IsLawfulRoot mtu now c
child-lawful mtu now none i c h e = cc
child-lawful mtu now (more own m below others) zero c h e = subst (IsLawfulRoot mtu now) (same_Some (record { own = own; memory = m; below = below }) c e) (h.0, h.1)
child-lawful mtu now (more own m below others) (suc i) c h e = child-lawful mtu now others i c h.2 e

-- one child becomes another
pub record IsSetAt (mtu now : ℕ) (cs : List Shape) (i : ℕ) (c : Shape) (m : Worked) : Type 0 where
  pub lawful : AreLawful mtu now (map quiet cs) → IsLawfulRoot mtu now m → AreLawful mtu now (set (map quiet cs) i m)
  pub told : IsRootTold (quiet c) m → AreTold (map quiet cs) (set (map quiet cs) i m)
  pub weighs : (w : Descriptor → ℕ) → in_children w (set (map quiet cs) i m) + weigh w (beneath c) ≡ in_children w (map quiet cs) + weigh w (beneath m)
  pub holds : (w : Descriptor → ℕ) → held_in_children w (set (map quiet cs) i m) + weigh w (held_beneath c) ≡ held_in_children w (map quiet cs) + weigh w (held_beneath m)

pub beneath-quiet : (c : Shape) → beneath (quiet c) ≡ beneath c
beneath-quiet c = ap (beneath_own c.own) (each-each_memory beneath_own (λ u. []) c.below)

held-quiet : (c : Shape) → held_beneath (quiet c) ≡ held_beneath c
held-quiet c = ap (held_own c.own) (each-each_memory held_own (λ u. []) c.below)

pub set-at : (mtu now : ℕ) (cs : List Shape) (i : ℕ) (c : Shape) (m : Worked) → slice_get cs i ≡ Some c → IsSetAt mtu now cs i c m
set-at mtu now [] i c m e = cc
set-at mtu now (d ∷ cs) zero c m e =
    let is : d ≡ c = same_Some d c e in
    record {
      lawful = λ all one. (one, all.1);
      told = λ one. (subst (λ (x : Shape). IsRootTold (quiet x) m) (sym is) one, quiets-told cs);
      weighs = λ w. omega (arith, ap (weigh w) (beneath-quiet d), ap (λ (x : Shape). weigh w (beneath x)) is);
      holds = λ w. omega (arith, ap (weigh w) (held-quiet d), ap (λ (x : Shape). weigh w (held_beneath x)) is);
    }
set-at mtu now (d ∷ cs) (suc i) c m e =
    let rest = set-at mtu now cs i c m e in
    record {
      lawful = λ all one. (all.0, rest.lawful all.1 one);
      told = λ one. (one-quiet d, rest.told one);
      weighs = λ w. omega (arith, rest.weighs w);
      holds = λ w. omega (arith, rest.holds w);
    }

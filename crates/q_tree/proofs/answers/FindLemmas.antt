-- The children of a node and the places of its classes, as they are read.
use Rattle.std.proofs.Common.{◌≡◌, ℕ, ◌<◌, ◌≤◌, ◌∙◌, List, [], ◌∷◌, ◌++◌, take, length, refl, sym, ap, Option, Some, None, arith}
use Rattle.std.specs.Prelude.{if◌then◌else◌, nat_le, ◌&&◌, ◌-◌, false, ◌==◌}
use Rattle.std.specs.Option.{option_eq}
use Rattle.std.proofs.lemmas.Bool.{eq-eqb, false≢true, le-leb, lt-leb}
use Rattle.std.proofs.lemmas.List.{length-append}
use Rattle.q_drr.specs.Schedule.{Schedule}
use Rattle.q_model.specs.Find.{class_in, class_place}
use Rattle.q_model.specs.Node as spec
use Rattle.q_model.specs.Node.{Node, children, each}
use Rattle.q_model.specs.Route.{class_at}
use Rattle.q_invariants.proofs.tree.Forests.{nodes-side}
use Rattle.q_tree.specs.Kept.{Kept}
use Rattle.q_tree.specs.Seen.{seen, children_seen}
use Rattle.q_tree.specs.declared.node.Discipline.TheVariants.{Prio, Drr}
use Rattle.q_tree.specs.declared.node.Node.TheInside.{Inside}

pub apart : (h : ℕ) (o : Option ℕ) → false ≡ option_eq (λ a b. a == b) o (Some h) → o ≡ Some h → ⊥
apart h o differ same = false≢true (differ ∙ ap (λ x. option_eq (λ a b. a == b) x (Some h)) same ∙ eq-eqb h h refl)

-- the children of a node, as they are read
pub children-read : (a : Inside) (n : Node Kept) (ns : List (Node Kept)) → seen a ≡ n → ns ≡ children_seen a.discipline → ns ≡ children n
children-read a n ns view kids = kids ∙ sym (nodes-side (children_seen a.discipline)) ∙ ap children view

-- a band is its class number, from 1
band-inside : (bands minor : ℕ) → 1 ≤ minor → minor - 1 < bands → Some (minor - 1) ≡ (if nat_le 1 minor && nat_le minor bands then Some (minor - 1) else None)
band-inside bands minor positive inside =
    sym (ap (λ b. if b && nat_le minor bands then Some (minor - 1) else None) (le-leb 1 minor positive)
    ∙ ap (λ b. if b then Some (minor - 1) else None) (le-leb minor bands (omega (arith, positive, inside))))

band-past : (bands minor : ℕ) → 1 ≤ minor → bands ≤ minor - 1 → None ≡ (if nat_le 1 minor && nat_le minor bands then Some (minor - 1) else None)
band-past bands minor positive past =
    sym (ap (λ b. if b && nat_le minor bands then Some (minor - 1) else None) (le-leb 1 minor positive)
    ∙ ap (λ b. if b then Some (minor - 1) else None) (lt-leb minor bands (omega (arith, positive, past))))

module _ (a : Inside) (n : Node Kept) (priomap : List ℕ) (bands : _) (minor k : ℕ) (view : seen a ≡ n) (is : a.discipline ≡ Prio priomap bands) (same : k ≡ minor) (positive : 1 ≤ k) where
  prio-place : class_in (length bands.items) k (spec.Prio priomap) ≡ class_place minor n
  prio-place =
      ap (λ m. class_in (length bands.items) m (spec.Prio priomap)) same
      ∙ ap (λ (ns : List (Node Kept)). class_in (length ns) minor (spec.Prio priomap)) (sym (nodes-side bands.items))
      ∙ sym (ap (λ d. class_place minor (seen (record a { discipline = d }))) is)
      ∙ ap (class_place minor) view

  pub place-inside : k - 1 < length bands.items → Some (k - 1) ≡ class_place minor n
  place-inside inside = band-inside (length bands.items) k positive inside ∙ prio-place

  pub place-past : length bands.items ≤ k - 1 → None ≡ class_place minor n
  place-past past = band-past (length bands.items) k positive past ∙ prio-place

pub drr-place : (a : Inside) (n : Node Kept) (s : Schedule) (classes : _) (minor : ℕ) (o : Option ℕ) → seen a ≡ n → a.discipline ≡ Drr s classes → o ≡ class_at minor s → o ≡ class_place minor n
drr-place a n s classes minor o view is at =
    at ∙ sym (ap (λ d. class_place minor (seen (record a { discipline = d }))) is) ∙ ap (class_place minor) view

-- a step is taken back
pub take-front : (xs : List ℕ) (p : ℕ) → take (length xs) (xs ++ p ∷ []) ≡ xs
take-front [] p = refl
take-front (x ∷ xs) p = ap (λ ys. x ∷ ys) (take-front xs p)

pub stepped-back : (before after : List ℕ) (p k : ℕ) (front : List ℕ) → after ≡ before ++ p ∷ [] → k ≡ length after → front ≡ take (k - 1) after → front ≡ before
stepped-back before after p k front step len is =
    is ∙ ap (λ n. take n after) (omega (arith, len, ap length step, length-append before (p ∷ []))) ∙ ap (take (length before)) step ∙ take-front before p

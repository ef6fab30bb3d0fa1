-- The child of a drr's class among children that were asked, that a step has booked, or that are counted empty.
use Rattle.std.proofs.Common.{◌≡◌, ℕ, Bool, true, false, eqb, not, ◌⊎◌, inl, inr, List, [], ◌∷◌, map, sym, ap, subst, ◌∙◌, Some}
use Rattle.std.specs.Prelude.{if◌then◌else◌}
use Rattle.std.specs.List.{zip}
use Rattle.std.proofs.lemmas.Bool.{cases_Bool, eqb-true}
use Rattle.std.proofs.lemmas.Option.{none-some, same_Some}
use Rattle.q_drr.specs.Schedule.{Class}
use Rattle.q_model.specs.Tally.{Note, history}
use Rattle.q_model.specs.Node.{Forest, none, more, Node, Shape, nodes_in, each, shape}
use Rattle.q_model.specs.Beneath.{beneath, is_empty}
use Rattle.q_model.specs.Work.{Worked, each_booked, booked}
use Rattle.q_model.specs.Ask.{Asked, ask_own, ask}
use Rattle.q_invariants.proofs.ask.SentStages.{Gives, ask-gives}
use Rattle.q_invariants.proofs.class.ClassChildren.{child_for, here-is, there-is}
use Rattle.q_invariants.proofs.class.Exact.{AreExact}
use Rattle.q_invariants.proofs.tree.Related.{AllRelated, forget}

-- ---- asked

pub record LookedAt (classes : List Class) (below : List Asked) (c : ℕ) (v : Worked) : Type 0 where
  pub answer : Asked
  pub there : child_for c classes below ≡ Some answer
  pub which : (v ≡ answer.peeked) ⊎ (v ≡ answer.before)

pub looked-at : (test : Class → Bool) (classes : List Class) (below : List Asked) (c : ℕ) (v : Worked)
    → child_for c classes (map (λ pair. if test pair.0 then pair.1.peeked else pair.1.before) (zip classes below)) ≡ Some v → LookedAt classes below c v
looked-at test [] below c v e = absurd (none-some v e)
looked-at test (k ∷ classes) [] c v e = absurd (none-some v e)
looked-at test (k ∷ classes) (a ∷ below) c v e = elim (cases_Bool (eqb c k.name)) [
  | inl here ↦ by here (test k) (same_Some (if test k then a.peeked else a.before) v
      (sym (here-is c k classes (if test k then a.peeked else a.before)
      (map (λ pair. if test pair.0 then pair.1.peeked else pair.1.before) (zip classes below)) here) ∙ e))
  | inr there ↦
      let rest =
      looked-at test classes below c v (sym (there-is c k classes (if test k then a.peeked else a.before)
      (map (λ pair. if test pair.0 then pair.1.peeked else pair.1.before) (zip classes below)) there) ∙ e) in
      record { answer = rest.answer; there = there-is c k classes a below there ∙ rest.there; which = rest.which }
]
  where
    by : eqb c k.name ≡ true → (t : Bool) → (if t then a.peeked else a.before) ≡ v → LookedAt (k ∷ classes) (a ∷ below) c v
    by here true is = record { answer = a; there = here-is c k classes a below here; which = inl (sym is) }
    by here false is = record { answer = a; there = here-is c k classes a below here; which = inr (sym is) }

pub before-at : (classes : List Class) (below : List Asked) (c : ℕ) (v : Worked) → child_for c classes (map (λ (a : Asked). a.before) below) ≡ Some v → LookedAt classes below c v
before-at [] below c v e = absurd (none-some v e)
before-at (k ∷ classes) [] c v e = absurd (none-some v e)
before-at (k ∷ classes) (a ∷ below) c v e = elim (cases_Bool (eqb c k.name)) [
  | inl here ↦ record {
    answer = a;
    there = here-is c k classes a below here;
    which = inr (sym (same_Some a.before v (sym (here-is c k classes a.before (map (λ (a : Asked). a.before) below) here) ∙ e)));
  }
  | inr there ↦
      let rest = before-at classes below c v (sym (there-is c k classes a.before (map (λ (a : Asked). a.before) below) there) ∙ e) in
      record { answer = rest.answer; there = there-is c k classes a below there ∙ rest.there; which = rest.which }
]

-- each child of a tree that is asked sends what it shows
pub gives-for : (now : ℕ) (x : Forest (Unit {0})) (classes : List Class) (c : ℕ) (a : Asked) → child_for c classes (each (ask_own now) x) ≡ Some a → Gives a
gives-for now none [] c a e = absurd (none-some a e)
gives-for now none (k ∷ classes) c a e = absurd (none-some a e)
gives-for now (more own m below others) [] c a e = absurd (none-some a e)
gives-for now (more own m below others) (k ∷ classes) c a e = elim (cases_Bool (eqb c k.name)) [
  | inl here ↦ subst Gives (same_Some (ask_own now own (each (ask_own now) below)) a (sym (here-is c k classes (ask_own now own (each (ask_own now) below)) (each (ask_own now) others) here) ∙ e))
      (ask-gives now (record { own = own; memory = m; below = below }))
  | inr there ↦ gives-for now others classes c a (sym (there-is c k classes (ask_own now own (each (ask_own now) below)) (each (ask_own now) others) there) ∙ e)
]

-- the answer of the child itself
pub answer-for : (now : ℕ) (x : Forest (List Note)) (classes : List Class) (c : ℕ) (k : Node (List Note)) → child_for c classes (nodes_in x) ≡ Some k
    → child_for c classes (each (ask_own now) (forget x)) ≡ Some (ask now (shape k))
answer-for now none [] c k e = absurd (none-some k e)
answer-for now none (l ∷ classes) c k e = absurd (none-some k e)
answer-for now (more own m below others) [] c k e = absurd (none-some k e)
answer-for now (more own m below others) (l ∷ classes) c k e =
    let n : Node (List Note) = record { own = own; memory = m; below = below } in
    let rest : List Asked = each (ask_own now) (forget others) in
    elim (cases_Bool (eqb c l.name)) [
      | inl here ↦ here-is c l classes (ask now (shape n)) rest here ∙ ap (λ (x : Node (List Note)). Some (ask now (shape x))) (same_Some n k (sym (here-is c l classes n (nodes_in others) here) ∙ e))
      | inr there ↦ there-is c l classes (ask now (shape n)) rest there ∙ answer-for now others classes c k (sym (there-is c l classes n (nodes_in others) there) ∙ e)
    ]

-- ---- booked

pub record BookedChild (R : Shape → Worked → Type 0) (classes : List Class) (x : Forest (List Note)) (y : Forest (List Note)) (c : ℕ) (m : Node (List Note)) : Type 0 where
  pub child : Node (List Note)
  pub worked : Worked
  pub there : child_for c classes (nodes_in x) ≡ Some child
  pub becomes : child_for c classes (nodes_in y) ≡ Some worked
  pub by : R (shape child) worked
  pub is : booked history child worked ≡ m

pub booked-child : (R : Shape → Worked → Type 0) (classes : List Class) (x y : Forest (List Note)) (c : ℕ) (m : Node (List Note)) → AllRelated R (forget x) y
    → child_for c classes (nodes_in (each_booked history x y)) ≡ Some m → BookedChild R classes x y c m
booked-child R [] x y c m h e = absurd (none-some m e)
booked-child R (k ∷ classes) none y c m h e = absurd (none-some m e)
booked-child R (k ∷ classes) (more own memory below others) none c m h e = absurd (none-some m e)
booked-child R (k ∷ classes) (more own memory below others) (more own_after notes below_after others_after) c m h e =
    let n : Node (List Note) = record { own = own; memory = memory; below = below } in
    let w : Worked = record { own = own_after; memory = notes; below = below_after } in
    elim (cases_Bool (eqb c k.name)) [
      | inl here ↦ record {
        child = n;
        worked = w;
        there = here-is c k classes n (nodes_in others) here;
        becomes = here-is c k classes w (nodes_in others_after) here;
        by = h.0;
        is = same_Some (booked history n w) m (sym (here-is c k classes (booked history n w) (nodes_in (each_booked history others others_after)) here) ∙ e);
      }
      | inr there ↦
          let rest = booked-child R classes others others_after c m h.3 (sym (there-is c k classes (booked history n w) (nodes_in (each_booked history others others_after)) there) ∙ e) in
          record {
            child = rest.child;
            worked = rest.worked;
            there = there-is c k classes n (nodes_in others) there ∙ rest.there;
            becomes = there-is c k classes w (nodes_in others_after) there ∙ rest.becomes;
            by = rest.by;
            is = rest.is;
          }
    ]

-- ---- a class is active where its child has something

pub active-of : (active : ℕ → Bool) (classes : List Class) (cs : List (Node (List Note))) (c : ℕ) (k : Node (List Note)) → AreExact active classes (map beneath cs)
    → child_for c classes cs ≡ Some k → active c ≡ not (is_empty k)
active-of active [] cs c k h e = absurd (none-some k e)
active-of active (l ∷ classes) [] c k h e = absurd (none-some k e)
active-of active (l ∷ classes) (n ∷ cs) c k h e = elim (cases_Bool (eqb c l.name)) [
  | inl here ↦ ap active (eqb-true c l.name here) ∙ h.0 ∙ ap (λ (x : Node (List Note)). not (is_empty x)) (same_Some n k (sym (here-is c l classes n cs here) ∙ e))
  | inr there ↦ active-of active classes cs c k h.1 (sym (there-is c l classes n cs there) ∙ e)
]

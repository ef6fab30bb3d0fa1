-- Each node of a tree notes what the rules make of it, and so stays counted.
use Rattle.std.proofs.Common.{◌≡◌, ℕ, ◌+◌, ◌≤◌, List, [], ◌∷◌, ◌++◌, refl, sym, ap, ap₂, subst, arith, ◌∙◌}
use Rattle.std.proofs.lemmas.List.{append-nil, append_assoc}
use Rattle.q_packet.specs.Descriptor.{Descriptor}
use Rattle.q_model.specs.Tally.{Tally, Note, history, noted}
use Rattle.q_model.specs.Node.{Own, Forest, none, more, Node, each, each_memory, from_below, with_memory}
use Rattle.q_model.specs.Beneath.{beneath_own, beneath}
use Rattle.q_model.specs.Conserved.{held_own, held_beneath}
use Rattle.q_model.specs.Lawful.{IsLawfulOwn}
use Rattle.q_model.specs.Work.{Worked, each_booked, booked}
use Rattle.q_model.proofs.ShrinkLemmas.{each-each_memory}
use Rattle.q_invariants.specs.Kept.{AllCounted, AllLawful, AreCounted}
use Rattle.q_invariants.specs.Weights.{arrived, dropped, lost, marked, sent, weigh}
use Rattle.q_invariants.proofs.sums.Weights.{arrived-append, sent-append, lost-append, dropped-append, marked-append}

-- notes that say how packets that wait, and packets that are held, became others
pub record IsTold (notes : List Note) (waiting waiting_after held held_after : List Descriptor) : Type 0 where
  pub conserved : (w : Descriptor → ℕ) → arrived w notes + weigh w waiting ≡ sent w notes + lost w notes + weigh w waiting_after
  pub marks : (w : Descriptor → ℕ) → marked w notes + weigh w held ≤ sent w notes + dropped w notes + weigh w held_after

-- the same nodes, each of which noted what became of it
abbrev pub AllTold : {A : Type 0} → Forest A → Forest (List Note) → Type 0
AllTold none none = Unit {0}
AllTold none (more own notes below others) = ⊥
AllTold (more own m below others) none = ⊥
AllTold (more own m below others) (more own_after notes below_after others_after) =
    IsTold notes (beneath_own own (each beneath_own below)) (beneath_own own_after (each beneath_own below_after)) (held_own own (each held_own below)) (held_own own_after (each held_own below_after))
    × (own_after.handle ≡ own.handle) × AllTold below below_after × AllTold others others_after

abbrev pub IsRootTold : {A : Type 0} → Node A → Worked → Type 0
IsRootTold n w = IsTold w.memory (beneath n) (beneath w) (held_beneath n) (held_beneath w) × (w.own.handle ≡ n.own.handle) × AllTold n.below w.below

-- a history is made longer by what is noted
pub noted-history : (m notes : List Note) → noted history m notes ≡ m ++ notes
noted-history m [] = sym (append-nil m)
noted-history m (n ∷ notes) = noted-history (m ++ n ∷ []) notes ∙ append_assoc m (n ∷ []) notes

pub counted-noted : (m notes : List Note) (waiting waiting_after held held_after : List Descriptor) → AreCounted m waiting held
    → IsTold notes waiting waiting_after held held_after → AreCounted (noted history m notes) waiting_after held_after
counted-noted m notes waiting waiting_after held held_after c t = subst (λ h. AreCounted h waiting_after held_after) (sym (noted-history m notes)) (record {
  conserved = λ w. omega (arith, c.conserved w, t.conserved w, arrived-append w m notes, sent-append w m notes, lost-append w m notes);
  marks = λ w. omega (arith, c.marks w, t.marks w, marked-append w m notes, sent-append w m notes, dropped-append w m notes);
})

-- what is found of a booked tree is found of what the rules left
pub each-booked : {M A : Type 0} (t : Tally M) (f : Own → List A → A) (x : Forest M) (y : Forest (List Note)) → AllTold x y → each f (each_booked t x y) ≡ each f y
each-booked t f none none h = refl
each-booked t f none (more own notes below others) h = absurd h
each-booked t f (more own m below others) none h = absurd h
each-booked t f (more own m below others) (more own_after notes below_after others_after) h =
    ap₂ (λ a b. f own_after a ∷ b) (each-booked t f below below_after h.2) (each-booked t f others others_after h.3)

-- it stays counted
pub booked-counted : (x y : Forest (List Note)) → AllCounted x → AllTold x y → AllCounted (each_booked history x y)
booked-counted none none c h = tt
booked-counted none (more own notes below others) c h = absurd h
booked-counted (more own m below others) none c h = absurd h
booked-counted (more own m below others) (more own_after notes below_after others_after) c h =
    let below_is : (A : Type 0) (f : Own → List A → A) → each f (each_booked history below below_after) ≡ each f below_after = λ A f. each-booked history f below below_after h.2 in
    let here =
    counted-noted m notes (beneath_own own (each beneath_own below)) (beneath_own own_after (each beneath_own below_after))
    (held_own own (each held_own below)) (held_own own_after (each held_own below_after)) c.0 h.0 in (
      subst (λ bs. AreCounted (noted history m notes) (beneath_own own_after bs)
          (held_own own_after (each held_own (each_booked history below below_after)))) (sym (below_is (List Descriptor) beneath_own))
          (subst (λ hs. AreCounted (noted history m notes) (beneath_own own_after (each beneath_own below_after)) (held_own own_after hs)) (sym (below_is (List Descriptor) held_own)) here),
      booked-counted below below_after c.1 h.2,
      booked-counted others others_after c.2 h.3,
    )

-- and as lawful as the rules left it
pub booked-lawful : {M : Type 0} (t : Tally M) (mtu clock : ℕ) (x : Forest M) (y : Forest (List Note)) → AllTold x y → AllLawful mtu clock y → AllLawful mtu clock (each_booked t x y)
booked-lawful t mtu clock none none h l = tt
booked-lawful t mtu clock none (more own notes below others) h l = absurd h
booked-lawful t mtu clock (more own m below others) none h l = absurd h
booked-lawful t mtu clock (more own m below others) (more own_after notes below_after others_after) h l = (
  subst (IsLawfulOwn mtu clock own_after) (sym (each-booked t beneath_own below below_after h.2)) l.0,
  booked-lawful t mtu clock below below_after h.2 l.1,
  booked-lawful t mtu clock others others_after h.3 l.2,
)

-- what is told does not rest on what the nodes remembered
pub told-memory : {A B : Type 0} (f : A → B) (x : Forest A) (y : Forest (List Note)) → AllTold (each_memory f x) y → AllTold x y
told-memory f none none h = tt
told-memory f none (more own notes below others) h = absurd h
told-memory f (more own m below others) none h = absurd h
told-memory f (more own m below others) (more own_after notes below_after others_after) h = (
  subst (λ bs. IsTold notes (beneath_own own bs) (beneath_own own_after (each beneath_own below_after)) (held_own own (each held_own below))
      (held_own own_after (each held_own below_after))) (each-each_memory beneath_own f below)
      (subst (λ hs. IsTold notes (beneath_own own (each beneath_own (each_memory f below))) (beneath_own own_after (each beneath_own below_after))
      (held_own own hs) (held_own own_after (each held_own below_after))) (each-each_memory held_own f below) h.0),
  h.1,
  told-memory f below below_after h.2,
  told-memory f others others_after h.3,
)

pub root-memory : {A B : Type 0} (f : A → B) (n : Node A) (w : Worked) → IsRootTold (with_memory f n) w → IsRootTold n w
root-memory f n w h = (
  subst (λ bs. IsTold w.memory (beneath_own n.own bs) (beneath w) (held_beneath n) (held_beneath w)) (each-each_memory beneath_own f n.below)
      (subst (λ hs. IsTold w.memory (beneath_own n.own (each beneath_own (each_memory f n.below))) (beneath w) (held_own n.own hs) (held_beneath w)) (each-each_memory held_own f n.below) h.0),
  h.1,
  told-memory f n.below w.below h.2,
)

-- the same nodes, with the same handles
abbrev pub LooksAtHandle : {A : Type 0} → (Own → List A → A) → Type 0
LooksAtHandle {A} f = (a b : Own) (xs : List A) → b.handle ≡ a.handle → f b xs ≡ f a xs

pub each-told : {A B : Type 0} (f : Own → List B → B) → LooksAtHandle f → (x : Forest A) (y : Forest (List Note)) → AllTold x y → each f y ≡ each f x
each-told f same none none h = refl
each-told f same none (more own notes below others) h = absurd h
each-told f same (more own m below others) none h = absurd h
each-told f same (more own m below others) (more own_after notes below_after others_after) h =
    ap₂ (λ a b. a ∷ b) (ap (f own_after) (each-told f same below below_after h.2) ∙ same own own_after (each f below) h.1) (each-told f same others others_after h.3)

pub root-told : {A B : Type 0} (f : Own → List B → B) → LooksAtHandle f → (n : Node A) (w : Worked) → IsRootTold n w → from_below f w ≡ from_below f n
root-told f same n w h = ap (f w.own) (each-told f same n.below w.below h.2) ∙ same n.own w.own (each f n.below) h.1

pub root-booked : {M A : Type 0} (t : Tally M) (f : Own → List A → A) (n : Node M) (w : Worked) → IsRootTold n w → from_below f (booked t n w) ≡ from_below f w
root-booked t f n w h = ap (f w.own) (each-booked t f n.below w.below h.2)

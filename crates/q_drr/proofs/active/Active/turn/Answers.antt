use Rattle.std.proofs.Common.{◌≡◌, ◌+◌, ◌-◌, ◌<◌, ◌^◌, ◌++◌, ℕ, take, drop, set, Bool, leb, Some, refl, sym, ap, ◌∙◌, subst, arith}
use Rattle.std.specs.Prelude.{slice_get, if◌then◌else◌}
use Rattle.std.proofs.lemmas.Bool.{le-leb, lt-leb}
use Rattle.q_drr.specs.declared.class_table.ClassState.{ClassState}
use Rattle.q_drr.specs.declared.active.Turn.TheVariants.{Send, Granted}
use Rattle.q_drr.specs.Links.{Circle}
use Rattle.q_drr.specs.States.{named, names_in, name_in, kept_of, state_of}
use Rattle.q_drr.specs.Schedule.{turned, turn_answer, counted}
use Rattle.q_drr.specs.Kept.{shown, IsSound, IsState}
use Rattle.q_drr.proofs.StateLemmas.{Stands}
use Rattle.q_drr.proofs.SoundLemmas.{stands_front, state_at, fits, small, sound_put, sound_rotated, answer_of, shown_sent, shown_granted}
use Rattle.q_drr.proofs.active.Active.turn.Goals.{After-get-state}
use Rattle.q_drr.proofs.active.Active.turn.Goals as goal

first : (c : After-get-state) → slice_get c.self.inside.ring.order 0 ≡ Some c.in-Some.place
first c = sym c.in-Some.ensures

abbrev front_name : After-get-state → ℕ
front_name c = name_in c.self.inside.table c.in-Some.place

stands : (c : After-get-state) → Stands c.in-Some.place (front_name c) c.self.inside.table
stands c = let s = c.self.inside in stands_front s.max_len s.turns s.table s.ring c.self.invariant c.in-Some.place (first c)

read : (c : After-get-state) → c.get-state.result ≡ kept_of (state_of (front_name c) c.self.inside.table)
read c = let s = c.self.inside in state_at s.max_len s.turns s.table s.ring c.self.invariant c.in-Some.place (front_name c) _ (stands c) c.get-state.ensures

-- what is written of the class in front fits
kept : (c : After-get-state) (new : ClassState) → new.quantum ≡ c.get-state.result.quantum → new.deficit < c.get-state.result.quantum + c.self.inside.max_len → new.granted < 2 ^ 64
    → IsState c.self.inside.max_len (named (front_name c) new)
kept c new quantum deficit granted =
    let s = c.self.inside in
    let old = fits s.max_len s.turns s.table s.ring c.self.invariant (front_name c) (stands c).there in
    record {
      small_name = small s.max_len s.turns s.table s.ring c.self.invariant c.in-Some.place (front_name c) (stands c);
      at_least_one = omega (arith, old.at_least_one, quantum, ap (λ k. k.quantum) (read c));
      bounded = omega (arith, deficit, quantum);
      in_range = granted;
    }

answer_is : (c : After-get-state) → turn_answer c.args.head_len c.args.self.now.active ≡ (if leb c.args.head_len (state_of (front_name c) c.self.inside.table).deficit then Send else Granted)
answer_is c =
    let s = c.self.inside in
    ap (λ v. turn_answer c.args.head_len v.active) (sym c.self.view_is) ∙ answer_of s.max_len s.turns s.table s.ring c.self.invariant c.in-Some.place c.args.head_len (first c)

pub invariant_of-self : goal.invariant_of-self
invariant_of-self c =
    let s = c.self.inside in
    let a = (goal.at.invariant_of-self c).After-get-state in
    let old = fits s.max_len s.turns s.table s.ring c.self.invariant (front_name a) (stands a).there in
    let r = c.get-state.result in
    let new : ClassState = record { quantum = r.quantum; deficit = r.deficit - c.from-head_len.result; granted = r.granted } in
    let p : IsState s.max_len (named (front_name a) new) =
    kept a new refl (omega (arith, old.bounded, ap (λ k. k.deficit) (read a), ap (λ k. k.quantum) (read a))) (omega (arith, old.in_range, ap (λ k. k.granted) (read a))) in
    subst (λ t. IsSound s.max_len c.saturating_add-self-inside.result t s.ring) (sym c.put.ensures)
    (sound_put s.max_len s.turns s.table s.ring c.self.invariant c.in-Some.place (front_name a) c.saturating_add-self-inside.result new (stands a) p
    (omega (arith, c.saturating_add-self-inside.ensures)))

pub returns-then-head_len-state-clause-answer : goal.returns-then-head_len-state-clause-answer
returns-then-head_len-state-clause-answer c =
    let a = (goal.at.returns-then-head_len-state-clause-answer c).After-get-state in
    let deficit = ap (λ k. k.deficit) (read a) in
    sym (answer_is a ∙ ap (λ (t : Bool). if t then Send else Granted)
    (le-leb c.args.head_len (state_of (front_name a) c.self.inside.table).deficit
    (omega (arith, deficit, c.from-head_len.ensures, c.if-head_len-state.true))))

pub returns-then-head_len-state-clause-after : goal.returns-then-head_len-state-clause-after
returns-then-head_len-state-clause-after c =
    let s = c.self.inside in
    let a = (goal.at.returns-then-head_len-state-clause-after c).After-get-state in
    let deficit = ap (λ k. k.deficit) (read a) in
    let r = c.get-state.result in
    let new : ClassState = record { quantum = r.quantum; deficit = r.deficit - c.from-head_len.result; granted = r.granted } in
    ap (λ t. shown s.max_len c.saturating_add-self-inside.result t (names_in t s.ring.order)) c.put.ensures
    ∙ ap (λ k. let t = set s.table c.in-Some.place (named (front_name a) new) in shown s.max_len k t (names_in t s.ring.order)) c.saturating_add-self-inside.ensures
    ∙ shown_sent s.max_len s.turns s.table s.ring c.self.invariant c.in-Some.place c.args.head_len new (first a)
    (omega (arith, deficit, c.from-head_len.ensures, c.if-head_len-state.true)) (ap (λ k. k.quantum) (read a)) (omega (arith, deficit, c.from-head_len.ensures)) (ap (λ k. k.granted) (read a))
    ∙ ap (turned c.args.head_len) c.self.view_is

pub invariant_of-self-2 : goal.invariant_of-self-2
invariant_of-self-2 c =
    let s = c.self.inside in
    let a = (goal.at.invariant_of-self-2 c).After-get-state in
    let r = c.get-state.result in
    let new : ClassState = record { quantum = r.quantum; deficit = r.deficit + c.from-quantum.result; granted = c.saturating_add.result } in
    let p : IsState s.max_len (named (front_name a) new) =
    kept a new refl (omega (
      arith,
      c.from-head_len.ensures,
      c.if-head_len-state.false,
      c.from-quantum.ensures,
      c.requires.in_range,
      ap
          (λ v. v.max_len) c.self.view_is,
    )) (omega (arith, c.saturating_add.ensures)) in
    let turned_ring : Circle = record s.ring { order = drop 1 s.ring.order ++ take 1 s.ring.order } in
    let put =
    sound_put s.max_len s.turns s.table turned_ring (sound_rotated s.max_len s.turns s.table s.ring c.self.invariant) c.in-Some.place
    (front_name a) c.saturating_add-self-inside.result new (stands a) p (omega (arith, c.saturating_add-self-inside.ensures)) in
    subst (IsSound s.max_len c.saturating_add-self-inside.result c.put-2.new.self) (sym c.rotate.ensures)
    (subst (λ t. IsSound s.max_len c.saturating_add-self-inside.result t turned_ring) (sym c.put-2.ensures) put)

pub returns-clause-answer : goal.returns-clause-answer
returns-clause-answer c =
    let a = (goal.at.returns-clause-answer c).After-get-state in
    let deficit = ap (λ k. k.deficit) (read a) in
    sym (answer_is a ∙ ap (λ (t : Bool). if t then Send else Granted)
    (lt-leb c.args.head_len (state_of (front_name a) c.self.inside.table).deficit
    (omega (arith, deficit, c.from-head_len.ensures, c.if-head_len-state.false))))

pub returns-clause-after : goal.returns-clause-after
returns-clause-after c =
    let s = c.self.inside in
    let a = (goal.at.returns-clause-after c).After-get-state in
    let deficit = ap (λ k. k.deficit) (read a) in
    let quantum = ap (λ k. k.quantum) (read a) in
    let r = c.get-state.result in
    let new : ClassState = record { quantum = r.quantum; deficit = r.deficit + c.from-quantum.result; granted = c.saturating_add.result } in
    let t = set s.table c.in-Some.place (named (front_name a) new) in
    ap (λ t. shown s.max_len c.saturating_add-self-inside.result t (names_in t c.rotate.new.self.order)) c.put-2.ensures
    ∙ ap (λ x. shown s.max_len c.saturating_add-self-inside.result t (names_in t x.order)) c.rotate.ensures
    ∙ ap (λ k. shown s.max_len k t (names_in t (drop 1 s.ring.order ++ take 1 s.ring.order))) c.saturating_add-self-inside.ensures
    ∙ shown_granted s.max_len s.turns s.table s.ring c.self.invariant c.in-Some.place c.args.head_len new (first a)
    (omega (arith, deficit, c.from-head_len.ensures, c.if-head_len-state.false)) quantum (omega (arith, deficit, quantum, c.from-quantum.ensures))
    (c.saturating_add.ensures ∙ ap (λ k. counted k) (omega (arith, ap (λ k. k.granted) (read a), quantum, c.from-quantum.ensures)))
    ∙ ap (turned c.args.head_len) c.self.view_is

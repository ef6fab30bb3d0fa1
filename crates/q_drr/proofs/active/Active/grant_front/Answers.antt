use Rattle.std.proofs.Common.{◌≡◌, ◌+◌, ◌*◌, ◌<◌, ◌++◌, ℕ, take, drop, set, Some, sym, ap, ◌∙◌, subst, arith}
use Rattle.std.specs.Prelude.{slice_get}
use Rattle.q_drr.specs.declared.class_table.ClassState.{ClassState}
use Rattle.q_drr.specs.Links.{Circle}
use Rattle.q_drr.specs.States.{named, names_in, name_in, kept_of, state_of}
use Rattle.q_drr.specs.Schedule.{counted}
use Rattle.q_drr.specs.Rounds.{front_given, IsFrontWithin}
use Rattle.q_drr.specs.Kept.{shown, IsSound, IsState}
use Rattle.q_drr.proofs.StateLemmas.{Stands}
use Rattle.q_drr.proofs.SoundLemmas.{stands_front, state_at, fits, small, sound_put, sound_rotated, within_front, shown_passed}
use Rattle.q_drr.proofs.active.Active.grant_front.Goals.{After-from}
use Rattle.q_drr.proofs.active.Active.grant_front.Goals as goal

first : (c : After-from) → slice_get c.self.inside.ring.order 0 ≡ Some c.in-Some.place
first c = sym c.in-Some.ensures

abbrev front_name : After-from → ℕ
front_name c = name_in c.self.inside.table c.in-Some.place

stands : (c : After-from) → Stands c.in-Some.place (front_name c) c.self.inside.table
stands c = let s = c.self.inside in stands_front s.max_len s.turns s.table s.ring c.self.invariant c.in-Some.place (first c)

read : (c : After-from) → c.get-state.result ≡ kept_of (state_of (front_name c) c.self.inside.table)
read c = let s = c.self.inside in state_at s.max_len s.turns s.table s.ring c.self.invariant c.in-Some.place (front_name c) _ (stands c) c.get-state.ensures

-- what is granted
product : (c : After-from) → c.args.grants * c.from.result ≡ c.args.grants * (state_of (front_name c) c.self.inside.table).quantum
product c = ap (λ (q : ℕ). c.args.grants * q) (c.from.ensures ∙ ap (λ (k : ClassState). k.quantum) (read c))

bounded : (c : After-from) → c.get-state.result.deficit + c.args.grants * c.from.result < c.get-state.result.quantum + c.self.inside.max_len
bounded c =
    let s = c.self.inside in
    let can : IsFrontWithin c.args.grants (shown s.max_len s.turns s.table (names_in s.table s.ring.order)) = subst (IsFrontWithin c.args.grants) (sym c.self.view_is) c.requires.within in
    omega (arith, within_front s.max_len s.turns s.table s.ring c.self.invariant c.in-Some.place c.args.grants (first c) can, product c, ap (λ (k : ClassState). k.quantum) (read c), ap (λ (k : ClassState). k.deficit) (read c))

pub overflow_mul-bytes : goal.overflow_mul-bytes
overflow_mul-bytes c = let b = bounded (goal.at.overflow_mul-bytes c).After-from in omega (arith, b, c.from.ensures)

pub overflow_add-state : goal.overflow_add-state
overflow_add-state c = let b = bounded (goal.at.overflow_add-state c).After-from in omega (arith, b, c.from.ensures)

pub put-requires : goal.put-requires
put-requires c = (stands (goal.at.put-requires c).After-from).within

pub invariant_of-self : goal.invariant_of-self
invariant_of-self c =
    let s = c.self.inside in
    let a = (goal.at.invariant_of-self c).After-from in
    let r = c.get-state.result in
    let old = fits s.max_len s.turns s.table s.ring c.self.invariant (front_name a) (stands a).there in
    let new : ClassState = record { quantum = r.quantum; deficit = r.deficit + c.args.grants * c.from.result; granted = c.saturating_add.result } in
    let p : IsState s.max_len (named (front_name a) new) = record {
      small_name = small s.max_len s.turns s.table s.ring c.self.invariant c.in-Some.place (front_name a) (stands a);
      at_least_one = omega (arith, old.at_least_one, ap (λ (k : ClassState). k.quantum) (read a));
      bounded = bounded a;
      in_range = omega (arith, c.saturating_add.ensures);
    } in
    let turned_ring : Circle = record s.ring { order = drop 1 s.ring.order ++ take 1 s.ring.order } in
    let put =
    sound_put s.max_len s.turns s.table turned_ring (sound_rotated s.max_len s.turns s.table s.ring c.self.invariant) c.in-Some.place
    (front_name a) c.saturating_add-self-inside.result new (stands a) p (omega (arith, c.saturating_add-self-inside.ensures)) in
    subst (IsSound s.max_len c.saturating_add-self-inside.result c.put.new.self) (sym c.rotate.ensures)
    (subst (λ t. IsSound s.max_len c.saturating_add-self-inside.result t turned_ring) (sym c.put.ensures) put)

pub returns : goal.returns
returns c =
    let s = c.self.inside in
    let a = (goal.at.returns c).After-from in
    let r = c.get-state.result in
    let deficit = ap (λ (k : ClassState). k.deficit) (read a) in
    let quantum = ap (λ (k : ClassState). k.quantum) (read a) in
    let new : ClassState = record { quantum = r.quantum; deficit = r.deficit + c.args.grants * c.from.result; granted = c.saturating_add.result } in
    let t = set s.table c.in-Some.place (named (front_name a) new) in
    ap (λ t. shown s.max_len c.saturating_add-self-inside.result t (names_in t c.rotate.new.self.order)) c.put.ensures
    ∙ ap (λ x. shown s.max_len c.saturating_add-self-inside.result t (names_in t x.order)) c.rotate.ensures
    ∙ ap (λ k. shown s.max_len k t (names_in t (drop 1 s.ring.order ++ take 1 s.ring.order))) c.saturating_add-self-inside.ensures
    ∙ shown_passed s.max_len s.turns s.table s.ring c.self.invariant c.in-Some.place c.args.grants new (first a)
    quantum (omega (arith, deficit, product a))
    (c.saturating_add.ensures ∙ ap (λ k. counted k) (omega (arith, ap (λ (k : ClassState). k.granted) (read a), product a)))
    ∙ ap (front_given c.args.grants) c.self.view_is

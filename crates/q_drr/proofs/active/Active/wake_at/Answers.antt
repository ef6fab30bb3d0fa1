use Rattle.std.proofs.Common.{◌≡◌, ◌<◌, ℕ, [], ◌∷◌, ◌++◌, length, set, refl, sym, ap, ◌∙◌, subst, arith}
use Rattle.std.proofs.lemmas.List.{length-map}
use Rattle.q_drr.specs.declared.class_table.ClassState.{ClassState}
use Rattle.q_drr.specs.Links.{Circle}
use Rattle.q_drr.specs.States.{named, names_in, name_in, kept_of, state_of, class_in}
use Rattle.q_drr.specs.Schedule.{woken, is_active}
use Rattle.q_drr.specs.Kept.{shown, IsSound, IsState}
use Rattle.q_drr.proofs.ScheduleLemmas.{active_in, awake_stays}
use Rattle.q_drr.proofs.SoundLemmas.{stands_at, stands_named, among, state_at, fits, small, sound_pushed, sound_put, shown_woken}
use Rattle.q_drr.proofs.active.Active.wake_at.Goals as goal

pub returns-then-contains : goal.returns-then-contains
returns-then-contains c = λ class so.
    let s = c.self.inside in
    let stands = stands_named s.max_len s.turns s.table s.ring c.self.invariant c.args.self.now class c.args.place c.self.view_is so in
    awake_stays c.args.self.now class
    (ap (λ v. is_active class v.active) (sym c.self.view_is) ∙ active_in class s.table (names_in s.table s.ring.order)
    ∙ among s.max_len s.turns s.table s.ring c.self.invariant c.args.place class stands ∙ sym c.if-contains.ensures)

pub invariant_of-self : goal.invariant_of-self
invariant_of-self c =
    let s = c.self.inside in
    let n : ℕ = name_in s.table c.args.place in
    let within : c.args.place < length s.table = omega (arith, c.requires, length-map s.table class_in, ap (λ v. length v.classes) c.self.view_is) in
    let stands = stands_at s.max_len s.turns s.table s.ring c.self.invariant c.args.place within in
    let read : c.get-state.result ≡ kept_of (state_of n s.table) = state_at s.max_len s.turns s.table s.ring c.self.invariant c.args.place n _ stands c.get-state.ensures in
    let old = fits s.max_len s.turns s.table s.ring c.self.invariant n stands.there in
    let new : ClassState = record { quantum = c.get-state.result.quantum; deficit = c.from.result; granted = 0 } in
    let kept : IsState s.max_len (named n new) = record {
      small_name = small s.max_len s.turns s.table s.ring c.self.invariant c.args.place n stands;
      at_least_one = omega (arith, old.at_least_one, ap (λ k. k.quantum) read);
      bounded = omega (arith, c.from.ensures, c.self.invariant.kept.positive);
      in_range = omega arith;
    } in
    let more : Circle = record s.ring { order = s.ring.order ++ c.args.place ∷ [] } in
    let pushed = sound_pushed s.max_len s.turns s.table s.ring c.self.invariant c.args.place n stands (sym c.if-contains.ensures) in
    let put = sound_put s.max_len s.turns s.table more pushed c.args.place n s.turns new stands kept c.self.invariant.counted_turns in
    subst (λ r. IsSound s.max_len s.turns c.put.new.self r) (sym c.push.ensures) (subst (λ t. IsSound s.max_len s.turns t more) (sym c.put.ensures) put)

pub returns : goal.returns
returns c = λ class so.
    let s = c.self.inside in
    let place = c.args.place in
    let stands = stands_named s.max_len s.turns s.table s.ring c.self.invariant c.args.self.now class place c.self.view_is so in
    let read : c.get-state.result ≡ kept_of (state_of class s.table) = state_at s.max_len s.turns s.table s.ring c.self.invariant place class _ stands c.get-state.ensures in
    let quantum = ap (λ k. k.quantum) read in
    let new : ClassState = record { quantum = c.get-state.result.quantum; deficit = c.from.result; granted = 0 } in
    ap (λ t. shown s.max_len s.turns t (names_in t c.push.new.self.order)) c.put.ensures
    ∙ ap (λ r. let t = set s.table place (named (name_in s.table place) new) in shown s.max_len s.turns t (names_in t r.order)) c.push.ensures
    ∙ shown_woken s.max_len s.turns s.table s.ring c.self.invariant place class new stands (sym c.if-contains.ensures) quantum (c.from.ensures ∙ quantum) refl
    ∙ ap (woken class) c.self.view_is

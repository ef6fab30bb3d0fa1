use Rattle.std.proofs.Common.{◌≡◌, refl, sym, ap, ◌∙◌, subst, arith}
use Rattle.q_drr.specs.declared.class_table.ClassState.{ClassState}
use Rattle.q_drr.specs.States.{named, names_in, kept_of, state_of}
use Rattle.q_drr.specs.Schedule.{with_quantum}
use Rattle.q_drr.specs.Kept.{shown, IsSound, IsState}
use Rattle.q_drr.proofs.ScheduleLemmas.{there_of}
use Rattle.q_drr.proofs.SoundLemmas.{stands_found, state_at, fits, small, sound_put, shown_requantized}
use Rattle.q_drr.proofs.active.Active.set_quantum.Goals as goal

pub find-place-requires : goal.find-place-requires
find-place-requires c = there_of _ _ _ _ _ c.args.class c.self.view_is c.requires.there

pub invariant_of-self : goal.invariant_of-self
invariant_of-self c =
    let s = c.self.inside in
    let n = c.args.class in
    let stands = stands_found s.max_len s.turns s.table s.ring c.self.invariant c.args.class c.find-place.result c.find-place.ensures in
    let read : c.get-state.result ≡ kept_of (state_of n s.table) = state_at s.max_len s.turns s.table s.ring c.self.invariant c.find-place.result n _ stands c.get-state.ensures in
    let old = fits s.max_len s.turns s.table s.ring c.self.invariant n stands.there in
    let new : ClassState = record { quantum = c.args.quantum; deficit = c.min.result; granted = c.get-state.result.granted } in
    let kept : IsState s.max_len (named n new) = record {
      small_name = small s.max_len s.turns s.table s.ring c.self.invariant c.find-place.result n stands;
      at_least_one = c.requires.positive;
      bounded = omega (arith, c.min.ensures, c.from.ensures, c.from-2.ensures, c.requires.positive);
      in_range = omega (arith, old.in_range, ap (λ k. k.granted) read);
    } in
    subst (λ t. IsSound s.max_len s.turns t s.ring) (sym c.put.ensures)
    (sound_put s.max_len s.turns s.table s.ring c.self.invariant c.find-place.result n s.turns new stands kept c.self.invariant.counted_turns)

pub returns : goal.returns
returns c =
    let s = c.self.inside in
    let n = c.args.class in
    let stands = stands_found s.max_len s.turns s.table s.ring c.self.invariant c.args.class c.find-place.result c.find-place.ensures in
    let read : c.get-state.result ≡ kept_of (state_of n s.table) = state_at s.max_len s.turns s.table s.ring c.self.invariant c.find-place.result n _ stands c.get-state.ensures in
    ap (λ t. shown s.max_len s.turns t (names_in t s.ring.order)) c.put.ensures
    ∙ shown_requantized s.max_len s.turns s.table s.ring c.self.invariant c.find-place.result n c.args.quantum _ stands refl
    (omega (arith, c.min.ensures, c.from.ensures, c.from-2.ensures, ap (λ k. k.deficit) read)) (ap (λ k. k.granted) read)
    ∙ ap (with_quantum n c.args.quantum) c.self.view_is

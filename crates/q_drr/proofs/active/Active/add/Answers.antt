use Rattle.std.proofs.Common.{◌≡◌, ◌++◌, ◌∷◌, [], false, sym, ap, ◌∙◌, subst, arith}
use Rattle.q_drr.specs.declared.class_table.ClassState.{ClassState}
use Rattle.q_drr.specs.States.{named, names_in, has_state}
use Rattle.q_drr.specs.Schedule.{has_class, added}
use Rattle.q_drr.specs.Kept.{shown, IsSound, IsState}
use Rattle.q_drr.proofs.ScheduleLemmas.{has_class_in}
use Rattle.q_drr.proofs.SoundLemmas.{spare, sound_roomier, sound_added, shown_added}
use Rattle.q_drr.proofs.active.Active.add.Goals as goal

pub reserve-requires : goal.reserve-requires
reserve-requires c =
    let s = c.self.inside in
    let absent : has_state c.args.class s.table ≡ false = sym (has_class_in c.args.class s.table) ∙ ap (λ v. has_class c.args.class v.classes) c.self.view_is ∙ c.requires.fresh in
    let few = spare s.max_len s.turns s.table s.ring c.self.invariant c.args.class (omega arith) absent in
    omega (arith, few, c.count.ensures)

pub add-requires : goal.add-requires
add-requires c = sym (has_class_in c.args.class c.self.inside.table) ∙ ap (λ v. has_class c.args.class v.classes) c.self.view_is ∙ c.requires.fresh

pub invariant_of-self-2 : goal.invariant_of-self-2
invariant_of-self-2 c =
    let s = c.self.inside in
    let absent : has_state c.args.class s.table ≡ false = sym (has_class_in c.args.class s.table) ∙ ap (λ v. has_class c.args.class v.classes) c.self.view_is ∙ c.requires.fresh in
    let new : ClassState = record { quantum = c.args.quantum; deficit = 0; granted = 0 } in
    let fits : IsState s.max_len (named c.args.class new) = record {
      small_name = omega arith;
      at_least_one = c.requires.positive;
      bounded = omega (arith, c.requires.positive);
      in_range = omega arith;
    } in
    let roomier = sound_roomier s.max_len s.turns s.table s.ring c.self.invariant c.reserve.new.self c.in_ok-reserve.ensures.order c.in_ok-reserve.ensures.grows in
    subst (λ t. IsSound s.max_len s.turns t c.reserve.new.self) (sym c.in_ok-add.ensures.ok)
    (sound_added s.max_len s.turns s.table c.reserve.new.self roomier c.args.class new absent fits (omega (arith, c.count.ensures, c.in_ok-reserve.ensures.ok)))

pub returns-clause-ok : goal.returns-clause-ok
returns-clause-ok c =
    let s = c.self.inside in
    let new : ClassState = record { quantum = c.args.quantum; deficit = 0; granted = 0 } in
    ap (λ t. shown s.max_len s.turns t (names_in t c.reserve.new.self.order)) c.in_ok-add.ensures.ok
    ∙ ap (λ order. let t = s.table ++ named c.args.class new ∷ [] in shown s.max_len s.turns t (names_in t order)) c.in_ok-reserve.ensures.order
    ∙ shown_added s.max_len s.turns s.table s.ring c.self.invariant c.args.class new
    ∙ ap (added c.args.class c.args.quantum) c.self.view_is

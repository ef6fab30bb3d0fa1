use Rattle.std.proofs.Common.{sym, ap, ◌∙◌}
use Rattle.q_drr.specs.Schedule.{granted_of}
use Rattle.q_drr.specs.States.{names_in}
use Rattle.q_drr.proofs.ScheduleLemmas.{there_of, granted_in, granted_asleep}
use Rattle.q_drr.proofs.SoundLemmas.{stands_found, state_at, among}
use Rattle.q_drr.proofs.active.Active.granted.Goals as goal

pub find-place-requires : goal.find-place-requires
find-place-requires c = there_of _ _ _ _ _ c.args.class c.self.view_is c.requires

pub returns-then-contains : goal.returns-then-contains
returns-then-contains c =
    let s = c.self.inside in
    let stands = stands_found s.max_len s.turns s.table s.ring c.self.invariant c.args.class c.find-place.result c.find-place.ensures in
    ap (λ k. k.granted) (state_at s.max_len s.turns s.table s.ring c.self.invariant c.find-place.result c.args.class _ stands c.get.ensures)
    ∙ sym (granted_in c.args.class s.table (names_in s.table s.ring.order)
    (among s.max_len s.turns s.table s.ring c.self.invariant c.find-place.result c.args.class stands ∙ sym c.if-contains.ensures))
    ∙ ap (λ v. granted_of c.args.class v.active) c.self.view_is

pub returns-else-contains : goal.returns-else-contains
returns-else-contains c =
    let s = c.self.inside in
    let stands = stands_found s.max_len s.turns s.table s.ring c.self.invariant c.args.class c.find-place.result c.find-place.ensures in
    sym (granted_asleep c.args.class s.table (names_in s.table s.ring.order)
    (among s.max_len s.turns s.table s.ring c.self.invariant c.find-place.result c.args.class stands ∙ sym c.if-contains.ensures))
    ∙ ap (λ v. granted_of c.args.class v.active) c.self.view_is

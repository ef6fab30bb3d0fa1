use Rattle.std.proofs.Common.{sym, ap, ◌∙◌, arith}
use Rattle.q_drr.specs.Schedule.{deficit_of, quantum_of}
use Rattle.q_drr.specs.States.{names_in}
use Rattle.q_drr.proofs.ScheduleLemmas.{there_of, quantum_in, deficit_in, deficit_asleep}
use Rattle.q_drr.proofs.SoundLemmas.{stands_found, state_at, among, fits}
use Rattle.q_drr.proofs.active.Active.deficit.Goals as goal

pub find-place-requires : goal.find-place-requires
find-place-requires c = there_of _ _ _ _ _ c.args.class c.self.view_is c.requires

pub returns-then-contains-clause-value : goal.returns-then-contains-clause-value
returns-then-contains-clause-value c =
    let s = c.self.inside in
    let stands = stands_found s.max_len s.turns s.table s.ring c.self.invariant c.args.class c.find-place.result c.find-place.ensures in
    ap (λ k. k.deficit) (state_at s.max_len s.turns s.table s.ring c.self.invariant c.find-place.result c.args.class _ stands c.get.ensures)
    ∙ sym (deficit_in c.args.class s.table (names_in s.table s.ring.order)
    (among s.max_len s.turns s.table s.ring c.self.invariant c.find-place.result c.args.class stands ∙ sym c.if-contains.ensures))
    ∙ ap (λ v. deficit_of c.args.class v.active) c.self.view_is

pub returns-then-contains-clause-bound : goal.returns-then-contains-clause-bound
returns-then-contains-clause-bound c =
    let s = c.self.inside in
    let stands = stands_found s.max_len s.turns s.table s.ring c.self.invariant c.args.class c.find-place.result c.find-place.ensures in
    let kept = fits s.max_len s.turns s.table s.ring c.self.invariant c.args.class stands.there in
    let read = ap (λ k. k.deficit) (state_at s.max_len s.turns s.table s.ring c.self.invariant c.find-place.result c.args.class _ stands c.get.ensures) in
    omega (arith, kept.bounded, read, quantum_in c.args.class s.table, ap (λ v. quantum_of c.args.class v.classes) c.self.view_is, ap (λ v. v.max_len) c.self.view_is)

pub returns-else-contains-clause-value : goal.returns-else-contains-clause-value
returns-else-contains-clause-value c =
    let s = c.self.inside in
    let stands = stands_found s.max_len s.turns s.table s.ring c.self.invariant c.args.class c.find-place.result c.find-place.ensures in
    sym (deficit_asleep c.args.class s.table (names_in s.table s.ring.order)
    (among s.max_len s.turns s.table s.ring c.self.invariant c.find-place.result c.args.class stands ∙ sym c.if-contains.ensures))
    ∙ ap (λ v. deficit_of c.args.class v.active) c.self.view_is

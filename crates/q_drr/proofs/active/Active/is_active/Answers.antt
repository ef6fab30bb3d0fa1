use Rattle.std.proofs.Common.{sym, ap, ◌∙◌}
use Rattle.q_drr.specs.Schedule.{is_active}
use Rattle.q_drr.specs.States.{names_in}
use Rattle.q_drr.proofs.ScheduleLemmas.{there_of, active_in}
use Rattle.q_drr.proofs.SoundLemmas.{stands_found, among}
use Rattle.q_drr.proofs.active.Active.is_active.Goals as goal

pub find-requires : goal.find-requires
find-requires c = there_of _ _ _ _ _ c.args.class c.self.view_is c.requires

pub returns : goal.returns
returns c =
    let s = c.self.inside in
    let stands = stands_found s.max_len s.turns s.table s.ring c.self.invariant c.args.class c.find.result c.find.ensures in
    c.contains.ensures ∙ sym (among s.max_len s.turns s.table s.ring c.self.invariant c.find.result c.args.class stands)
    ∙ sym (active_in c.args.class s.table (names_in s.table s.ring.order)) ∙ ap (λ v. is_active c.args.class v.active) c.self.view_is

use Rattle.std.proofs.Common.{sym, ap, ◌∙◌}
use Rattle.q_drr.specs.Schedule.{quantum_of}
use Rattle.q_drr.proofs.ScheduleLemmas.{there_of, quantum_in}
use Rattle.q_drr.proofs.SoundLemmas.{stands_found, state_at}
use Rattle.q_drr.proofs.active.Active.quantum.Goals as goal

pub find-requires : goal.find-requires
find-requires c = there_of _ _ _ _ _ c.args.class c.self.view_is c.requires

pub returns : goal.returns
returns c =
    let s = c.self.inside in
    let stands = stands_found s.max_len s.turns s.table s.ring c.self.invariant c.args.class c.find.result c.find.ensures in
    ap (λ k. k.quantum) (state_at s.max_len s.turns s.table s.ring c.self.invariant c.find.result c.args.class _ stands c.get.ensures)
    ∙ sym (quantum_in c.args.class s.table) ∙ ap (λ v. quantum_of c.args.class v.classes) c.self.view_is

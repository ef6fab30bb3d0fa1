use Rattle.std.proofs.Common.{sym, ap, ◌∙◌}
use Rattle.q_drr.specs.Schedule.{place_of}
use Rattle.q_drr.proofs.ScheduleLemmas.{place_in}
use Rattle.q_drr.proofs.SoundLemmas.{lawful}
use Rattle.q_drr.proofs.active.Active.place_of.Goals as goal

pub returns-clause-value : goal.returns-clause-value
returns-clause-value c = c.place_of.ensures ∙ sym (place_in c.args.class c.self.inside.table) ∙ ap (λ v. place_of c.args.class v.classes) c.self.view_is

pub returns-clause-lawful : goal.returns-clause-lawful
returns-clause-lawful c = let s = c.self.inside in lawful s.max_len s.turns s.table s.ring c.self.invariant c.args.self.now c.self.view_is

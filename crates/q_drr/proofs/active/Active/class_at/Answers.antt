use Rattle.q_drr.proofs.SoundLemmas.{lawful}
use Rattle.q_drr.proofs.active.Active.class_at.Goals as goal

pub returns-clause-lawful : goal.returns-clause-lawful
returns-clause-lawful c = let s = c.self.inside in lawful s.max_len s.turns s.table s.ring c.self.invariant c.args.self.now c.self.view_is

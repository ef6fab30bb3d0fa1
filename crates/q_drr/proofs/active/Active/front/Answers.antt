use Rattle.std.proofs.Common.{sym, ◌∙◌}
use Rattle.q_drr.proofs.SoundLemmas.{lawful, front_name}
use Rattle.q_drr.proofs.active.Active.front.Goals as goal

pub returns-in_err-front-clause-lawful : goal.returns-in_err-front-clause-lawful
returns-in_err-front-clause-lawful c = let s = c.self.inside in lawful s.max_len s.turns s.table s.ring c.self.invariant c.args.self.now c.self.view_is

pub returns-clause-front : goal.returns-clause-front
returns-clause-front c =
    let s = c.self.inside in
    c.name_at.ensures ∙ front_name s.max_len s.turns s.table s.ring c.self.invariant c.args.self.now c.in_ok-front.field-0 c.self.view_is (sym c.front.ensures ∙ c.in_ok-front.was)

pub returns-clause-lawful : goal.returns-clause-lawful
returns-clause-lawful c = let s = c.self.inside in lawful s.max_len s.turns s.table s.ring c.self.invariant c.args.self.now c.self.view_is

use Rattle.q_drr.proofs.ServedLemmas.{least_need_is_met, chosen_is_met}
use Rattle.q_drr.proofs.laws.least_need_is_met.Goals as goal

pub returns-clause-least : goal.returns-clause-least
returns-clause-least c = least_need_is_met

pub returns-clause-met : goal.returns-clause-met
returns-clause-met c = chosen_is_met

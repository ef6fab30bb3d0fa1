use Rattle.q_drr.proofs.StretchLemmas.{grants_are_counted, turns_are_counted}
use Rattle.q_drr.proofs.laws.grants_are_counted.Goals as goal

pub returns-clause-granted : goal.returns-clause-granted
returns-clause-granted c = grants_are_counted

pub returns-clause-turns : goal.returns-clause-turns
returns-clause-turns c = turns_are_counted

use Rattle.q_drr.proofs.ServedLemmas.{turns_grant_where_short, takes_grant_where_short}
use Rattle.q_drr.proofs.laws.grants_come_where_short.Goals as goal

pub returns-clause-turn : goal.returns-clause-turn
returns-clause-turn c = turns_grant_where_short

pub returns-clause-take : goal.returns-clause-take
returns-clause-take c = takes_grant_where_short

use Rattle.q_drr.proofs.FairLemmas.{shares_are_fair}
use Rattle.q_drr.proofs.laws.shares_are_fair.Goals as goal

pub returns : goal.returns
returns c = shares_are_fair

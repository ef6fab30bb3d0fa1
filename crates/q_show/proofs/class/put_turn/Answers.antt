use Rattle.q_show.proofs.Chains.{two_put}
use Rattle.q_show.proofs.class.put_turn.Goals as goal

pub returns-in-Some-clause-text : goal.returns-in-Some-clause-text
returns-in-Some-clause-text c = rw c.in-Some.is (two_put _ _ _ _ _ c.put.ensures.text c.put_setting.ensures.text)

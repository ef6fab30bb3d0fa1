use Rattle.q_codel.proofs.TakeLaws.{count_is_resumed_holds}
use Rattle.q_codel.proofs.laws.count_is_resumed.Goals as goal

pub returns : goal.returns
returns c = count_is_resumed_holds

use Rattle.q_codel.proofs.TakeLaws.{empty_queue_rests_holds}
use Rattle.q_codel.proofs.laws.empty_queue_rests.Goals as goal

pub returns : goal.returns
returns c = empty_queue_rests_holds

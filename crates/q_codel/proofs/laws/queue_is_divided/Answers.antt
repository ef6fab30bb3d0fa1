use Rattle.q_codel.proofs.TakeLaws.{queue_is_divided_holds}
use Rattle.q_codel.proofs.laws.queue_is_divided.Goals as goal

pub returns : goal.returns
returns c = queue_is_divided_holds

use Rattle.q_codel.proofs.TakeLaws.{one_drop_begins_holds}
use Rattle.q_codel.proofs.laws.one_drop_begins.Goals as goal

pub returns : goal.returns
returns c = one_drop_begins_holds

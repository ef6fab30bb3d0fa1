use Rattle.q_codel.proofs.TakeLaws.{one_mtu_left_holds}
use Rattle.q_codel.proofs.laws.one_mtu_left.Goals as goal

pub returns : goal.returns
returns c = one_mtu_left_holds

use Rattle.q_codel.proofs.Promises.{last_packet_stays_holds}
use Rattle.q_codel.proofs.laws.last_packet_stays.Goals as goal

pub returns : goal.returns
returns c = last_packet_stays_holds

use Rattle.q_codel.proofs.RangeLaw.{states_stay_in_range_holds}
use Rattle.q_codel.proofs.laws.states_stay_in_range.Goals as goal

pub returns : goal.returns
returns c = states_stay_in_range_holds

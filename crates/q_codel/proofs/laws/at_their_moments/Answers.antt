use Rattle.q_codel.proofs.Promises.{at_their_moments_holds}
use Rattle.q_codel.proofs.laws.at_their_moments.Goals as goal

pub returns : goal.returns
returns c = at_their_moments_holds

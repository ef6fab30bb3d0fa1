use Rattle.q_codel.proofs.Promises.{marks_in_place_of_drops_holds}
use Rattle.q_codel.proofs.laws.marks_in_place_of_drops.Goals as goal

pub returns : goal.returns
returns c = marks_in_place_of_drops_holds

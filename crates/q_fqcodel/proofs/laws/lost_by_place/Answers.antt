use Rattle.q_fqcodel.proofs.LostLemmas.{lost_by_place}
use Rattle.q_fqcodel.proofs.laws.lost_by_place.Goals as goal

pub returns : goal.returns
returns c = lost_by_place

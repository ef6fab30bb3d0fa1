use Rattle.q_fqcodel.proofs.LostLemmas.{lost_is_last}
use Rattle.q_fqcodel.proofs.laws.lost_is_last.Goals as goal

pub returns : goal.returns
returns c = lost_is_last

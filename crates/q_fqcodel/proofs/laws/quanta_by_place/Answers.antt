use Rattle.q_fqcodel.proofs.GivenLemmas.{quanta_by_place}
use Rattle.q_fqcodel.proofs.laws.quanta_by_place.Goals as goal

pub returns : goal.returns
returns c = quanta_by_place

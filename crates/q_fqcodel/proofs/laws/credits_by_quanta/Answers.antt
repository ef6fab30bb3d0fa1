use Rattle.q_fqcodel.proofs.GivenLemmas.{credits_by_quanta}
use Rattle.q_fqcodel.proofs.laws.credits_by_quanta.Goals as goal

pub returns : goal.returns
returns c = credits_by_quanta

use Rattle.q_fqcodel.proofs.GivenLemmas.{grants_are_some}
use Rattle.q_fqcodel.proofs.laws.grants_are_some.Goals as goal

pub returns : goal.returns
returns c = grants_are_some

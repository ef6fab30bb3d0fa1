use Rattle.q_fqcodel.proofs.OrderLemmas.{quanta_are_even}
use Rattle.q_fqcodel.proofs.laws.quanta_are_even.Goals as goal

pub returns : goal.returns
returns c = quanta_are_even

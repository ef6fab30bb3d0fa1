use Rattle.q_fqcodel.proofs.KeptLemmas.{take_keeps_lawful}
use Rattle.q_fqcodel.proofs.laws.take_keeps_lawful.Goals as goal

pub returns : goal.returns
returns c = take_keeps_lawful

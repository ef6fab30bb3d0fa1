use Rattle.q_fqcodel.proofs.NewFlowLemmas.{becomes_new}
use Rattle.q_fqcodel.proofs.laws.becomes_new.Goals as goal

pub returns : goal.returns
returns c = becomes_new

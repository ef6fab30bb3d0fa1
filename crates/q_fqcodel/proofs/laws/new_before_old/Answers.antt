use Rattle.q_fqcodel.proofs.NewFlowLemmas.{new_before_old}
use Rattle.q_fqcodel.proofs.laws.new_before_old.Goals as goal

pub returns : goal.returns
returns c = new_before_old

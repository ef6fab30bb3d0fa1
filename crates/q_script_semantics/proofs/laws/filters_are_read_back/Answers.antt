use Rattle.q_script_semantics.proofs.FilterReadBack.{filters_read_back}
use Rattle.q_script_semantics.proofs.laws.filters_are_read_back.Goals as goal

pub returns : goal.returns
returns c = filters_read_back

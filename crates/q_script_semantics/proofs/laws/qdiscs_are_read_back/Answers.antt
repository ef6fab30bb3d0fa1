use Rattle.q_script_semantics.proofs.QdiscReadBack.{qdiscs_read_back}
use Rattle.q_script_semantics.proofs.laws.qdiscs_are_read_back.Goals as goal

pub returns : goal.returns
returns c = qdiscs_read_back

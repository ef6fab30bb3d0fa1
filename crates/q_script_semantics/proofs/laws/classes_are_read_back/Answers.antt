use Rattle.q_script_semantics.proofs.ReadBack.{classes_read_back}
use Rattle.q_script_semantics.proofs.laws.classes_are_read_back.Goals as goal

pub returns : goal.returns
returns c = classes_read_back

use Rattle.q_script_semantics.proofs.PrefixReadBack.{prefixes_read_back}
use Rattle.q_script_semantics.proofs.laws.prefixes_are_read_back.Goals as goal

pub returns : goal.returns
returns c = prefixes_read_back

use Rattle.q_line.proofs.OptionNames.{names_are_free}
use Rattle.q_line.proofs.laws.names_are_free.Goals as goal

pub returns : goal.returns
returns c = names_are_free

use Rattle.q_line.proofs.OptionNames.{options_stand_once}
use Rattle.q_line.proofs.laws.options_stand_once.Goals as goal

pub returns : goal.returns
returns c = options_stand_once

use Rattle.q_line.proofs.OptionOrder.{options_change_places}
use Rattle.q_line.proofs.laws.options_change_places.Goals as goal

pub returns : goal.returns
returns c = options_change_places

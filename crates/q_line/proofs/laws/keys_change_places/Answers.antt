use Rattle.q_line.proofs.KeyOrder.{keys_change_places}
use Rattle.q_line.proofs.laws.keys_change_places.Goals as goal

pub returns : goal.returns
returns c = keys_change_places

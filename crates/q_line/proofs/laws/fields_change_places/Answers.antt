use Rattle.q_line.proofs.PacketOrder.{fields_change_places}
use Rattle.q_line.proofs.laws.fields_change_places.Goals as goal

pub returns : goal.returns
returns c = fields_change_places

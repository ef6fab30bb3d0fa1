use Rattle.q_model.proofs.PacketFields.{packet-fields}
use Rattle.q_model.proofs.ranges.laws_take_every_packet.Goals as goal

pub returns : goal.returns
returns c = packet-fields

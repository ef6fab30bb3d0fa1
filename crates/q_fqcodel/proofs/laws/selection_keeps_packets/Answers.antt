use Rattle.q_fqcodel.proofs.KeptLemmas.{selection_keeps_packets}
use Rattle.q_fqcodel.proofs.laws.selection_keeps_packets.Goals as goal

pub returns : goal.returns
returns c = selection_keeps_packets

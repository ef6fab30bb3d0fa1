-- The two bits are set in byte 1.
use Rattle.std.proofs.Common.{ap, set, slice_index}
use Rattle.q_packet.specs.Marking.{marked_ipv6}
use Rattle.q_packet.proofs.MarkingLemmas.{set_four_and_five}
use Rattle.q_packet.proofs.marking.mark_ipv6.Goals as goal

pub returns : goal.returns
unfolding marked_ipv6
returns c = let packet = c.args.packet.now in ap (set packet 1) (set_four_and_five (slice_index packet 1))

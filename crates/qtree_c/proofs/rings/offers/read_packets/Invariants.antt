use Rattle.std.proofs.Common.{◌≡◌, length, map, take}
use Rattle.std.specs.Prelude.{All}
use Rattle.qtree_c.specs.abi.Structs.{IsPacket}
use Rattle.q_packet.specs.Stored.{descriptor}
use Rattle.qtree_c.proofs.rings.offers.read_packets.Given as goal

abbrev pub invariant-loop-at : goal.invariant-loop-at
invariant-loop-at l = record {
  long : length l.batch ≡ length l.initial.batch;
  read : take l.at l.batch ≡ map descriptor (take l.at l.packets);
  in_range : All IsPacket (take l.at l.packets);
}

use Rattle.std.proofs.Common.{◌≡◌, map}
use Rattle.std.specs.Prelude.{vec_len, vec_capacity}
use Rattle.q_ports.specs.Driven.{packets_of}
use Rattle.q_drive.specs.Loads.{AreLoads}
use Rattle.q_drive.proofs.loads.loads.Given as goal

abbrev pub invariant-loop-port : goal.invariant-loop-port
invariant-loop-port l = record {
  asked : AreLoads l.settings l.port (map packets_of l.loads.items);
  count : vec_len l.loads ≡ l.port;
  room : vec_capacity l.loads ≡ l.senders;
}

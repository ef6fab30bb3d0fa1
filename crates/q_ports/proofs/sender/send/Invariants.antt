use Rattle.std.proofs.Common.{◌≤◌, take, true}
use Rattle.q_ports.specs.Offered.{Offered}
use Rattle.q_ports.proofs.sender.send.Given as goal

abbrev pub invariant-loop-packet : goal.invariant-loop-packet
invariant-loop-packet g l = record {
  offered : Offered l.tries true l.fn.port (take l.packet-index l.packet-items) l.port l.given_up;
  few : l.given_up ≤ l.packet-index;
}

use Rattle.std.proofs.Common.{◌≡◌, ◌≤◌, ◌-◌}
use Rattle.q_ports.specs.Offered.{MayBeFull}
use Rattle.q_ports.proofs.sender.offer_one.Given as goal

abbrev pub invariant-loop-refused : goal.invariant-loop-refused
invariant-loop-refused g l = record {
  port : l.port ≡ l.initial.port;
  few : l.refused ≤ l.tries;
  full : 1 ≤ l.refused → MayBeFull l.initial.port l.packet;
}

abbrev pub decreases-loop-refused : goal.decreases-loop-refused
decreases-loop-refused g l = l.tries - l.refused

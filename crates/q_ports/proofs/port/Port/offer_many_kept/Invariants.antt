use Rattle.std.proofs.Common.{◌≡◌, ◌≤◌, ◌-◌, length, take}
use Rattle.std.specs.List.{fold}
use Rattle.q_ports.specs.Placed.{placing}
use Rattle.q_ports.proofs.port.Port.offer_many_kept.Given as goal

abbrev pub invariant-loop-placed : goal.invariant-loop-placed
invariant-loop-placed l = record {
  few : l.placed ≤ length l.packets;
  placed : l.self ≡ fold placing l.initial.self (take l.placed l.packets);
}

abbrev pub decreases-loop-placed : goal.decreases-loop-placed
decreases-loop-placed l = length l.packets - l.placed

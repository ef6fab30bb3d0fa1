use Rattle.std.proofs.Common.{◌≡◌, ◌≤◌, ℕ, List}
use Rattle.q_drive.specs.Drained.{IsPolledWhenReady, polls_left}
use Rattle.q_drive.proofs.draining.drain_until_idle.Given as goal

abbrev pub invariant-loop-at : goal.invariant-loop-at
invariant-loop-at l = record {
  polls : (moments : List ℕ) × IsPolledWhenReady moments l.initial.device l.device;
  arrived : l.device.device.tree.top.arrived ≡ l.initial.device.device.tree.top.arrived;
  packets : l.initial.device.device.tree.top.sent.packets ≤ l.device.device.tree.top.sent.packets;
  bytes : l.initial.device.device.tree.top.sent.bytes ≤ l.device.device.tree.top.sent.bytes;
}

abbrev pub decreases-loop-at : goal.decreases-loop-at
decreases-loop-at l = polls_left l.device

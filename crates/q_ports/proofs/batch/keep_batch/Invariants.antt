use Rattle.std.proofs.Common.{◌≡◌, length, take}
use Rattle.q_ports.proofs.batch.keep_batch.Given as goal

abbrev pub invariant-loop-at : goal.invariant-loop-at
invariant-loop-at l = record {
  long : length l.batch ≡ length l.initial.batch;
  kept : take l.at l.batch ≡ take l.at l.packets;
}

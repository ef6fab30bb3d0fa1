use Rattle.std.proofs.Common.{◌≡◌, ◌+◌, length, take}
use Rattle.q_ports.specs.Placed.{bytes_in, PortSeen}
use Rattle.q_ports.proofs.BatchLemmas.{AreWritten}
use Rattle.q_ports.proofs.batch.write_batch.Given as goal

abbrev pub invariant-loop-at : goal.invariant-loop-at
invariant-loop-at l = record {
  long : length l.batch ≡ length l.initial.batch;
  written : (v : PortSeen) → v.index ≡ l.index → length v.placed ≡ l.initial.share.packets → AreWritten v l.at l.packets l.batch;
  packets : l.share.packets ≡ l.initial.share.packets + l.at;
  bytes : l.share.bytes ≡ l.initial.share.bytes + bytes_in (take l.at l.batch);
}

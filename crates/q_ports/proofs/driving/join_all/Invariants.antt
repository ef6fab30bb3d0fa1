use Rattle.std.proofs.Common.{◌≡◌, ℕ, ◌≤◌, ◌+◌, length, drop, map}
use Rattle.std.specs.Prelude.{All, vec_len, vec_capacity}
use Rattle.std.specs.Vec.Iter.{into_iter_items}
use Rattle.q_ports.specs.Driven.{promised_load, promised_port, AllOffered, HasKept}
use Rattle.q_ports.proofs.driving.join_all.Given as goal

abbrev pub invariant-loop-sender : goal.invariant-loop-sender
invariant-loop-sender g l = record {
  each : (tries : ℕ) → All (HasKept tries) l.fn.started.items → AllOffered tries (map promised_port l.fn.started.items) (map promised_load l.fn.started.items) l.sent.items;
  left : drop (length l.sent.items) l.fn.started.items ≡ into_iter_items l.sender-iterator;
  kept : (tries : ℕ) → All (HasKept tries) l.fn.started.items → All (HasKept tries) (into_iter_items l.sender-iterator);
  count : length l.sent.items + length (into_iter_items l.sender-iterator) ≡ length l.fn.started.items;
  room : vec_len l.sent + length (into_iter_items l.sender-iterator) ≤ vec_capacity l.sent;
}

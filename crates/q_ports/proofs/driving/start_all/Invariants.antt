use Rattle.std.proofs.Common.{◌≡◌, ◌≤◌, ◌+◌, ◌++◌, length, map}
use Rattle.std.specs.Prelude.{All, vec_len, vec_capacity}
use Rattle.std.specs.Vec.Iter.{into_iter_items}
use Rattle.q_ports.specs.Driven.{packets_of, promised_load, promised_port, HasKept}
use Rattle.q_ports.proofs.driving.start_all.Given as goal

abbrev pub invariant-loop-port : goal.invariant-loop-port
invariant-loop-port g l = record {
  ports : map promised_port l.started.items ++ into_iter_items l.port-iterator ≡ l.fn.ports.items;
  loads : map promised_load l.started.items ++ map packets_of (into_iter_items l.loads) ≡ map packets_of l.fn.loads.items;
  kept : All (HasKept l.tries) l.started.items;
  same : length (into_iter_items l.loads) ≡ length (into_iter_items l.port-iterator);
  room : vec_len l.started + length (into_iter_items l.port-iterator) ≤ vec_capacity l.started;
}

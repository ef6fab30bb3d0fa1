use Rattle.std.proofs.Common.{◌≡◌, ◌≤◌, ◌+◌, ◌-◌, ◌^◌, ◌++◌, true, length, map, min}
use Rattle.std.specs.Prelude.{All, sum_by, vec_len, vec_capacity}
use Rattle.std.specs.Vec.Iter.{into_iter_items}
use Rattle.q_ports.specs.Driven.{port_in, rest_of, HasRun}
use Rattle.q_ports.proofs.driving.give_back.Given as goal

abbrev pub invariant-loop-sender : goal.invariant-loop-sender
invariant-loop-sender l = record {
  ports : l.back.items ++ map port_in (into_iter_items l.sender-iterator) ≡ map port_in l.fn.sent.items;
  rest : min (l.given_up + sum_by rest_of (into_iter_items l.sender-iterator)) (2 ^ 64 - 1) ≡ min (sum_by rest_of l.fn.sent.items) (2 ^ 64 - 1);
  ran : l.all_ran ≡ true → All HasRun (into_iter_items l.sender-iterator) → All HasRun l.fn.sent.items;
  small : l.given_up ≤ 2 ^ 64 - 1;
  room : vec_len l.back + length (into_iter_items l.sender-iterator) ≤ vec_capacity l.back;
}

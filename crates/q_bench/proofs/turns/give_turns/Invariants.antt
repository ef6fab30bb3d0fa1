use Rattle.std.proofs.Common.{◌≡◌}
use Rattle.q_bench.proofs.turns.give_turns.Given as goal

abbrev pub invariant-loop : goal.invariant-loop
invariant-loop l = l.active.max_len ≡ 1514

abbrev pub invariant-loop-len : goal.invariant-loop-len
invariant-loop-len l = l.active.max_len ≡ 1514

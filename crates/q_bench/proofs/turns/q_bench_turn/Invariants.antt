use Rattle.std.proofs.Common.{◌≡◌, ℕ, ◌≤◌, false}
use Rattle.q_drr.specs.Schedule.{has_class}
use Rattle.q_bench.proofs.turns.q_bench_turn.Given as goal

-- No class from this one on is there yet.
abbrev pub invariant-loop-class : goal.invariant-loop-class
invariant-loop-class l =
    (l.active.max_len ≡ 1514) ×
    ((c : ℕ) → l.class ≤ c → has_class c l.active.classes ≡ false)

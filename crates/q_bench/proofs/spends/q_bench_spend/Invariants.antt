use Rattle.std.proofs.Common.{◌≤◌}
use Rattle.q_bench.proofs.spends.q_bench_spend.Given as goal

-- No moment of the bucket is past the one that the loop has come to.
abbrev pub invariant-loop : goal.invariant-loop
invariant-loop l = l.bucket.last ≤ l.now

abbrev pub invariant-loop-spend : goal.invariant-loop-spend
invariant-loop-spend l = l.bucket.last ≤ l.now

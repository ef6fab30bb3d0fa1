use Rattle.std.proofs.Common.{◌≡◌, ◌≤◌, ◌+◌, drop, length}
use Rattle.q_tree.specs.filters.Matching.{before_taker}
use Rattle.q_tree.proofs.filters.matching.before_taker.Given as goal

-- of the filters from this place on it is known which is the first
abbrev pub invariant-loop-place : goal.invariant-loop-place
invariant-loop-place l = record {
  within : l.place ≤ length l.filters;
  found : l.first ≡ l.place + before_taker l.key (drop l.place l.filters);
}

abbrev pub decreases-loop-place : goal.decreases-loop-place
decreases-loop-place l = l.place

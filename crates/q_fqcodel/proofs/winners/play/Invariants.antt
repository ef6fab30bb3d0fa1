use Rattle.std.proofs.Common.{◌≡◌, ℕ, ◌+◌, ◌*◌, ◌<◌, ◌≤◌, max, length}
use Rattle.q_fqcodel.specs.Winners.{rank, rank_at}
use Rattle.q_fqcodel.proofs.winners.play.Given as goal

abbrev pub invariant-loop-node : goal.invariant-loop-node
invariant-loop-node l = record {
  past : l.flows ≤ l.node;
  high : l.node ≤ length l.ranks.items;
  len : length l.ranks.items ≡ length l.fn.ranks.items;
  leaves : (i : ℕ) → l.node ≤ l.flows + i → i < l.flows → rank_at l.ranks.items (l.flows + i) ≡ rank i 0;
}

abbrev pub decreases-loop-node : goal.decreases-loop-node
decreases-loop-node l = l.node

abbrev pub invariant-loop-node-2 : goal.invariant-loop-node-2
invariant-loop-node-2 l = record {
  low : l.node ≤ l.flows;
  len : length l.ranks.items ≡ length l.fn.ranks.items;
  leaves : (i : ℕ) → i < l.flows → rank_at l.ranks.items (l.flows + i) ≡ rank i 0;
  right : (k : ℕ) → l.node ≤ k → 1 ≤ k → k < l.flows → rank_at l.ranks.items k ≡ max (rank_at l.ranks.items (2 * k)) (rank_at l.ranks.items (2 * k + 1));
}

abbrev pub decreases-loop-node-2 : goal.decreases-loop-node-2
decreases-loop-node-2 l = l.node

use Rattle.std.proofs.Common.{◌≡◌, ◌≢◌, ◌+◌, ◌*◌, ◌/◌, ◌<◌, ◌≤◌, max, length, drop, set}
use Rattle.q_fqcodel.specs.Winners.{rank_at, above, IsRightBut}
use Rattle.q_fqcodel.proofs.winners.lower.Given as goal

-- The climb has come to this node: each other one is right, and `best` belongs there, or it is right as it is.
abbrev pub invariant-loop-ranks : goal.invariant-loop-ranks
invariant-loop-ranks l = record {
  high : l.node < length l.ranks;
  len : length l.ranks ≡ length l.fn.ranks;
  past : rank_at l.ranks 0 ≡ above;
  first : length l.fn.ranks / 2 ≤ l.node → (l.node ≡ l.fn.leaf) × (l.ranks ≡ l.fn.ranks) × (l.best ≡ l.fn.rank);
  leaves : l.node < length l.fn.ranks / 2 → drop (length l.fn.ranks / 2) l.ranks ≡ drop (length l.fn.ranks / 2) (set l.fn.ranks l.fn.leaf l.fn.rank);
  right : IsRightBut l.node l.ranks;
  best : l.node < length l.fn.ranks / 2 → l.best ≡ max (rank_at l.ranks (2 * l.node)) (rank_at l.ranks (2 * l.node + 1));
  fallen : rank_at l.ranks l.node ≡ l.old → l.best ≤ l.old;
  stays : rank_at l.ranks l.node ≢ l.old → 1 ≤ l.node → l.node < length l.fn.ranks / 2 → rank_at l.ranks l.node ≡ l.best;
}

abbrev pub decreases-loop-ranks : goal.decreases-loop-ranks
decreases-loop-ranks l = l.node

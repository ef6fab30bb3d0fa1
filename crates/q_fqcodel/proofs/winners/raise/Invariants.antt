use Rattle.std.proofs.Common.{◌≡◌, ◌+◌, ◌*◌, ◌/◌, ◌<◌, ◌≤◌, max, length, drop, set}
use Rattle.q_fqcodel.specs.Winners.{rank_at, above, IsRightBut}
use Rattle.q_fqcodel.proofs.winners.raise.Given as goal

-- Each node but this one is right, and this one where the rank stands there, or where it is less than what stands.
abbrev pub invariant-loop-ranks : goal.invariant-loop-ranks
invariant-loop-ranks l = record {
  low : l.node < length l.ranks / 2;
  len : length l.ranks ≡ length l.fn.ranks;
  past : rank_at l.ranks 0 ≡ above;
  leaves : drop (length l.fn.ranks / 2) l.ranks ≡ drop (length l.fn.ranks / 2) (set l.fn.ranks l.fn.leaf l.fn.rank);
  right : IsRightBut l.node l.ranks;
  greater : rank_at l.ranks l.node < l.fn.rank → l.fn.rank ≡ max (rank_at l.ranks (2 * l.node)) (rank_at l.ranks (2 * l.node + 1));
  stays : l.fn.rank ≤ rank_at l.ranks l.node → 1 ≤ l.node → rank_at l.ranks l.node ≡ max (rank_at l.ranks (2 * l.node)) (rank_at l.ranks (2 * l.node + 1));
}

abbrev pub decreases-loop-ranks : goal.decreases-loop-ranks
decreases-loop-ranks l = l.node

use Rattle.std.proofs.Common.{◌≡◌, ◌≤◌, length}
use Rattle.q_tree.specs.filters.ChainsSeen.{AreFirsts, AreNexts}
use Rattle.q_tree.proofs.filters.chains.link.Given as goal

-- the places from this one on are linked
abbrev pub invariant-loop-place : goal.invariant-loop-place
invariant-loop-place l = record {
  within : l.place ≤ length l.homes;
  firsts : AreFirsts l.homes l.place l.firsts;
  nexts : AreNexts l.homes l.place l.nexts;
  same_firsts : length l.firsts ≡ length l.fn.firsts;
  same_nexts : length l.nexts ≡ length l.fn.nexts;
}

abbrev pub decreases-loop-place : goal.decreases-loop-place
decreases-loop-place l = l.place

use Rattle.std.proofs.Common.{length, map}
use Rattle.std.specs.List.{AllByRecursion}
use Rattle.q_setup.specs.Alike.{IsAmong, IsLike, IsShort, entries, entry}
use Rattle.q_setup.proofs.alike.is_there.Given as goal

-- what is wanted is among all just where it is among those that are left
abbrev pub invariant-loop-node : goal.invariant-loop-node
invariant-loop-node l = record {
  alike : IsAmong (IsLike l.keep (entry l.wanted)) (map entry l.nodes) → IsAmong (IsLike l.keep (entry l.wanted)) (entries l.tree.tree);
  told : IsAmong (IsLike l.keep (entry l.wanted)) (entries l.tree.tree) → IsAmong (IsLike l.keep (entry l.wanted)) (map entry l.nodes);
  short : AllByRecursion IsShort (map entry l.nodes);
}

abbrev pub decreases-loop-node : goal.decreases-loop-node
decreases-loop-node l = length l.nodes

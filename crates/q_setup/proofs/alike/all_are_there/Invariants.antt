use Rattle.std.proofs.Common.{length, map}
use Rattle.std.specs.List.{AllByRecursion}
use Rattle.q_setup.specs.Alike.{IsAmong, IsLike, IsShort, entries, entry}
use Rattle.q_setup.proofs.alike.all_are_there.Given as goal

-- all have their like just where those that are left have it
abbrev pub invariant-loop-node : goal.invariant-loop-node
invariant-loop-node l = record {
  alike : AllByRecursion (λ x. IsAmong (IsLike l.keep x) (entries l.tree.tree)) (map entry l.nodes) → AllByRecursion (λ x. IsAmong (IsLike l.keep x) (entries l.tree.tree)) (entries l.wanted.tree);
  told : AllByRecursion (λ x. IsAmong (IsLike l.keep x) (entries l.tree.tree)) (entries l.wanted.tree) → AllByRecursion (λ x. IsAmong (IsLike l.keep x) (entries l.tree.tree)) (map entry l.nodes);
  short : AllByRecursion IsShort (map entry l.nodes);
}

abbrev pub decreases-loop-node : goal.decreases-loop-node
decreases-loop-node l = length l.nodes

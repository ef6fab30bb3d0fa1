use Rattle.std.proofs.Common.{length, map}
use Rattle.std.specs.List.{AllByRecursion}
use Rattle.q_setup.specs.Alike.{IsAmong, IsLike, IsShort, entries, entry}
use Rattle.q_setup.proofs.alike.none_is_besides.Given as goal

-- all are wanted just where those that are left are
abbrev pub invariant-loop-node : goal.invariant-loop-node
invariant-loop-node l = record {
  alike : AllByRecursion (λ y. IsAmong (λ x. IsLike l.keep x y) (entries l.wanted.tree)) (map entry l.nodes)
      → AllByRecursion (λ y. IsAmong (λ x. IsLike l.keep x y) (entries l.wanted.tree)) (entries l.tree.tree);
  told : AllByRecursion (λ y. IsAmong (λ x. IsLike l.keep x y) (entries l.wanted.tree)) (entries l.tree.tree)
      → AllByRecursion (λ y. IsAmong (λ x. IsLike l.keep x y) (entries l.wanted.tree)) (map entry l.nodes);
  short : AllByRecursion IsShort (map entry l.nodes);
}

abbrev pub decreases-loop-node : goal.decreases-loop-node
decreases-loop-node l = length l.nodes

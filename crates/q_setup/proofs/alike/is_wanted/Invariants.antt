use Rattle.std.proofs.Common.{length, map}
use Rattle.std.specs.List.{AllByRecursion}
use Rattle.q_setup.specs.Alike.{IsAmong, IsLike, IsShort, entries, entry}
use Rattle.q_setup.proofs.alike.is_wanted.Given as goal

-- the node is among all just where it is among those that are left
abbrev pub invariant-loop-other : goal.invariant-loop-other
invariant-loop-other l = record {
  alike : IsAmong (λ x. IsLike l.keep x (entry l.node)) (map entry l.nodes) → IsAmong (λ x. IsLike l.keep x (entry l.node)) (entries l.wanted.tree);
  told : IsAmong (λ x. IsLike l.keep x (entry l.node)) (entries l.wanted.tree) → IsAmong (λ x. IsLike l.keep x (entry l.node)) (map entry l.nodes);
  short : AllByRecursion IsShort (map entry l.nodes);
}

abbrev pub decreases-loop-other : goal.decreases-loop-other
decreases-loop-other l = length l.nodes

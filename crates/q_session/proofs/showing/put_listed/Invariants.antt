use Rattle.std.proofs.Common.{length}
use Rattle.std.specs.List.{AllByRecursion, flat_map}
use Rattle.q_tree.specs.TreeSeen.{tree_numbers}
use Rattle.q_session.specs.Shown.{IsOfLawful, counted, listed_text}
use Rattle.q_session.proofs.Writing.{Writing}
use Rattle.q_session.proofs.showing.put_listed.Given as goal

abbrev pub invariant-loop-node : goal.invariant-loop-node
invariant-loop-node g l =
    let line = g.L.Listed.line in
    let of_node = g.L.Listed.of_node in
    record {
      text : Writing g.W.Write.contents l.fn.target l.target l.fn.output l.output
          (listed_text line of_node (tree_numbers l.tree.tree)) (flat_map (λ x. flat_map line (of_node (counted x.1))) l.nodes);
      lawful : AllByRecursion (λ x. IsOfLawful x.1) l.nodes;
    }

abbrev pub decreases-loop-node : goal.decreases-loop-node
decreases-loop-node g l = length l.nodes

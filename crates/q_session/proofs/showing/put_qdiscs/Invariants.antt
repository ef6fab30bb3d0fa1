use Rattle.std.proofs.Common.{length}
use Rattle.std.specs.List.{flat_map}
use Rattle.q_model.specs.Tally.{totals}
use Rattle.q_model.specs.Views.{node_view, views}
use Rattle.q_script_semantics.specs.Text.{qdisc_text}
use Rattle.q_tree.specs.Kept.{kept}
use Rattle.q_tree.specs.TreeSeen.{tree_numbers}
use Rattle.q_session.proofs.Writing.{Writing}
use Rattle.q_session.proofs.showing.put_qdiscs.Given as goal

abbrev pub invariant-loop-node : goal.invariant-loop-node
invariant-loop-node g l =
    let text = qdisc_text l.counters in
    Writing g.W.Write.contents l.fn.target l.target l.fn.output l.output
    (flat_map text (views totals (tree_numbers l.tree.tree))) (flat_map (λ x. text (node_view kept x.0 x.1)) l.nodes)

abbrev pub decreases-loop-node : goal.decreases-loop-node
decreases-loop-node g l = length l.nodes

use Rattle.std.proofs.Common.{◌≡◌, ◌++◌, length}
use Rattle.std.specs.Vec.Iter.{into_iter_items, into_iter_len}
use Rattle.q_codel.specs.Losses.{IsTold}
use Rattle.q_model.specs.Node.{side_by_side}
use Rattle.q_tree.specs.arrival.PutSteps.{packets_beneath}
use Rattle.q_tree.specs.commands.Purging.{purged}
use Rattle.q_tree.specs.NodeCode.{node_size, forest_size}
use Rattle.q_tree.proofs.+purge.Given as goal

abbrev pub decreases-node::Node::purge : goal.decreases-node::Node::purge
decreases-node::Node::purge g l = node_size l.self

abbrev pub decreases-commands::purge::purge_each : goal.decreases-commands::purge::purge_each
decreases-commands::purge::purge_each g l = forest_size (side_by_side l.nodes.items)

abbrev pub invariant-commands::purge::purge_each-loop-node : goal.invariant-commands::purge::purge_each-loop-node
invariant-commands::purge::purge_each-loop-node g l =
    (l.yielded ++ into_iter_items l.node-iterator ≡ into_iter_items l.initial.node-iterator)
    × (into_iter_len l.node-iterator ≡ length (into_iter_items l.node-iterator))
    × IsTold (purged (packets_beneath l.yielded)) (g.S.Sink.state l.fn.sink) (g.S.Sink.state l.sink)
    × g.S.Sink.keeps l.fn.sink l.sink

use Rattle.std.proofs.Common.{◌≡◌, ◌+◌, ◌*◌, map, drop}
use Rattle.q_fqcodel.specs.Oldest.{earlier}
use Rattle.q_model.specs.Node.{side_by_side}
use Rattle.q_model.specs.Oldest.{oldest}
use Rattle.q_tree.specs.answers.Oldest.{oldest_of}
use Rattle.q_tree.specs.NodeCode.{node_size, forest_size}
use Rattle.q_tree.specs.Seen.{children_seen}
use Rattle.q_tree.proofs.+oldest.Given as goal

abbrev pub invariant-answers::oldest::oldest_of-loop-node : goal.invariant-answers::oldest::oldest_of-loop-node
invariant-answers::oldest::oldest_of-loop-node l = earlier l.first (oldest_of (map oldest (drop l.node-index l.fn.nodes))) ≡ oldest_of (map oldest l.fn.nodes)

-- each call goes further down the tree
abbrev pub decreases-node::Node::oldest : goal.decreases-node::Node::oldest
decreases-node::Node::oldest l = 3 * node_size l.self.now

abbrev pub decreases-node::Discipline::oldest : goal.decreases-node::Discipline::oldest
decreases-node::Discipline::oldest l = 3 * forest_size (side_by_side (children_seen l.self.now)) + 2

abbrev pub decreases-answers::oldest::oldest_of : goal.decreases-answers::oldest::oldest_of
decreases-answers::oldest::oldest_of l = 3 * forest_size (side_by_side l.nodes.now) + 1

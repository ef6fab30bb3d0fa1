use Rattle.std.proofs.Common.{◌+◌, ◌*◌}
use Rattle.q_model.specs.Node.{side_by_side}
use Rattle.q_tree.specs.NodeCode.{node_size, forest_size}
use Rattle.q_tree.specs.Seen.{children_seen}
use Rattle.q_tree.proofs.node.+keep_one.Given as goal

-- each call goes further down the tree
abbrev pub decreases-Node::keep_one : goal.decreases-Node::keep_one
decreases-Node::keep_one l = 3 * node_size l.self.now + 1

abbrev pub decreases-Node::keep_one_further : goal.decreases-Node::keep_one_further
decreases-Node::keep_one_further l = 3 * node_size l.self.now

abbrev pub decreases-Discipline::keep_one : goal.decreases-Discipline::keep_one
decreases-Discipline::keep_one l = 3 * forest_size (side_by_side (children_seen l.self.now)) + 2

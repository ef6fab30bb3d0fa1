use Rattle.std.proofs.Common.{◌+◌, ◌*◌}
use Rattle.q_model.specs.Node.{side_by_side}
use Rattle.q_tree.specs.NodeCode.{node_size, forest_size}
use Rattle.q_tree.specs.Seen.{children_seen}
use Rattle.q_tree.proofs.node.+enqueue.Given as goal

-- each call goes further down the tree
abbrev pub decreases-Node::enqueue : goal.decreases-Node::enqueue
decreases-Node::enqueue g l = 3 * node_size l.self.now + 1

abbrev pub decreases-Node::enqueue_further : goal.decreases-Node::enqueue_further
decreases-Node::enqueue_further g l = 3 * node_size l.self.now

abbrev pub decreases-Discipline::enqueue : goal.decreases-Discipline::enqueue
decreases-Discipline::enqueue g l = 3 * forest_size (side_by_side (children_seen l.self.now)) + 2

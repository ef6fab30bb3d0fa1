use Rattle.std.proofs.Common.{◌≡◌, ◌+◌, ◌*◌}
use Rattle.q_model.specs.Node.{side_by_side}
use Rattle.q_tree.specs.NodeCode.{node_size, forest_size}
use Rattle.q_tree.specs.Seen.{children_seen}
use Rattle.q_tree.proofs.departure.PopLemmas.{NoneBefore}
use Rattle.q_tree.proofs.+dequeue_at_hand.Given as goal

-- the bands so far had none, and are as they were
abbrev pub invariant-disciplines::prio::dequeue_first-loop-place : goal.invariant-disciplines::prio::dequeue_first-loop-place
invariant-disciplines::prio::dequeue_first-loop-place l = (l.bands ≡ l.fn.bands) × NoneBefore l.place l.fn.bands × (l.out ≡ l.fn.out)

-- each call goes further down the tree
abbrev pub decreases-node::Node::dequeue_at_hand : goal.decreases-node::Node::dequeue_at_hand
decreases-node::Node::dequeue_at_hand l = 3 * node_size l.self.now

abbrev pub decreases-node::Discipline::dequeue_at_hand : goal.decreases-node::Discipline::dequeue_at_hand
decreases-node::Discipline::dequeue_at_hand l = 3 * forest_size (side_by_side (children_seen l.self.now)) + 2

abbrev pub decreases-node::Discipline::dequeue_at_hand_further : goal.decreases-node::Discipline::dequeue_at_hand_further
decreases-node::Discipline::dequeue_at_hand_further l = 3 * forest_size (side_by_side (children_seen l.self.now)) + 1

abbrev pub decreases-disciplines::prio::dequeue_first : goal.decreases-disciplines::prio::dequeue_first
decreases-disciplines::prio::dequeue_first l = 3 * forest_size (side_by_side l.bands.now)

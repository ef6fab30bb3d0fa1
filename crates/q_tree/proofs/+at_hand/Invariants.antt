use Rattle.std.proofs.Common.{◌≡◌, map, drop}
use Rattle.q_model.specs.Node.{side_by_side}
use Rattle.q_model.specs.Pop.{pop}
use Rattle.q_model.specs.Pop.{first_shown}
use Rattle.q_tree.specs.NodeCode.{node_size, forest_size}
use Rattle.q_tree.proofs.+at_hand.Given as goal

abbrev pub invariant-disciplines::prio::first_at_hand-loop-band :
    goal.invariant-disciplines::prio::first_at_hand-loop-band
invariant-disciplines::prio::first_at_hand-loop-band l = first_shown (map pop (drop l.band-index l.fn.bands)) ≡ first_shown (map pop l.fn.bands)

abbrev pub decreases-node::Node::at_hand : goal.decreases-node::Node::at_hand
decreases-node::Node::at_hand l = node_size l.self.now

abbrev pub decreases-disciplines::prio::first_at_hand : goal.decreases-disciplines::prio::first_at_hand
decreases-disciplines::prio::first_at_hand l = forest_size (side_by_side l.bands.now)

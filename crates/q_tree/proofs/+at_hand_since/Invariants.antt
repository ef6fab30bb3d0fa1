use Rattle.std.proofs.Common.{◌≡◌, map, drop}
use Rattle.q_model.specs.Node.{side_by_side}
use Rattle.q_model.specs.Since.{at_hand_since, first_since}
use Rattle.q_tree.specs.NodeCode.{node_size, forest_size}
use Rattle.q_tree.proofs.+at_hand_since.Given as goal

abbrev pub invariant-disciplines::prio::first_since-loop-band :
    goal.invariant-disciplines::prio::first_since-loop-band
invariant-disciplines::prio::first_since-loop-band l = first_since (map at_hand_since (drop l.band-index l.fn.bands)) ≡ first_since (map at_hand_since l.fn.bands)

abbrev pub decreases-node::Node::at_hand_since : goal.decreases-node::Node::at_hand_since
decreases-node::Node::at_hand_since l = node_size l.self.now

abbrev pub decreases-disciplines::prio::first_since : goal.decreases-disciplines::prio::first_since
decreases-disciplines::prio::first_since l = forest_size (side_by_side l.bands.now)

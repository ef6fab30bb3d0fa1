use Rattle.std.proofs.Common.{◌≡◌, map, drop}
use Rattle.q_model.specs.Node.{side_by_side}
use Rattle.q_model.specs.Pop.{first_shown, pop}
use Rattle.q_tree.specs.NodeCode.{node_size, forest_size}
use Rattle.q_tree.proofs.+peek_again.Given as goal

-- the bands so far have none at hand, and the counts are those from before
abbrev pub invariant-disciplines::prio::peek_bands_again-loop-band : goal.invariant-disciplines::prio::peek_bands_again-loop-band
invariant-disciplines::prio::peek_bands_again-loop-band l =
    (first_shown (map pop (drop l.band-index l.fn.bands)) ≡ first_shown (map pop l.fn.bands)) × (l.shown ≡ record l.fn.so_far { packet = l.shown.packet })

abbrev pub decreases-node::Node::peek_again : goal.decreases-node::Node::peek_again
decreases-node::Node::peek_again l = node_size l.self.now

abbrev pub decreases-disciplines::prio::peek_bands_again : goal.decreases-disciplines::prio::peek_bands_again
decreases-disciplines::prio::peek_bands_again l = forest_size (side_by_side l.bands.now)

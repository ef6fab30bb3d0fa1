use Rattle.std.proofs.Common.{◌≡◌, map, drop}
use Rattle.q_model.specs.Node.{side_by_side}
use Rattle.q_tree.specs.answers.ReadyAt.{no_packet, outlook, with_bands}
use Rattle.q_tree.specs.NodeCode.{node_size, forest_size}
use Rattle.q_tree.proofs.+outlook.Given as goal

abbrev pub invariant-disciplines::prio::of_bands-loop-band : goal.invariant-disciplines::prio::of_bands-loop-band
invariant-disciplines::prio::of_bands-loop-band l = with_bands l.outlook (map (outlook l.fn.now) (drop l.band-index l.fn.bands)) ≡ with_bands no_packet (map (outlook l.fn.now) l.fn.bands)

abbrev pub decreases-node::Node::outlook : goal.decreases-node::Node::outlook
decreases-node::Node::outlook l = node_size l.self.now

abbrev pub decreases-disciplines::prio::of_bands : goal.decreases-disciplines::prio::of_bands
decreases-disciplines::prio::of_bands l = forest_size (side_by_side l.bands.now)

abbrev pub decreases-disciplines::drr::of_front : goal.decreases-disciplines::drr::of_front
decreases-disciplines::drr::of_front l = forest_size (side_by_side l.classes.now)

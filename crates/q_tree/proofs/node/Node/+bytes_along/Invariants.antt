use Rattle.std.proofs.Common.{length}
use Rattle.q_tree.proofs.node.Node.+bytes_along.Given as goal

abbrev pub decreases-bytes_along : goal.decreases-bytes_along
decreases-bytes_along l = length l.path.now

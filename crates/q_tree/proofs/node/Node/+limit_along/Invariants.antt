use Rattle.std.proofs.Common.{length}
use Rattle.q_tree.proofs.node.Node.+limit_along.Given as goal

abbrev pub decreases-limit_along : goal.decreases-limit_along
decreases-limit_along l = length l.path.now

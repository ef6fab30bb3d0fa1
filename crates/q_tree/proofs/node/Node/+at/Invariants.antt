use Rattle.std.proofs.Common.{length}
use Rattle.q_tree.proofs.node.Node.+at.Given as goal

-- the way gets shorter
abbrev pub decreases-at : goal.decreases-at
decreases-at l = length l.path.now

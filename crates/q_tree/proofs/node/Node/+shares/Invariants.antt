use Rattle.std.proofs.Common.{length}
use Rattle.q_tree.proofs.node.Node.+shares.Given as goal

-- the way gets shorter
abbrev pub decreases-shares : goal.decreases-shares
decreases-shares l = length l.path.now

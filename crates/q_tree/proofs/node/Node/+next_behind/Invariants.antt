use Rattle.std.proofs.Common.{length}
use Rattle.q_tree.proofs.node.Node.+next_behind.Given as goal

-- the way gets shorter
abbrev pub decreases-next_behind : goal.decreases-next_behind
decreases-next_behind l = length l.way.now

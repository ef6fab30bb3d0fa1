use Rattle.std.proofs.Common.{length}
use Rattle.q_setup.proofs.seen.Seen.of.Given as goal

abbrev pub decreases-loop-node : goal.decreases-loop-node
decreases-loop-node l = length l.nodes

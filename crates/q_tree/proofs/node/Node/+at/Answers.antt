use Rattle.std.proofs.Common.{arith}
use Rattle.q_tree.proofs.node.Node.+at.Goals as goal

pub at-requires : goal.at-requires
at-requires t c = (omega (arith, c.decreases, c.in-Some.ensures.cases.1), tt)

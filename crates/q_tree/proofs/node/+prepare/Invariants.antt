use Rattle.std.proofs.Common.{◌+◌, length}
use Rattle.q_tree.proofs.node.+prepare.Given as goal

-- the way gets shorter
abbrev pub decreases-Discipline::prepare_beneath : goal.decreases-Discipline::prepare_beneath
decreases-Discipline::prepare_beneath l = length l.rest.now + length l.rest.now + 2

abbrev pub decreases-Node::prepare : goal.decreases-Node::prepare
decreases-Node::prepare l = length l.path.now + length l.path.now + 1

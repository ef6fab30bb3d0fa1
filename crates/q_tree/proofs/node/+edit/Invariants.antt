use Rattle.std.proofs.Common.{◌+◌, length}
use Rattle.q_tree.proofs.node.+edit.Given as goal

-- the way gets shorter
abbrev pub decreases-Discipline::edit_beneath : goal.decreases-Discipline::edit_beneath
decreases-Discipline::edit_beneath g l = length l.rest.now + length l.rest.now + 2

abbrev pub decreases-Node::edit : goal.decreases-Node::edit
decreases-Node::edit g l = length l.path.now + length l.path.now + 1

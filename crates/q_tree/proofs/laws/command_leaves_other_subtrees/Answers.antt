use Rattle.q_tree.proofs.laws.OtherSubtrees.{edit-leaves}
use Rattle.q_tree.proofs.laws.command_leaves_other_subtrees.Goals as goal

pub returns : goal.returns
returns c = edit-leaves

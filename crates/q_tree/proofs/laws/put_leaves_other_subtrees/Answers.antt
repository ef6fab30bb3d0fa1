use Rattle.q_tree.proofs.laws.OtherSubtrees.{put-leaves}
use Rattle.q_tree.proofs.laws.put_leaves_other_subtrees.Goals as goal

pub returns : goal.returns
returns c = put-leaves

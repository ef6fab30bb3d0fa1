use Rattle.q_tree.proofs.laws.OtherSubtrees.{put-places}
use Rattle.q_tree.proofs.laws.put_keeps_places.Goals as goal

pub returns : goal.returns
returns c = put-places

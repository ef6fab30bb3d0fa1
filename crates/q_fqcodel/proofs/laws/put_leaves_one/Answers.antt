use Rattle.q_fqcodel.proofs.LawLemmas.{put_leaves_one}
use Rattle.q_fqcodel.proofs.laws.put_leaves_one.Goals as goal

pub returns : goal.returns
returns c = put_leaves_one

use Rattle.q_fqcodel.proofs.LawLemmas.{put_keeps_all}
use Rattle.q_fqcodel.proofs.laws.put_keeps_all.Goals as goal

pub returns : goal.returns
returns c = put_keeps_all

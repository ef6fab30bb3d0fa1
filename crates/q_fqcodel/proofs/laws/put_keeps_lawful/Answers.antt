use Rattle.q_fqcodel.proofs.KeptLemmas.{put_keeps_lawful}
use Rattle.q_fqcodel.proofs.laws.put_keeps_lawful.Goals as goal

pub returns : goal.returns
returns c = put_keeps_lawful

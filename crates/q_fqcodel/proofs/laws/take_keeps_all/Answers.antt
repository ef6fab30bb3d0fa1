use Rattle.q_fqcodel.proofs.LawLemmas.{take_keeps_all}
use Rattle.q_fqcodel.proofs.laws.take_keeps_all.Goals as goal

pub returns : goal.returns
returns c = take_keeps_all

use Rattle.q_fqcodel.proofs.LawfulLemmas.{lawful_first}
use Rattle.q_fqcodel.proofs.laws.first_is_lawful.Goals as goal

pub returns : goal.returns
returns c = lawful_first

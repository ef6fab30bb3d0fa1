use Rattle.q_fqcodel.proofs.LawfulLemmas.{lawful_changed}
use Rattle.q_fqcodel.proofs.laws.change_keeps_lawful.Goals as goal

pub returns : goal.returns
returns c = lawful_changed

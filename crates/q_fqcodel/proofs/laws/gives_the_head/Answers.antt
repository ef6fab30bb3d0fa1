use Rattle.q_fqcodel.proofs.LawLemmas.{gives_the_head}
use Rattle.q_fqcodel.proofs.laws.gives_the_head.Goals as goal

pub returns : goal.returns
returns c = gives_the_head

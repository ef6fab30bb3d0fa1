use Rattle.q_drr.proofs.StretchLemmas.{grants_are_even}
use Rattle.q_drr.proofs.laws.grants_are_even.Goals as goal

pub returns : goal.returns
returns c = grants_are_even

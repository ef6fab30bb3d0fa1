use Rattle.q_bucket.proofs.LawLemmas.{stretch_is_bounded_lem}
use Rattle.q_bucket.proofs.laws.stretch_is_bounded.Goals as goal

pub returns : goal.returns
returns c = stretch_is_bounded_lem

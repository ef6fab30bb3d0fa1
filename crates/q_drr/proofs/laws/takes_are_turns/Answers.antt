use Rattle.q_drr.proofs.ServedLemmas.{takes_are_turns}
use Rattle.q_drr.proofs.laws.takes_are_turns.Goals as goal

pub returns : goal.returns
returns c = takes_are_turns

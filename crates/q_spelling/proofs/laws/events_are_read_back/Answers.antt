use Rattle.q_spelling.proofs.ReadBack.{read_back}
use Rattle.q_spelling.proofs.laws.events_are_read_back.Goals as goal

pub returns : goal.returns
returns c = read_back

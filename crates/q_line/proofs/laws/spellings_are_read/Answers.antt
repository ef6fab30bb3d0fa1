use Rattle.q_line.proofs.SpelledLines.{spellings}
use Rattle.q_line.proofs.laws.spellings_are_read.Goals as goal

pub returns : goal.returns
returns c = spellings

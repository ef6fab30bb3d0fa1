use Rattle.q_line.proofs.Leftmost.{leftmost}
use Rattle.q_line.proofs.laws.faults_are_leftmost.Goals as goal

pub returns : goal.returns
returns c = leftmost

use Rattle.q_laws.proofs.line.LineStretches.{lines-leave-first}
use Rattle.q_laws.proofs.laws.lines_leave_first.Goals as goal

pub returns : goal.returns
returns c = lines-leave-first c.args.settings c.ranges-2.ensures

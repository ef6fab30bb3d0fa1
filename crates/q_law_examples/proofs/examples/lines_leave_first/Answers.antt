use Rattle.std.proofs.Common.{subst}
use Rattle.q_laws.specs.line.Line.{LinesLeaveFirst}
use Rattle.q_law_examples.proofs.BandsHold.{line-first}
use Rattle.q_law_examples.proofs.examples.lines_leave_first.Goals as goal

pub returns : goal.returns
returns c = line-first (subst LinesLeaveFirst c.worked_settings.ensures c.lines_leave_first.ensures)

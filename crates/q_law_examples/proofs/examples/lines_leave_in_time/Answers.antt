use Rattle.std.proofs.Common.{subst}
use Rattle.q_laws.specs.line.Line.{LimitsAreDelays, LinesLeaveInTime}
use Rattle.q_law_examples.proofs.LinesHold.{line-in-time, limit-is-delay}
use Rattle.q_law_examples.proofs.examples.lines_leave_in_time.Goals as goal

pub returns-clause-from_any_state : goal.returns-clause-from_any_state
returns-clause-from_any_state c = line-in-time (subst LinesLeaveInTime c.worked_settings.ensures c.lines_leave_in_time.ensures.from_any_state)

pub returns-clause-within_a_limit : goal.returns-clause-within_a_limit
returns-clause-within_a_limit c = limit-is-delay (subst LimitsAreDelays c.worked_settings.ensures c.lines_leave_in_time.ensures.within_a_limit)

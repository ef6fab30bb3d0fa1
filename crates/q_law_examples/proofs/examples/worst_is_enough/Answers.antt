use Rattle.std.proofs.Common.{subst}
use Rattle.q_laws.specs.line.Worst.{LinesKeepLimits, WorstIsEnough, WorstIsInTime}
use Rattle.q_law_examples.proofs.LinesHold.{line-keeps-limit, enough-for-worst, worst-in-time}
use Rattle.q_law_examples.proofs.examples.worst_is_enough.Goals as goal

pub returns-clause-limit : goal.returns-clause-limit
returns-clause-limit c = line-keeps-limit (subst LinesKeepLimits c.worked_settings.ensures c.worst_is_enough.ensures.limit)

pub returns-clause-enough : goal.returns-clause-enough
returns-clause-enough c = enough-for-worst (subst WorstIsEnough c.worked_settings.ensures c.worst_is_enough.ensures.enough)

pub returns-clause-in_time : goal.returns-clause-in_time
returns-clause-in_time c = worst-in-time (subst WorstIsInTime c.worked_settings.ensures c.worst_is_enough.ensures.in_time)

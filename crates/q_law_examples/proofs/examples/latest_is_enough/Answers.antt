use Rattle.std.proofs.Common.{subst}
use Rattle.q_laws.specs.line.Latest.{LatestIsEnough, LatestIsInTime, LatestIsToldBefore, LatestRisesNoFaster, LatestStandsAsItFills}
use Rattle.q_law_examples.proofs.LinesHold.{enough-in-line, latest-in-line, told-before, rises-no-faster, stands-in-line}
use Rattle.q_law_examples.proofs.examples.latest_is_enough.Goals as goal

pub returns-clause-enough : goal.returns-clause-enough
returns-clause-enough c = enough-in-line (subst LatestIsEnough c.worked_settings.ensures c.latest_is_enough.ensures.enough)

pub returns-clause-in_time : goal.returns-clause-in_time
returns-clause-in_time c = latest-in-line (subst LatestIsInTime c.worked_settings.ensures c.latest_is_enough.ensures.in_time)

pub returns-clause-told_before : goal.returns-clause-told_before
returns-clause-told_before c = told-before (subst LatestIsToldBefore c.worked_settings.ensures c.latest_is_enough.ensures.told_before)

pub returns-clause-rises_no_faster : goal.returns-clause-rises_no_faster
returns-clause-rises_no_faster c = rises-no-faster (subst LatestRisesNoFaster c.worked_settings.ensures c.latest_is_enough.ensures.rises_no_faster)

pub returns-clause-stands_as_it_fills : goal.returns-clause-stands_as_it_fills
returns-clause-stands_as_it_fills c = stands-in-line (subst LatestStandsAsItFills c.worked_settings.ensures c.latest_is_enough.ensures.stands_as_it_fills)

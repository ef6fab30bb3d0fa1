use Rattle.std.proofs.Common.{subst}
use Rattle.q_laws.specs.rate.Rate.{RateIsDelivered, RateIsSpent}
use Rattle.q_law_examples.proofs.RatesHold.{spent-rate, delivered-rate, never-late}
use Rattle.q_law_examples.proofs.examples.rate_is_delivered.Goals as goal

pub returns-clause-exact : goal.returns-clause-exact
returns-clause-exact c = spent-rate (subst RateIsSpent c.worked_settings.ensures c.rate_is_delivered.ensures.exact)

pub returns-clause-in_time : goal.returns-clause-in_time
returns-clause-in_time c = delivered-rate (subst RateIsDelivered c.worked_settings.ensures c.rate_is_delivered.ensures.in_time)

pub returns-clause-never_late : goal.returns-clause-never_late
returns-clause-never_late c = never-late c.rate_is_delivered.ensures.never_late

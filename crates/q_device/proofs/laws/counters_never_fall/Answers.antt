use Rattle.q_device.proofs.laws.CountLemmas.{none-left-out, step-rises}
use Rattle.q_device.proofs.laws.counters_never_fall.Goals as goal

pub returns-clause-events : goal.returns-clause-events
returns-clause-events c = step-rises

pub returns-clause-compared : goal.returns-clause-compared
returns-clause-compared c = none-left-out

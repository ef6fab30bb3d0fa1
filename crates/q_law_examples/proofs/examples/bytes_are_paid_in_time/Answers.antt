use Rattle.std.proofs.Common.{subst}
use Rattle.q_laws.specs.rate.Delay.{BytesArePaidInTime}
use Rattle.q_law_examples.proofs.RatesHold.{paid-in-time}
use Rattle.q_law_examples.proofs.examples.bytes_are_paid_in_time.Goals as goal

pub returns : goal.returns
returns c = paid-in-time (subst BytesArePaidInTime c.worked_settings.ensures c.bytes_are_paid_in_time.ensures)

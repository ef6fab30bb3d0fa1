use Rattle.q_laws.proofs.rate.PaidInTime.{bytes-are-paid}
use Rattle.q_laws.proofs.laws.bytes_are_paid_in_time.Goals as goal

pub returns : goal.returns
returns c = bytes-are-paid c.args.settings c.ranges-2.ensures

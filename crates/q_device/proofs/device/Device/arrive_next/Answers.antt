use Rattle.std.proofs.Common.{ap}
use Rattle.q_device.specs.device.Bursts.{fate_in}
use Rattle.q_device.specs.Events.{after_event, reply_to}
use Rattle.q_device.proofs.device.Device.arrive_next.Goals as goal

pub returns-in-Ok-clause-event : goal.returns-in-Ok-clause-event
unfolding after_event
returns-in-Ok-clause-event c = c.in-Ok.ensures.event

pub returns-in-Ok-clause-fate : goal.returns-in-Ok-clause-fate
unfolding reply_to
returns-in-Ok-clause-fate c = ap fate_in c.in-Ok.ensures.fate

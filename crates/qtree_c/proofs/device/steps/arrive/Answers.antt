use Rattle.q_device.specs.Events.{after_event, reply_to}
use Rattle.qtree_c.proofs.device.steps.arrive.Goals as goal

pub returns-in-Ok-clause-event : goal.returns-in-Ok-clause-event
unfolding after_event
returns-in-Ok-clause-event c = c.in-Ok.ensures.event

pub returns-in-Ok-clause-fate : goal.returns-in-Ok-clause-fate
unfolding reply_to
returns-in-Ok-clause-fate c = c.in-Ok.ensures.fate

pub returns-in-Ok-clause-places : goal.returns-in-Ok-clause-places
returns-in-Ok-clause-places c = record { queues = c.arrive_stored.ensures.queues; losses = c.arrive_stored.ensures.places; events = c.arrive_stored.ensures.recorder }

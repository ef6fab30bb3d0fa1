use Rattle.q_device.specs.Events.{after_event, reply_to}
use Rattle.qtree_c.proofs.device.steps.command.Goals as goal

pub returns-in-Ok-clause-event : goal.returns-in-Ok-clause-event
unfolding after_event
returns-in-Ok-clause-event c = c.in-Ok.ensures.event

pub returns-in-Ok-clause-reply : goal.returns-in-Ok-clause-reply
unfolding reply_to
returns-in-Ok-clause-reply c = c.in-Ok.ensures.reply

pub returns-in-Err-clause-refused : goal.returns-in-Err-clause-refused
unfolding reply_to
returns-in-Err-clause-refused c = c.in-Err.ensures.refused

-- What an event makes of a device, what it is answered, and the row that the device then shows.
-- All of it is DeviceSeen's and q_model's, under names that no proof of the crates above has to look through.
use Rattle.q_model.specs.declared.event.Event.{Event}
use Rattle.q_model.specs.declared.reply.Reply.{Reply}
use Rattle.q_model.specs.declared.row.Row.{Row}
use Rattle.q_model.specs.Beneath.{beneath, row_of}
use Rattle.q_model.specs.Step.{step}
use Rattle.q_model.specs.Tally.{totals}
use Rattle.q_device.specs.device.DeviceSeen.{DeviceSeen, Memory, with_event}

-- the device after an event
unfoldable pub after_event : Event → DeviceSeen → DeviceSeen
after_event e d = with_event e d

-- what the event is answered
unfoldable pub reply_to : Event → DeviceSeen → Reply
reply_to e d = (step totals d.device e).reply

-- the device with this memory, which no rule reads
abbrev pub with_memory : Memory → DeviceSeen → DeviceSeen
with_memory m d = record d { memory = m }

-- what the device counted, and what is queued at it
unfoldable pub device_row : DeviceSeen → Row
device_row d = row_of d.device.tree.top (beneath d.device.tree.root)

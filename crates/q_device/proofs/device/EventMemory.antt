-- What events make of a device does not rest on its memory, and its row tells what has arrived.
use Rattle.std.proofs.Common.{◌≡◌, refl}
use Rattle.q_model.specs.declared.event.Event.{Event}
use Rattle.q_device.specs.device.DeviceSeen.{DeviceSeen, Memory}
use Rattle.q_device.specs.Events.{after_event, device_row, reply_to, with_memory}

pub after-memory : (e : Event) (m : Memory) (d : DeviceSeen) → after_event e (with_memory m d) ≡ with_memory m (after_event e d)
unfolding after_event
after-memory e m d = refl

pub reply-memory : (e : Event) (m : Memory) (d : DeviceSeen) → reply_to e (with_memory m d) ≡ reply_to e d
unfolding reply_to
reply-memory e m d = refl

-- the row tells what has arrived
pub row-arrived : (d : DeviceSeen) → (device_row d).arrived ≡ d.device.tree.top.arrived
unfolding device_row
row-arrived d = refl

-- What is noted of the packets that are taken in from one ring.
-- Nothing here is of a standard.
use Rattle.std.specs.Prelude.{◌≡◌, ℕ, List, ◌∷◌, drop, length, map}
use Rattle.q_packet.specs.Descriptor.{Descriptor}
use Rattle.q_device.specs.device.DeviceSeen.{DeviceSeen, as_counted}
use Rattle.q_device.specs.log.LastNoted.{LastNoted, with_noted}
use Rattle.q_model.specs.declared.event.Event.{Event}
use Rattle.q_model.specs.declared.event.Event.TheVariants.{Arrive}
use Rattle.q_ports.specs.Rings.{RingSeen}

-- the arrivals, as they count at the device, of the packets that one state of a ring has received and an earlier one had not
abbrev pub arrivals_between : ℕ → DeviceSeen → RingSeen → RingSeen → List Event
arrivals_between now d before after = map (λ p. as_counted d.device (Arrive p now)) (drop (length before.received) after.received)

-- the packet that was known to wait first is noted at this time
abbrev pub NotesFirst : RingSeen → ℕ → LastNoted → LastNoted → Type 0
NotesFirst ring clock before after = (p : Descriptor) → ring.known ≡ p ∷ drop 1 ring.known → after ≡ with_noted (Arrive p clock) before

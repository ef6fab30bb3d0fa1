-- One packet that is taken from one of a drain's rings: it arrives at the device and leaves its ring.
-- Nothing here is of a standard.
use Rattle.std.specs.Prelude.{◌≡◌, ℕ, ◌<◌, List, length, map, Option, Result, IfNone, IfOk, IfSome, OnErr}
use Rattle.q_packet.specs.Descriptor.{Descriptor}
use Rattle.q_device.specs.device.DeviceSeen.{DeviceSeen}
use Rattle.q_device.specs.Events.{with_memory}
use Rattle.q_ports.specs.Collected.{arrived_one, received_one, take}
use Rattle.q_ports.specs.Rings.{Receives, RingSeen, received_from, ring_id}
use Rattle.q_ports.specs.Stopped.{HasNoRoomForNext}
use Rattle.q_device.specs.device.Room.{KeepsPlaces, StaysButForPlaces}

-- the first packet that was known to wait in one ring arrived, and was received
pub record TakesKnown (at now : ℕ) (before after : List RingSeen) (device device' : DeviceSeen) : Type 0 where
  pub packet : Descriptor
  pub receives : Receives at before after packet
  pub arrived : device' ≡ with_memory device'.memory (arrived_one now device (take at packet))
  pub places : KeepsPlaces device device'

-- a packet of one ring arrived, and is the newest that was received from it
pub record TakesAt (at now : ℕ) (before after : List (List Descriptor)) (device device' : DeviceSeen) : Type 0 where
  pub packet : Descriptor
  pub received : after ≡ received_one before (take at packet)
  pub arrived : device' ≡ with_memory device'.memory (arrived_one now device (take at packet))
  pub places : KeepsPlaces device device'

-- One try to take a packet, from whichever ring one waits in, and which ring that was: a packet of it arrived; or none waited, and nothing changed;
-- or the device had no memory for the next, and nothing changed but places that it made.
pub record HasTried {E : Type 0} (now : ℕ) (before after : List RingSeen) (device device' : DeviceSeen) (result : Result (Option ℕ) E) : Type 0 where
  pub rings : map ring_id after ≡ map ring_id before
  pub ring : IfOk result (λ taken. IfSome taken (λ at. at < length before))
  pub some : IfOk result (λ taken. IfSome taken (λ at. TakesAt at now (map received_from before) (map received_from after) device device'))
  pub none : IfOk result (λ taken. IfNone taken (map received_from after ≡ map received_from before))
  pub none_device : IfOk result (λ taken. IfNone taken (device' ≡ device))
  pub err : OnErr result (map received_from after ≡ map received_from before)
  pub err_device : OnErr result (StaysButForPlaces device device')
  pub refused : OnErr result (HasNoRoomForNext device after)

-- Where an allocation failure ends the collecting: at a packet for which the device has no room.
-- Nothing here is of a standard.
use Rattle.std.specs.Prelude.{◌≡◌, ℕ, ◌<◌, List, ◌∷◌, drop, get_or, length, map}
use Rattle.q_packet.specs.Descriptor.{Descriptor}
use Rattle.q_device.specs.device.DeviceSeen.{DeviceSeen, HasRoomFor}
use Rattle.q_device.specs.DeviceLaws.{HasItsMemory}
use Rattle.q_ports.specs.Collected.{Collects}
use Rattle.q_ports.specs.Rings.{RingSeen, received_from}
use Rattle.q_device.specs.device.Room.{StaysButForPlaces}

-- a packet waits first in some ring, and the device, whose memory is that of its own tree, has no room for it
pub record HasNoRoomForNext (device : DeviceSeen) (rings : List RingSeen) : Type 0 where
  pub ring : ℕ
  pub within : ring < length rings
  pub packet : Descriptor
  pub waits : (d : RingSeen) → (get_or rings ring d).known ≡ packet ∷ drop 1 (get_or rings ring d).known
  pub memory : HasItsMemory device
  pub room : HasRoomFor packet device → ⊥

-- So many packets were received and arrived, for which no place was lost. The device then had no room for a packet that waits first in
-- some ring, and but for more places it has stayed as it was. Where no packet had arrived it was the very device of before.
-- So a caller who gave the device room for all packets that wait gets no allocation failure.
pub record Stops (now : ℕ) (before : List (List Descriptor)) (rings : List RingSeen) (device device' : DeviceSeen) (taken : ℕ) : Type 0 where
  pub full : DeviceSeen
  pub collected : Collects now before (map received_from rings) device full taken
  pub first : taken ≡ 0 → full ≡ device
  pub next : HasNoRoomForNext full rings
  pub stays : StaysButForPlaces full device'

-- the same of some number of packets
abbrev pub StopsSome : ℕ → List (List Descriptor) → List RingSeen → DeviceSeen → DeviceSeen → Type 0
StopsSome now before rings device device' = (taken : ℕ) × Stops now before rings device device' taken

-- some device, which the lock held, so became another
abbrev pub StoppedAtSome : ℕ → List (List Descriptor) → List RingSeen → Type 0
StoppedAtSome now before rings = (device : DeviceSeen) × (device' : DeviceSeen) × StopsSome now before rings device device'

-- What a drain collects: packets that arrive at the device and are received from the rings, one by one.
-- Nothing here is of a standard.
use Rattle.std.specs.Prelude.{◌≡◌, ℕ, ◌<◌, List, [], ◌∷◌, ◌++◌, length, set, get_or, All}
use Rattle.std.specs.List.{fold}
use Rattle.q_packet.specs.Descriptor.{Descriptor}
use Rattle.q_model.specs.declared.event.Event.TheVariants.{Arrive}
use Rattle.q_device.specs.device.DeviceSeen.{DeviceSeen}
use Rattle.q_device.specs.device.Room.{KeepsPlaces}
use Rattle.q_device.specs.Events.{after_event, with_memory}

-- a packet that was taken, and the ring that it came from
pub record Received : Type 0 where
  pub ring : ℕ
  pub packet : Descriptor

abbrev pub take : ℕ → Descriptor → Received
take ring p = record { ring = ring; packet = p }

-- the packet is the newest that was received from its ring
abbrev pub received_one : List (List Descriptor) → Received → List (List Descriptor)
received_one received t = set received t.ring (get_or received t.ring [] ++ t.packet ∷ [])

-- the packet arrived at the device
abbrev pub arrived_one : ℕ → DeviceSeen → Received → DeviceSeen
arrived_one now d t = after_event (Arrive t.packet now) d

-- So many packets were received, in some order of the rings, each after those that were received from its ring before. Each of
-- them arrived at the device, in the same order and with all its fields, and nothing else happened to the device, which lost no place.
pub record Collects (now : ℕ) (before after : List (List Descriptor)) (device device' : DeviceSeen) (count : ℕ) : Type 0 where
  pub takes : List Received
  pub counted : length takes ≡ count
  pub rings : All (λ (t : Received). t.ring < length before) takes
  pub received : after ≡ fold received_one before takes
  pub arrived : device' ≡ with_memory device'.memory (fold (arrived_one now) device takes)
  pub places : KeepsPlaces device device'

-- So many packets were received, in some order of the rings, each after those that were received from its ring before.
pub record HasReceived (before after : List (List Descriptor)) (count : ℕ) : Type 0 where
  pub takes : List Received
  pub counted : length takes ≡ count
  pub rings : All (λ (t : Received). t.ring < length before) takes
  pub received : after ≡ fold received_one before takes

-- the same of some number of packets
abbrev pub CollectsSome : ℕ → List (List Descriptor) → List (List Descriptor) → DeviceSeen → DeviceSeen → Type 0
CollectsSome now before after device device' = (count : ℕ) × Collects now before after device device' count

-- the same, and where no packet was received nothing at all has happened to the device
abbrev pub CollectsOnly : ℕ → List (List Descriptor) → List (List Descriptor) → DeviceSeen → DeviceSeen → Type 0
CollectsOnly now before after device device' = (count : ℕ) × Collects now before after device device' count × (count ≡ 0 → device' ≡ device)

-- some device, which the lock held, so became another
abbrev pub CollectedBySome : ℕ → List (List Descriptor) → List (List Descriptor) → Type 0
CollectedBySome now before after = (device : DeviceSeen) × (device' : DeviceSeen) × CollectsSome now before after device device'

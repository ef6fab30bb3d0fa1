-- What is taken in from one ring: its packets arrive at a device and leave the ring, one by one.
-- Nothing here is of a standard.
use Rattle.std.specs.Prelude.{◌≡◌, ℕ, ◌+◌, List, ◌∷◌, ◌++◌, drop, length}
use mathlib.Core.List.{IsPrefix}
use Rattle.std.specs.List.{fold}
use Rattle.q_packet.specs.Descriptor.{Descriptor}
use Rattle.q_model.specs.Tally.{with_packet}
use Rattle.q_model.specs.declared.event.Event.TheVariants.{Arrive}
use Rattle.q_model.specs.declared.totals.Totals.{Totals}
use Rattle.q_device.specs.device.DeviceSeen.{DeviceSeen, HasRoomFor}
use Rattle.q_device.specs.DeviceLaws.{HasItsMemory}
use Rattle.q_device.specs.Events.{after_event, with_memory}
use Rattle.q_ports.specs.Placed.{bytes_in}
use Rattle.q_ports.specs.Rings.{RingSeen, popped}
use Rattle.q_device.specs.device.Room.{KeepsPlaces, StaysButForPlaces}

-- the packet arrived at the device
abbrev pub arriving : ℕ → DeviceSeen → Descriptor → DeviceSeen
arriving now d p = after_event (Arrive p now) d

-- what the device counts as arrived
abbrev pub arrived_at : DeviceSeen → Totals
arrived_at d = d.device.tree.top.arrived

-- The first packet that was known to wait arrived at the device with all its fields, and was received. Nothing else happened to
-- either, and the device counts the packet as arrived and has lost no place.
pub record TakesFirst (now : ℕ) (before after : RingSeen) (device device' : DeviceSeen) : Type 0 where
  pub packet : Descriptor
  pub first : before.known ≡ packet ∷ drop 1 before.known
  pub received : after ≡ popped packet before
  pub arrived : device' ≡ with_memory device'.memory (arriving now device packet)
  pub counted : arrived_at device' ≡ with_packet (arrived_at device) packet
  pub places : KeepsPlaces device device'

-- So many packets were received from the ring, behind those that were received before: first those that were known to wait there, in
-- their order. Each arrived at the device, in the same order and with all its fields, and nothing else happened to the device, which
-- counts them as arrived and has lost no place.
pub record TakesIn (now : ℕ) (before after : RingSeen) (device device' : DeviceSeen) (count : ℕ) : Type 0 where
  pub packets : List Descriptor
  pub counted : length packets ≡ count
  pub ring : after.ring ≡ before.ring
  pub received : after.received ≡ before.received ++ packets
  pub waited : IsPrefix before.known (packets ++ after.known)
  pub arrived : device' ≡ with_memory device'.memory (fold (arriving now) device packets)
  pub packets_counted : (arrived_at device').packets ≡ (arrived_at device).packets + length packets
  pub bytes_counted : (arrived_at device').bytes ≡ (arrived_at device).bytes + bytes_in packets
  pub places : KeepsPlaces device device'

-- a packet waits first in the ring, and the device, whose memory is that of its own tree, has no room for it
pub record HasNoRoomForFirst (device : DeviceSeen) (ring : RingSeen) : Type 0 where
  pub packet : Descriptor
  pub waits : ring.known ≡ packet ∷ drop 1 ring.known
  pub memory : HasItsMemory device
  pub room : HasRoomFor packet device → ⊥

-- So many packets were taken in, for which no place was lost. The device then had no room for the packet that waits first in the
-- ring, and but for more places it has stayed as it was. Where no packet had arrived it was the very device of before. So a caller
-- who gave the device room for all packets that wait gets no allocation failure.
pub record StopsAtFirst (now : ℕ) (before after : RingSeen) (device device' : DeviceSeen) (taken : ℕ) : Type 0 where
  pub full : DeviceSeen
  pub takes : TakesIn now before after device full taken
  pub first : taken ≡ 0 → full ≡ device
  pub next : HasNoRoomForFirst full after
  pub stays : StaysButForPlaces full device'

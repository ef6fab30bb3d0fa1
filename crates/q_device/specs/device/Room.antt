-- The places of a device: for packets in its queues, for losses in its lost list, for events in its recorder.
-- They are memory, which no rule reads. Nothing here is of a standard.
use Rattle.std.specs.Prelude.{◌≡◌, ◌≤◌}
use Rattle.q_packet.specs.Descriptor.{Descriptor}
use Rattle.q_device.specs.device.DeviceSeen.{DeviceSeen, HasNoFewerPlaces, HasRoomFor}
use Rattle.q_device.specs.Events.{with_memory}

-- No queue and not the lost list has lost a place, and the recorder has those that it had.
pub record KeepsPlaces (before after : DeviceSeen) : Type 0 where
  pub queues : HasNoFewerPlaces before.memory after.memory
  pub losses : before.memory.losses ≤ after.memory.losses
  pub events : after.memory.events ≡ before.memory.events

-- A refused arrival leaves the device as it was but for places, of which it takes none away: what there was room for there is room
-- for still.
pub record StaysButForPlaces (before after : DeviceSeen) : Type 0 where
  pub stays : after ≡ with_memory after.memory before
  pub places : KeepsPlaces before after
  pub room : (p : Descriptor) → HasRoomFor p before → HasRoomFor p after

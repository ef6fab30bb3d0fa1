-- What an arrival of a packet by its first bytes does, whichever call makes it.
-- The calls are this project's own; what the packet is, Structs.antt says.
use Rattle.std.specs.Prelude.{◌≡◌, ℕ, ◌<◌, ◌≤◌, ◌^◌}
use Rattle.q_packet.specs.declared.stored_packet.StoredPacket.{StoredPacket}
use Rattle.qtree_c.specs.device.Calls.{Calls, IsArrival}
use Rattle.q_device.specs.device.Bursts.{arrival as arrival_of}
use Rattle.qtree_c.specs.events.Noting.{one_event, Notes}
use Rattle.qtree_c.specs.declared.abi.held_device.HeldDevice.{HeldDevice}

-- This packet arrives at a place; or the time is out of its range, or the length is 0, and nothing happens. An arrival is noted among the
-- last events, and nothing else is.
pub record IsFrameArrival (c : StoredPacket) (now code : ℕ) (before after : HeldDevice) : Type 0 where
  pub arrival : now ≤ 2 ^ 62 → Calls (IsArrival c now code) code before.device after.device
  pub moment : 2 ^ 62 < now → (code ≡ 42) × (after.device ≡ before.device)
  pub len : now ≤ 2 ^ 62 → code ≡ 42 → c.len ≡ 0
  pub noted : code ≤ 6 → Notes (one_event (arrival_of now c)) before.device before.last after.last
  pub unnoted : 6 < code → after.last ≡ before.last

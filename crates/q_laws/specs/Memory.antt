-- When a device has room for a packet again: as soon as no more are queued than when it had room, since its queues keep their places.
-- They are memory, which no rule reads. Nothing here is of a standard.
use Rattle.std.specs.Prelude.{◌≡◌, ℕ, ◌+◌, ◌≤◌, List, length, Option, Some, None}
use Rattle.q_packet.specs.Descriptor.{Descriptor}
use Rattle.q_fqcodel.specs.FqState.{packets_of}
use Rattle.q_model.specs.Find.{node_at}
use Rattle.q_model.specs.Node.{Discipline, Fifo, Prio, Tbf, Drr, FqCodel, Node}
use Rattle.q_model.specs.Route.{device_route}
use Rattle.q_model.specs.Step.{DeviceState}
use Rattle.q_tree.specs.arrival.Arrivals.{CanCount}
use Rattle.q_tree.specs.Kept.{Kept}
use Rattle.q_device.specs.device.DeviceSeen.{DeviceSeen, HasNoFewerPlaces, HasRoomFor}

-- how many packets are in the queue of a fifo or an fq_codel; the others have none of their own
abbrev pub queued_in : Discipline → Option ℕ
queued_in (Fifo limit queue) = Some (length queue)
queued_in (FqCodel s) = Some (packets_of s.flows)
queued_in (Prio priomap) = None
queued_in (Tbf bucket limit) = None
queued_in (Drr s) = None

-- The packet is not refused on its way, and goes to the queue at the end of this path, in which so many are.
pub record GoesTo (p : Descriptor) (path : List ℕ) (queued : ℕ) (d : DeviceState Kept) : Type 0 where
  pub way : device_route p d.tree.device.mtu d.tree.root ≡ Some (record { path = path; refusal = None })
  pub end : Node Kept
  pub there : node_at path d.tree.root ≡ Some end
  pub packets : queued_in end.own.discipline ≡ Some queued

-- The device has all places that it had, and at least as many packets have been sent as have arrived since.
pub record HasNotFilled (before after : DeviceSeen) : Type 0 where
  pub queues : HasNoFewerPlaces before.memory after.memory
  pub losses : before.memory.losses ≤ after.memory.losses
  pub handed_out : before.handed_out ≤ after.handed_out
  pub sent : after.device.tree.top.arrived.packets + before.device.tree.top.sent.packets ≤ before.device.tree.top.arrived.packets + after.device.tree.top.sent.packets

-- So where a packet had room, another one that goes to the same queue has room once no more are queued there, as long as the device can
-- count it.
abbrev pub RoomIsThereAgain : DeviceSeen → DeviceSeen → Type 0
RoomIsThereAgain before after =
    (p q : Descriptor) (path : List ℕ) (first last : ℕ) → HasRoomFor p before → GoesTo p path first before.memory.tree → GoesTo q path last after.memory.tree → last ≤ first
    → HasNotFilled before after → CanCount after.memory.tree.tree.top.counts.arrived q → HasRoomFor q after

-- What the calls on the two ends of a ring do, and what they answer.
-- The rings are q_ports', and the numbers this project's own.
use Rattle.std.specs.Prelude.{◌≡◌, ◌≢◌, ◌⊎◌, ℕ, ◌+◌, ◌≤◌, ◌<◌, ◌^◌, List, [], All, length, map, slice_index_or, take, Option, Some, None}
use Rattle.std.specs.List.{fold}
use Rattle.q_device.specs.device.DeviceSeen.{DeviceSeen}
use Rattle.q_model.specs.Beneath.{totals_in}
use Rattle.q_ports.specs.Offered.{MayBeFull}
use Rattle.q_ports.specs.Placed.{PortSeen, bytes_in, placing, port_seen, ring_length}
use Rattle.q_ports.specs.Rings.{RingSeen}
use Rattle.q_ports.specs.TakenIn.{StopsAtFirst, TakesIn}
use Rattle.qtree_c.specs.abi.Structs.{IsPacket, count_of, zero_packet}
use Rattle.q_packet.specs.Stored.{descriptor}
use Rattle.qtree_c.specs.declared.abi.c_count.CCount.{CCount}
use Rattle.q_packet.specs.declared.stored_packet.StoredPacket.{StoredPacket}

-- A call on the place of one end. A closed one stays closed, and 50 is answered; an open one stays open, and the call does this to it.
abbrev pub CallsEnd : {A : Type 0} → (A → A → Type 0) → ℕ → Option A → Option A → Type 0
CallsEnd does code None new = (code ≡ 50) × (new ≡ None)
CallsEnd does code (Some x) None = ⊥
CallsEnd does code (Some x) (Some n) = does x n

-- A call on the places of a device and of an outlet, in this order. Where one of them is closed 50 is answered, and both are as they were.
abbrev pub CallsBoth : (DeviceSeen → DeviceSeen → RingSeen → RingSeen → Type 0) → ℕ → Option DeviceSeen → Option DeviceSeen → Option RingSeen → Option RingSeen → Type 0
CallsBoth does code None d' o o' = (code ≡ 50) × (d' ≡ None) × (o' ≡ o)
CallsBoth does code (Some d) d' None o' = (code ≡ 50) × (d' ≡ Some d) × (o' ≡ None)
CallsBoth does code (Some d) None (Some o) o' = ⊥
CallsBoth does code (Some d) (Some d') (Some o) None = ⊥
CallsBoth does code (Some d) (Some d') (Some o) (Some o') = does d d' o o'

-- both ends of a ring of so many places, in which nothing was placed, and whose port has this index
pub record IsNewRing (index places : ℕ) (p : PortSeen) (o : RingSeen) : Type 0 where
  pub port : p ≡ port_seen index o.ring []
  pub length : ring_length p.ring ≡ places
  pub received : o.received ≡ []
  pub known : o.known ≡ []

abbrev pub AreOpened : ℕ → ℕ → Option PortSeen → Option RingSeen → Type 0
AreOpened index places None o = ⊥
AreOpened index places (Some p) None = ⊥
AreOpened index places (Some p) (Some o) = IsNewRing index places p o

-- The packet was placed, with the port's index and its number there; or the ring is full (33), or a field is out of its range (42),
-- and nothing happened.
pub record IsOffer (c : StoredPacket) (code : ℕ) (p n : PortSeen) : Type 0 where
  pub placed : code ≡ 0 → n ≡ placing p (descriptor c)
  pub same : code ≢ 0 → n ≡ p
  pub in_range : code ≢ 42 → IsPacket c
  pub out_of_range : IsPacket c → code ≢ 42
  pub full : code ≢ 0 → code ≢ 42 → (code ≡ 33) × ((ring_length p.ring ≤ length p.placed) ⊎ (2 ^ 64 ≤ bytes_in p.placed + c.len))

-- The first packets were placed in order, each as by one offer, to the end, or to one of which a field is out of its range (42), or which
-- finds the ring full (33).
pub record IsOffers (packets : List StoredPacket) (code count : ℕ) (p n : PortSeen) : Type 0 where
  pub placed : n ≡ fold placing p (map descriptor (take count packets))
  pub in_range : All IsPacket (take count packets)
  pub most : count ≤ length packets
  pub all : code ≡ 0 → count ≡ length packets
  pub stopped : code ≢ 0 → count < length packets
  pub answers : code ≢ 0 → code ≢ 42 → code ≡ 33
  pub next : code ≡ 42 → IsPacket (slice_index_or packets count zero_packet) → ⊥
  pub next_in_range : code ≡ 33 → IsPacket (slice_index_or packets count zero_packet)
  pub full : code ≡ 33 → MayBeFull n (descriptor (slice_index_or packets count zero_packet))

-- The first packets of the ring arrived at the device, and left the ring, as many as waited or as were asked for; or memory was
-- refused (90) to the next, which stays the first of the ring.
pub record IsTakeIn (now most code taken : ℕ) (d d' : DeviceSeen) (o o' : RingSeen) : Type 0 where
  pub few : taken ≤ most
  pub takes : TakesIn now o o' d d' taken
  pub whole : code ≡ 0 → taken < most → o'.known ≡ []
  pub memory : code ≢ 0 → code ≡ 90
  pub stopped : code ≢ 0 → StopsAtFirst now o o' d d' taken

-- what was placed by a port, and what was taken in of an outlet
pub record IsPlaced (code : ℕ) (after : CCount) (p n : PortSeen) : Type 0 where
  pub same : n ≡ p
  pub answer : code ≡ 0
  pub share : after ≡ count_of (totals_in p.placed)

pub record IsTakenIn (code : ℕ) (after : CCount) (o n : RingSeen) : Type 0 where
  pub same : n ≡ o
  pub answer : code ≡ 0
  pub share : after ≡ count_of (totals_in o.received)

-- A port: its index, its ring, and what it placed there, in order.
-- The fields `port` and `number` of a placed packet are the port's own. Nothing here is of a standard.
use Rattle.std.specs.Prelude.{◌≡◌, ℕ, ◌+◌, ◌<◌, ◌^◌, List, [], ◌∷◌, ◌++◌, length, sum_by}
use Rattle.std.specs.declared.alloc.Global.{Global}
use denote.RawPtr.{Ptr}
use Rattle.rtrb.specs.declared.producer.Producer.{Producer}
use Rattle.rtrb.specs.declared.consumer.Consumer.{Consumer}
use Rattle.q_packet.specs.Descriptor.{Descriptor}
use Rattle.q_model.specs.declared.totals.Totals.{Totals}

-- which ring it is
pub record RingId : Type 0 where
  pub words : Ptr
  pub slots : Ptr
  pub names : ℕ × (ℕ × ℕ)
  pub heap : Global

-- how many packets fit in it
abbrev pub ring_length : RingId → ℕ
ring_length r = r.names.0

module _ {T P : Type 0} where
  -- the ring of an end that pushes
  abbrev pub ring_of : Producer T Global P → RingId
  ring_of p = record { words = p.end.words; slots = p.end.slots; names = p.end.names; heap = p.end.heap }

  -- the ring of an end that pops
  abbrev pub ring_at : Consumer T Global P → RingId
  ring_at c = record { words = c.end.words; slots = c.end.slots; names = c.end.names; heap = c.end.heap }

-- what a contract sees of a port
pub record PortSeen : Type 0 where
  pub index : ℕ
  pub ring : RingId
  pub placed : List Descriptor

abbrev pub port_seen : ℕ → RingId → List Descriptor → PortSeen
port_seen index ring placed = record { index = index; ring = ring; placed = placed }

abbrev pub ring_of_port : PortSeen → RingId
ring_of_port v = v.ring

-- the ring of the port has so many places
abbrev pub HasRing : ℕ → PortSeen → Type 0
HasRing places v = ring_length v.ring ≡ places

abbrev pub placed_by : PortSeen → List Descriptor
placed_by v = v.placed

-- the packet with the port's index and its own number there, counted from 1
abbrev pub written : PortSeen → Descriptor → Descriptor
written v p = record p { port = v.index; number = length v.placed + 1 }

-- a packet more was placed
abbrev pub placing : PortSeen → Descriptor → PortSeen
placing v p = record v { placed = v.placed ++ written v p ∷ [] }

-- the bytes of a list of packets
abbrev pub bytes_in : List Descriptor → ℕ
bytes_in packets = sum_by (λ (p : Descriptor). p.len) packets

-- so many packets, and so many bytes, that 64 bits count them
abbrev pub CanBeCounted : List Descriptor → Type 0
CanBeCounted packets = (length packets < 2 ^ 64) × (bytes_in packets < 2 ^ 64)

-- packets and bytes over several lists
abbrev pub share_of : List (List Descriptor) → Totals
share_of lists = record { packets = sum_by (λ (ps : List Descriptor). length ps) lists; bytes = sum_by bytes_in lists }

-- What a sender does with its load: each packet is offered at its port in order, and placed or given up.
-- Nothing here is of a standard.
use Rattle.std.specs.Prelude.{◌≡◌, ℕ, ◌+◌, ◌≤◌, ◌^◌, ◌⊎◌, ⊤, Bool, true, false, if◌then◌else◌, List, [], ◌∷◌, length, map, sum_by}
use Rattle.std.specs.List.{fold}
use Rattle.q_packet.specs.Descriptor.{Descriptor}
use Rattle.q_ports.specs.Placed.{PortSeen, bytes_in, placing, ring_length}

-- a packet that was offered, and whether the port took it
pub record Offer : Type 0 where
  pub packet : Descriptor
  pub placed : Bool

abbrev pub packet_in : Offer → Descriptor
packet_in o = o.packet

abbrev pub offering : PortSeen → Offer → PortSeen
offering v o = if o.placed then placing v o.packet else v

abbrev pub given_up_in : Offer → ℕ
given_up_in o = if o.placed then 0 else 1

-- the ring may be full, since as many packets were placed as it has places, or the bytes placed would pass 2^64 - 1
abbrev pub MayBeFull : PortSeen → Descriptor → Type 0
MayBeFull v p = (ring_length v.ring ≤ length v.placed) ⊎ (2 ^ 64 ≤ bytes_in v.placed + p.len)

-- the port may have been full for each packet that was given up
abbrev pub GivesUpWhereFull : PortSeen → List Offer → Type 0
GivesUpWhereFull v [] = ⊤
GivesUpWhereFull v (o ∷ offers) = (o.placed ≡ false → MayBeFull v o.packet) × GivesUpWhereFull (offering v o) offers

-- Each packet of the load was offered, in its order. The port placed some of them behind what it had placed before, and so many
-- were given up. Where the sender ran, and tries a packet once at least, the port may have been full for each of those.
pub record Offered (tries : ℕ) (ran : Bool) (before : PortSeen) (load : List Descriptor) (after : PortSeen) (given_up : ℕ) : Type 0 where
  pub offers : List Offer
  pub all : map packet_in offers ≡ load
  pub after_is : after ≡ fold offering before offers
  pub rest : given_up ≡ sum_by given_up_in offers
  pub full : ran ≡ true → 1 ≤ tries → GivesUpWhereFull before offers

-- the same of one packet
pub record OffersOne (before : PortSeen) (p : Descriptor) (after : PortSeen) (given_up : ℕ) : Type 0 where
  pub placed : Bool
  pub after_is : after ≡ offering before (record { packet = p; placed = placed })
  pub rest : given_up ≡ given_up_in (record { packet = p; placed = placed })

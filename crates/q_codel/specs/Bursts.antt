-- Packets that come to a fifo in a burst, all at the same time.
-- tc-pfifo(8): a packet is queued while the limit allows it. That a burst ends at a packet which the queue would have to ask about is this project's own.
use Rattle.std.specs.Prelude.{ℕ, ◌-◌, ◌≤◌, ◌<◌, ◌^◌, List, map, min}
use Rattle.q_packet.specs.Descriptor.{Descriptor}
use Rattle.q_packet.specs.Stored.{IsStored}
use Rattle.q_packet.specs.Totals.{count}
use Rattle.q_packet.specs.declared.stamped.Stamped.{Stamped}
use Rattle.q_packet.specs.declared.stored_packet.StoredPacket.{StoredPacket}
use Rattle.q_codel.specs.FifoState.{FifoState}
use Rattle.q_codel.specs.declared.limit.Limit.{Limit}
use Rattle.q_codel.specs.declared.limit.Limit.TheVariants.{Packets, Bytes}

-- each field of the packet is within its range, and the packet has no more bytes than this
pub record IsShort (longest : ℕ) (c : StoredPacket) : Type 0 where
  pub in_range : IsStored c
  pub short : c.len ≤ longest

-- each number of the packet fits its field
pub record HasWidths (c : StoredPacket) : Type 0 where
  pub port : c.port < 2 ^ 32
  pub number : c.number < 2 ^ 64
  pub buf : c.buf < 2 ^ 32
  pub hash : c.hash < 2 ^ 32
  pub len : c.len < 2 ^ 16

-- the packets of a burst, as they are queued at this time
abbrev pub stamped_at : ℕ → List Descriptor → List Stamped
stamped_at now ps = map (λ (p : Descriptor). record { packet = p; at = now }) ps

-- How many packets more a limit allows, whatever their lengths are: one in bytes has to be asked about each.
abbrev pub allowed_by : Limit → ℕ → ℕ
allowed_by (Packets most) queued = most - queued
allowed_by (Bytes most) queued = 0

-- and how many of them there are places for
abbrev pub room_of : FifoState → ℕ
room_of f = min (f.places - count f.packets) (allowed_by f.limit (count f.packets))

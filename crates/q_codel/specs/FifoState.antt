-- A first-in first-out queue: its packets, its limit, and how many packets it has places for.
-- From tc-pfifo(8) and tc-bfifo(8): a packet is taken while the limit, in packets or in bytes, allows it.
use Rattle.std.specs.Prelude.{◌≡◌, ℕ, ◌+◌, ◌^◌, ◌<◌, ◌≤◌, Bool, List, All, nat_lt, nat_le}
use Rattle.q_packet.specs.Totals.{count, size}
use Rattle.q_packet.specs.declared.stamped.Stamped.{Stamped}
use Rattle.q_codel.specs.declared.limit.Limit.{Limit}
use Rattle.q_codel.specs.declared.limit.Limit.TheVariants.{Packets, Bytes}

pub record FifoState : Type 0 where
  pub packets : List Stamped
  pub limit : Limit
  pub places : ℕ

-- whether a queue under this limit takes one more packet of this length
abbrev pub takes : Limit → List Stamped → ℕ → Bool
takes (Packets most) queue len = nat_lt (count queue) most
takes (Bytes most) queue len = nat_le (size queue + len) most

-- the most packets that a queue has places for: more than any machine has memory for, and their bytes fit 64 bits
abbrev pub most_places : ℕ
most_places = 2 ^ 47

-- the bytes that are kept beside the packets are theirs, no length passes 16 bits, and the packets are not too many
pub record IsCounted (bytes : ℕ) (packets : List Stamped) : Type 0 where
  pub summed : bytes ≡ size packets
  pub short : All (λ s. s.packet.len < 2 ^ 16) packets
  pub few : count packets ≤ most_places

-- nor are the places
pub record IsKept (bytes : ℕ) (packets : List Stamped) (places : ℕ) : Type 0 where
  pub counted : IsCounted bytes packets
  pub usable : places ≤ most_places

-- A packet in the ranges of its type is in that of the laws.
use Rattle.std.proofs.Common.{◌<◌, ◌^◌, ℕ, arith}
use Rattle.std.specs.Prelude.{Bool, true, false, ◌==◌, if◌then◌else◌}
use Rattle.q_packet.specs.Descriptor.{Descriptor}
use Rattle.q_packet.specs.Key.{Key, IsKey, address_bits}
use Rattle.q_model.specs.Ranges.{HasKeyFields, HasPacketFields, IsPacket}

-- no family has wider addresses than the field
narrow : (family a : ℕ) → a < 2 ^ address_bits family → a < 2 ^ 128
narrow family a h = by (family == 4) h where
  by : (four : Bool) → a < 2 ^ (if four then 32 else 128) → a < 2 ^ 128
  by true e = omega (arith, e)
  by false e = e

key-fields : (k : Key) → IsKey k → HasKeyFields k
key-fields k h = record { family = h.family; proto = h.proto; src = narrow k.family k.src h.src; dst = narrow k.family k.dst h.dst; sport = h.sport; dport = h.dport }

pub packet-fields : (p : Descriptor) → IsPacket p → HasPacketFields p
packet-fields p h = record { port = h.port; number = h.number; buf = h.buf; len = h.len; key = key-fields p.key h.key; hash = h.hash; prio = h.prio }

-- A packet as it is stored, in the layout that C has too: its addresses are halves, and its codepoint is a number.
use Rattle.std.specs.Prelude.{◌*◌, ◌+◌, ◌/◌, ◌%◌, ◌^◌, ◌≤◌, ◌<◌}
use Rattle.q_packet.specs.Descriptor.{Descriptor}
use Rattle.q_packet.specs.Ecn.{codepoint, ecn_of}
use Rattle.q_packet.specs.Key.{Key, IsKey}
use Rattle.q_packet.specs.declared.stored_packet.StoredPacket.{StoredPacket}

-- the flow key that its fields say
abbrev pub key_of : StoredPacket → Key
key_of c = record {
  family = c.family;
  proto = c.proto;
  src = c.src_high * 2 ^ 64 + c.src_low;
  dst = c.dst_high * 2 ^ 64 + c.dst_low;
  sport = c.sport;
  dport = c.dport;
}

-- the descriptor that they say
abbrev pub descriptor : StoredPacket → Descriptor
descriptor c = record { port = c.port; number = c.number; buf = c.buf; len = c.len; key = key_of c; hash = c.hash; prio = c.prio; ecn = ecn_of c.ecn }

-- each field is within its range
pub record IsStored (c : StoredPacket) : Type 0 where
  pub key : IsKey (key_of c)
  pub len : 1 ≤ c.len
  pub prio : c.prio ≤ 15
  pub ecn : c.ecn ≤ 3
  pub src_low : c.src_low < 2 ^ 64
  pub dst_low : c.dst_low < 2 ^ 64

-- a descriptor as it is stored
abbrev pub stored_of : Descriptor → StoredPacket
stored_of p = record {
  src_high = p.key.src / 2 ^ 64;
  src_low = p.key.src % 2 ^ 64;
  dst_high = p.key.dst / 2 ^ 64;
  dst_low = p.key.dst % 2 ^ 64;
  number = p.number;
  port = p.port;
  buf = p.buf;
  hash = p.hash;
  len = p.len;
  sport = p.key.sport;
  dport = p.key.dport;
  proto = p.key.proto;
  family = p.key.family;
  prio = p.prio;
  ecn = codepoint p.ecn;
}

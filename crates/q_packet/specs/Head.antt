-- What the first bytes of a packet say of its flow, its priority and its ECN codepoint. Bytes are counted from 0, as in the
-- diagrams of RFC 791 section 3.1, RFC 8200 section 3 and, for ports, RFC 9293 section 3.1, RFC 768 and RFC 9260 section 3.
use Rattle.std.specs.Prelude.{ℕ, ◌+◌, ◌*◌, ◌/◌, ◌%◌, ◌^◌, ◌==◌, nat_le, Bool, ◌&&◌, ◌||◌, if◌then◌else◌, List, [], ◌∷◌, length, slice_index}
use Rattle.byteorder.specs.Endian.{big_from}
use Rattle.q_packet.specs.Key.{zero_key}
use Rattle.q_packet.specs.Ecn.{ecn_of}
use Rattle.q_packet.specs.declared.head.Head.{Head}
use Rattle.q_packet.specs.declared.ecn.Ecn.TheVariants.{NotEct}

-- the priority for each value of the four bits above the lowest of the traffic byte; the table is this project's own
abbrev pub prio_table : List ℕ
prio_table = 0 ∷ 0 ∷ 0 ∷ 0 ∷ 2 ∷ 2 ∷ 2 ∷ 2 ∷ 6 ∷ 6 ∷ 6 ∷ 6 ∷ 4 ∷ 4 ∷ 4 ∷ 4 ∷ []

abbrev pub prio_of : ℕ → ℕ
prio_of traffic = slice_index prio_table (traffic / 2 % 16)

-- the high four bits of byte 0
abbrev pub version : List ℕ → ℕ
version packet = slice_index packet 0 / 16

-- IPv4: the low four bits of byte 0 count the header in words of four bytes
abbrev pub header_length : List ℕ → ℕ
header_length packet = slice_index packet 0 % 16 * 4

-- IPv4: what follows the three flags in bytes 6 and 7, 13 bits
abbrev pub fragment_offset : List ℕ → ℕ
fragment_offset packet = big_from 6 2 packet % 2 ^ 13

-- IPv6: the eight bits behind the version
abbrev pub traffic_class : List ℕ → ℕ
traffic_class packet = slice_index packet 0 % 16 * 16 + slice_index packet 1 / 16

-- TCP, UDP and SCTP begin with the source and the destination port
abbrev pub has_ports : ℕ → Bool
has_ports proto = proto == 6 || proto == 17 || proto == 132

-- the header of protocol `proto` begins at byte `at`, and its ports are among the bytes that are there
abbrev pub ports_are_there : ℕ → ℕ → List ℕ → Bool
ports_are_there proto at packet = has_ports proto && nat_le (at + 4) (length packet)

-- the same behind an IPv4 header, which has none of them in a later fragment
abbrev pub ipv4_ports_are_there : ℕ → ℕ → List ℕ → Bool
ipv4_ports_are_there proto at packet = fragment_offset packet == 0 && ports_are_there proto at packet

-- the port at byte `at` where it is there, else 0
abbrev pub port : Bool → ℕ → List ℕ → ℕ
port there at packet = if there then big_from at 2 packet else 0

-- a packet of IPv4 with its whole header
unfoldable pub ipv4_head : List ℕ → Head
ipv4_head packet = record {
  key = record {
    family = 4;
    proto = slice_index packet 9;
    src = big_from 12 4 packet;
    dst = big_from 16 4 packet;
    sport = port ports (header_length packet) packet;
    dport = port ports (header_length packet + 2) packet;
  };
  prio = prio_of (slice_index packet 1);
  ecn = ecn_of (slice_index packet 1);
}
  where
    ports : Bool
    ports = ipv4_ports_are_there (slice_index packet 9) (header_length packet) packet

-- a packet of IPv6 with its whole header, whose next header is taken for the protocol
unfoldable pub ipv6_head : List ℕ → Head
ipv6_head packet = record {
  key = record {
    family = 6;
    proto = slice_index packet 6;
    src = big_from 8 16 packet;
    dst = big_from 24 16 packet;
    sport = port ports 40 packet;
    dport = port ports 42 packet;
  };
  prio = prio_of (traffic_class packet);
  ecn = ecn_of (traffic_class packet);
}
  where
    ports : Bool
    ports = ports_are_there (slice_index packet 6) 40 packet

-- what is neither, or has no whole header
abbrev pub zero_head : Head
zero_head = record { key = zero_key; prio = 0; ecn = NotEct }

-- an IPv4 header has at least 20 bytes, an IPv6 header always 40
abbrev pub is_ipv4 : List ℕ → Bool
is_ipv4 packet = version packet == 4 && nat_le 20 (header_length packet) && nat_le (header_length packet) (length packet)

abbrev pub is_ipv6 : List ℕ → Bool
is_ipv6 packet = version packet == 6 && nat_le 40 (length packet)

unfoldable pub head : List ℕ → Head
head packet = if is_ipv4 packet then ipv4_head packet else if is_ipv6 packet then ipv6_head packet else zero_head

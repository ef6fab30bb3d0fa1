-- What a mark with Congestion Experienced makes of the bytes of a packet. The codepoint is that of RFC 3168, section 5. The
-- checksum is that of RFC 791, section 3.1, summed as in RFC 1071, and renewed by equation 3 of RFC 1624, section 3.
use Rattle.std.specs.Prelude.{◌≡◌, ℕ, zero, suc, ◌+◌, ◌-◌, ◌*◌, ◌/◌, ◌%◌, ◌^◌, Bool, true, false, if◌then◌else◌, List, slice_index, slice_set}
use Rattle.byteorder.specs.Endian.{big_from}
use Rattle.q_packet.specs.Head.{head, header_length, is_ipv4}
use Rattle.q_packet.specs.declared.ecn.Ecn.{Ecn}
use Rattle.q_packet.specs.declared.ecn.Ecn.TheVariants.{NotEct, Ect1, Ect0, Ce}

-- the one's complement sum of two numbers of 16 bits: what is carried out at the top comes in again at the bottom
abbrev pub ones_sum : ℕ → ℕ → ℕ
ones_sum a b = (a + b) % 2 ^ 16 + (a + b) / 2 ^ 16

-- a number of 16 bits with every bit turned
abbrev pub ones_complement : ℕ → ℕ
ones_complement a = 65535 - a

-- the one's complement sum of the n words of 16 bits from byte i
abbrev pub words_sum : ℕ → ℕ → List ℕ → ℕ
words_sum i zero packet = 0
words_sum i (suc n) packet = ones_sum (big_from i 2 packet) (words_sum (i + 2) n packet)

-- the words of an IPv4 header, the checksum among them, sum to ones alone
abbrev pub HasRightChecksum : List ℕ → Type 0
HasRightChecksum packet = words_sum 0 (header_length packet / 2) packet ≡ 65535

-- the checksum in place of `checksum` where a word of the header was `old` and is `new`
abbrev pub renewed_checksum : ℕ → ℕ → ℕ → ℕ
renewed_checksum checksum old new = ones_complement (ones_sum (ones_sum (ones_complement checksum) (ones_complement old)) new)

-- a traffic byte with its low two bits set
abbrev pub with_ce : ℕ → ℕ
with_ce traffic = traffic / 4 * 4 + 3

-- IPv4: byte 1 is the traffic byte, and bytes 10 and 11 are the checksum
abbrev pub with_ce_ipv4 : List ℕ → List ℕ
with_ce_ipv4 packet = slice_set packet 1 (with_ce (slice_index packet 1))

abbrev pub with_checksum : ℕ → List ℕ → List ℕ
with_checksum checksum packet = slice_set (slice_set packet 10 (checksum / 256)) 11 (checksum % 256)

unfoldable pub marked_ipv4 : List ℕ → List ℕ
marked_ipv4 packet = with_checksum (renewed_checksum (big_from 10 2 packet) (big_from 0 2 packet) (big_from 0 2 (with_ce_ipv4 packet))) (with_ce_ipv4 packet)

-- IPv6: the low four bits of the traffic class are the high four of byte 1
unfoldable pub marked_ipv6 : List ℕ → List ℕ
marked_ipv6 packet = slice_set packet 1 (with_ce (slice_index packet 1 / 16) * 16 + slice_index packet 1 % 16)

-- ECT(0) and ECT(1) become CE; a packet that is CE stays so, and one whose transport takes no part in ECN is never marked
abbrev pub becomes_ce : Ecn → Bool
becomes_ce NotEct = false
becomes_ce Ect1 = true
becomes_ce Ect0 = true
becomes_ce Ce = false

unfoldable pub marked : List ℕ → List ℕ
marked packet = if becomes_ce (head packet).ecn then (if is_ipv4 packet then marked_ipv4 packet else marked_ipv6 packet) else packet

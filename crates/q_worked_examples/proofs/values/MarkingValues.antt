-- Marks and their checksums, on a known datagram and on the numbers of RFC 1624, section 4. The checksums of the datagram
-- with other traffic bytes were summed apart from these definitions.
use Rattle.std.proofs.Common.{◌≡◌, ℕ, List, [], ◌∷◌, ◌++◌, refl}
use Rattle.std.specs.Prelude.{replicate}
use Rattle.q_packet.specs.Head.{head, ipv4_head, ipv6_head}
use Rattle.q_packet.specs.Marking.{HasRightChecksum, marked, marked_ipv4, marked_ipv6, ones_sum, renewed_checksum, words_sum}

-- of 115 bytes, from 192.168.0.1 to 192.168.0.199: its identification, traffic byte and checksum
datagram : ℕ → ℕ → ℕ → ℕ → ℕ → List ℕ
datagram id id_low traffic high low =
    0x45 ∷ traffic ∷ 0 ∷ 0x73 ∷ id ∷ id_low ∷ 0x40 ∷ 0 ∷ 0x40 ∷ 0x11 ∷ high ∷ low ∷ 0xc0 ∷ 0xa8 ∷ 0 ∷ 1 ∷ 0xc0 ∷ 0xa8 ∷ 0 ∷ 0xc7 ∷ []

-- with a record-route option, its traffic byte and the low byte of its checksum
routed : ℕ → ℕ → List ℕ
routed traffic low =
    0x48 ∷ traffic ∷ 0 ∷ 0x2c ∷ 0xe4 ∷ 0x2a ∷ 0x40 ∷ 0 ∷ 0x40 ∷ 0x11 ∷ 0x44 ∷ low ∷ 0x7f ∷ 0 ∷ 0 ∷ 1 ∷ 0x7f ∷ 0 ∷ 0 ∷ 1
    ∷ 7 ∷ 0x0b ∷ 8 ∷ 0x7f ∷ 0 ∷ 0 ∷ 1 ∷ 0 ∷ 0 ∷ 0 ∷ 0 ∷ 0 ∷ []

-- version 6 with bytes 0 and 1
ipv6 : ℕ → ℕ → List ℕ
ipv6 first second = first ∷ second ∷ 0x35 ∷ 0x54 ∷ 0 ∷ 0 ∷ 17 ∷ 64 ∷ replicate 15 0 ++ 1 ∷ replicate 15 0 ++ 2 ∷ []

-- 0xfffe and 2 carry into the lowest bit, and 0xffff is the other zero
carries : ones_sum 0xfffe 2 ∷ ones_sum 0xffff 0xffff ∷ ones_sum 0x1234 0x4321 ∷ [] ≡ 1 ∷ 0xffff ∷ 0x5555 ∷ []
carries = refl

-- 0xdd2f is renewed to 0, where the older equation gives 0xffff
of_the_rfc : renewed_checksum 0xdd2f 0x5555 0x3285 ≡ 0
of_the_rfc = refl

right : HasRightChecksum (datagram 0 0 0 0xb8 0x61)
unfolding datagram
right = refl

wrong : words_sum 0 10 (datagram 0 0 0 0xb8 0x60) ≡ 0xfffe
unfolding datagram
wrong = refl

right_with_options : HasRightChecksum (routed 0xb9 0x51)
unfolding routed
right_with_options = refl

from_ect0 : marked (datagram 0 0 2 0xb8 0x5f) ≡ datagram 0 0 3 0xb8 0x5e
unfolding marked marked_ipv4 head ipv4_head datagram
from_ect0 = refl

from_ect1 : marked (datagram 0 0 1 0xb8 0x60) ≡ datagram 0 0 3 0xb8 0x5e
unfolding marked marked_ipv4 head ipv4_head datagram
from_ect1 = refl

not_ect_stays : marked (datagram 0 0 0 0xb8 0x61) ≡ datagram 0 0 0 0xb8 0x61
unfolding marked marked_ipv4 head ipv4_head datagram
not_ect_stays = refl

ce_stays : marked (datagram 0 0 3 0xb8 0x5e) ≡ datagram 0 0 3 0xb8 0x5e
unfolding marked marked_ipv4 head ipv4_head datagram
ce_stays = refl

with_options : marked (routed 0xb9 0x51) ≡ routed 0xbb 0x4f
unfolding marked marked_ipv4 head ipv4_head routed
with_options = refl

-- a checksum becomes 0; from either zero it becomes 0xfffe
to_zero : marked (datagram 0xb8 0x5e 2 0 1) ≡ datagram 0xb8 0x5e 3 0 0
unfolding marked marked_ipv4 head ipv4_head datagram
to_zero = refl

from_zero : marked (datagram 0xb8 0x5f 2 0 0) ≡ datagram 0xb8 0x5f 3 0xff 0xfe
unfolding marked marked_ipv4 head ipv4_head datagram
from_zero = refl

from_ones : marked (datagram 0xb8 0x5f 2 0xff 0xff) ≡ datagram 0xb8 0x5f 3 0xff 0xfe
unfolding marked marked_ipv4 head ipv4_head datagram
from_ones = refl

-- the four bits below the codepoint are the flow label's
ipv6_from_ect1 : marked (ipv6 0x62 0x99) ≡ ipv6 0x62 0xb9
unfolding marked marked_ipv6 head ipv6_head ipv6
ipv6_from_ect1 = refl

ipv6_from_ect0 : marked (ipv6 0x60 0x2f) ≡ ipv6 0x60 0x3f
unfolding marked marked_ipv6 head ipv6_head ipv6
ipv6_from_ect0 = refl

ipv6_not_ect_stays : marked (ipv6 0x6f 0xcf) ≡ ipv6 0x6f 0xcf
unfolding marked marked_ipv6 head ipv6_head ipv6
ipv6_not_ect_stays = refl

-- too short a header, and another version
short_stays : marked (0x44 ∷ 2 ∷ replicate 30 0) ≡ 0x44 ∷ 2 ∷ replicate 30 0
unfolding marked head
short_stays = refl

other_stays : marked (0x55 ∷ 2 ∷ replicate 40 0) ≡ 0x55 ∷ 2 ∷ replicate 40 0
unfolding marked head
other_stays = refl

-- Heads of packets on the wire, read from bytes that are told field by field.
-- RFC 791, section 3.1; RFC 8200, section 3; the table of priorities is this project's own.
use Rattle.std.proofs.Common.{◌≡◌, ℕ, ◌*◌, List, [], ◌∷◌, ◌++◌, map, refl}
use Rattle.std.specs.Prelude.{replicate}
use Rattle.q_packet.specs.Ecn.{ecn_of}
use Rattle.q_packet.specs.Head.{head, ipv4_head, ipv6_head, zero_head, prio_of}
use Rattle.q_packet.specs.declared.ecn.Ecn.TheVariants.{NotEct, Ect1, Ect0, Ce}

-- version and header length, traffic byte, flags and fragment offset, protocol; what stands behind the addresses
-- 10.0.0.1 and 10.0.0.2
ipv4 : ℕ → ℕ → ℕ → ℕ → ℕ → List ℕ → List ℕ
ipv4 first traffic flags offset proto behind =
    first ∷ traffic ∷ 0 ∷ 0 ∷ 0 ∷ 0 ∷ flags ∷ offset ∷ 64 ∷ proto ∷ 0 ∷ 0 ∷ 10 ∷ 0 ∷ 0 ∷ 1 ∷ 10 ∷ 0 ∷ 0 ∷ 2 ∷ behind

-- version and traffic byte, next header; what stands behind the addresses ::1 and ::2
ipv6 : ℕ → ℕ → ℕ → List ℕ → List ℕ
ipv6 first second proto behind =
    first ∷ second ∷ 0 ∷ 0 ∷ 0 ∷ 0 ∷ proto ∷ 64 ∷ replicate 15 0 ++ 1 ∷ replicate 15 0 ++ 2 ∷ behind

-- ports 53 and 54
ports : List ℕ
ports = 0 ∷ 53 ∷ 0 ∷ 54 ∷ []

seen : List ℕ → List ℕ
seen packet =
    let h = head packet in
    h.key.family ∷ h.key.proto ∷ h.key.src ∷ h.key.dst ∷ h.key.sport ∷ h.key.dport ∷ []

nothing : List ℕ
nothing = 0 ∷ 0 ∷ 0 ∷ 0 ∷ 0 ∷ 0 ∷ []

priorities : map (λ n. prio_of (2 * n)) (0 ∷ 1 ∷ 2 ∷ 3 ∷ 4 ∷ 5 ∷ 6 ∷ 7 ∷ 8 ∷ 9 ∷ 10 ∷ 11 ∷ 12 ∷ 13 ∷ 14 ∷ 15 ∷ []) ≡
    0 ∷ 0 ∷ 0 ∷ 0 ∷ 2 ∷ 2 ∷ 2 ∷ 2 ∷ 6 ∷ 6 ∷ 6 ∷ 6 ∷ 4 ∷ 4 ∷ 4 ∷ 4 ∷ []
priorities = refl

-- the lowest bit and the high three do not count
other_bits : map prio_of (0x01 ∷ 0x11 ∷ 0x1f ∷ 0xe8 ∷ 0xff ∷ []) ≡ 0 ∷ 6 ∷ 4 ∷ 2 ∷ 4 ∷ []
other_bits = refl

codepoints : map ecn_of (0xfc ∷ 0x01 ∷ 0x02 ∷ 0x03 ∷ []) ≡ NotEct ∷ Ect1 ∷ Ect0 ∷ Ce ∷ []
codepoints = refl

-- TCP, UDP and SCTP have ports; ICMP and ESP have none, whatever stands there
protocols :
    map (λ proto. seen (ipv4 0x45 0 0 0 proto ports)) (6 ∷ 17 ∷ 132 ∷ 1 ∷ 50 ∷ []) ≡
    (4 ∷ 6 ∷ 0x0a000001 ∷ 0x0a000002 ∷ 53 ∷ 54 ∷ []) ∷
    (4 ∷ 17 ∷ 0x0a000001 ∷ 0x0a000002 ∷ 53 ∷ 54 ∷ []) ∷
    (4 ∷ 132 ∷ 0x0a000001 ∷ 0x0a000002 ∷ 53 ∷ 54 ∷ []) ∷
    (4 ∷ 1 ∷ 0x0a000001 ∷ 0x0a000002 ∷ 0 ∷ 0 ∷ []) ∷
    (4 ∷ 50 ∷ 0x0a000001 ∷ 0x0a000002 ∷ 0 ∷ 0 ∷ []) ∷ []
unfolding head ipv4_head seen ipv4 ports
protocols = refl

-- the three flags do not count; any of the 13 bits of the offset does
first_fragments : map (λ flags. (head (ipv4 0x45 0 flags 0 17 ports)).key.sport) (0x20 ∷ 0x40 ∷ 0xe0 ∷ []) ≡ 53 ∷ 53 ∷ 53 ∷ []
unfolding head ipv4_head ipv4 ports
first_fragments = refl

later_fragments : map (λ flags. (head (ipv4 0x45 0 flags 0 17 ports)).key.sport) (0x10 ∷ 0x01 ∷ 0x3f ∷ []) ≡ 0 ∷ 0 ∷ 0 ∷ []
unfolding head ipv4_head ipv4 ports
later_fragments = refl

last_bits : map (λ offset. (head (ipv4 0x45 0 0 offset 17 ports)).key.dport) (0x01 ∷ 0x80 ∷ []) ≡ 0 ∷ 0 ∷ []
unfolding head ipv4_head ipv4 ports
last_bits = refl

-- a header of four words is none, one of six has its ports behind it, and one longer than the bytes is not whole
short_header : head (ipv4 0x44 0 0 0 17 ports) ≡ zero_head
unfolding head ipv4 ports
short_header = refl

with_options : seen (ipv4 0x46 0 0 0 17 (9 ∷ 9 ∷ 9 ∷ 9 ∷ ports)) ≡ 4 ∷ 17 ∷ 0x0a000001 ∷ 0x0a000002 ∷ 53 ∷ 54 ∷ []
unfolding head ipv4_head seen ipv4 ports
with_options = refl

cut_options : seen (ipv4 0x46 0 0 0 17 []) ≡ nothing
unfolding head seen ipv4 nothing
cut_options = refl

-- 40 bytes are a whole header of IPv6, and 39 are none; ports stand right behind it
whole_ipv6 : seen (ipv6 0x60 0 17 []) ≡ 6 ∷ 17 ∷ 1 ∷ 2 ∷ 0 ∷ 0 ∷ []
unfolding head ipv6_head seen ipv6
whole_ipv6 = refl

ipv6_with_ports : seen (ipv6 0x60 0 6 ports) ≡ 6 ∷ 6 ∷ 1 ∷ 2 ∷ 53 ∷ 54 ∷ []
unfolding head ipv6_head seen ipv6 ports
ipv6_with_ports = refl

ipv6_without_ports : seen (ipv6 0x60 0 58 ports) ≡ 6 ∷ 58 ∷ 1 ∷ 2 ∷ 0 ∷ 0 ∷ []
unfolding head ipv6_head seen ipv6 ports
ipv6_without_ports = refl

cut_ipv6 : seen (0x60 ∷ replicate 38 0) ≡ nothing
unfolding head seen nothing
cut_ipv6 = refl

-- the traffic byte of IPv6 lies across two bytes: 0x1b has the priority 4 and the codepoint Ce
ipv6_traffic : (let h = head (ipv6 0x61 0xb0 17 []) in (h.prio ≡ 4) × (h.ecn ≡ Ce))
unfolding head ipv6_head ipv6
ipv6_traffic = (refl, refl)

other_version : seen (ipv4 0x55 0 0 0 17 ports) ≡ nothing
unfolding head seen ipv4 ports nothing
other_version = refl

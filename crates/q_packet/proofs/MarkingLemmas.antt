-- What marking writes, and that the head is the same but for its codepoint.
use Rattle.std.proofs.Common.{◌≡◌, ℕ, zero, suc, ◌+◌, ◌*◌, ◌/◌, ◌%◌, ◌<◌, ◌≤◌, true, false, List, [], ◌∷◌, length, set, slice_index, ◌⊎◌, inl, inr, refl, sym, ap, subst, ◌∙◌, arith}
use Rattle.std.proofs.Math.ListN.{length-set}
use Rattle.std.proofs.lemmas.Bool.{agree_below_at, and_left, and_parts, both_ways, cases_Bool, cond-false, cond-true, eqb-true, leb-true, ne_eqb}
use Rattle.std.proofs.lemmas.List.{get_or-set_same, get_or-set_other}
use Rattle.std.proofs.lemmas.Nat.{and_mask}
use Rattle.std.proofs.lemmas.Nat.Bits.{and_high}
use Rattle.std.specs.Prelude.{◌==◌, ◌≢◌}
use Rattle.std.specs.Int.Bits.{bit_or, or_add_and}
use Rattle.byteorder.specs.Endian.{big_from}
use Rattle.q_packet.specs.Ecn.{ecn_of, is_capable}
use Rattle.q_packet.specs.Head.{head, header_length, ipv4_head, ipv6_head, is_ipv4, is_ipv6, prio_of, prio_table, traffic_class, version, zero_head}
use Rattle.q_packet.specs.Marking.{becomes_ce, marked, marked_ipv4, marked_ipv6, ones_complement, renewed_checksum, with_ce, with_ce_ipv4, with_checksum}
use Rattle.q_packet.specs.declared.head.Head.{Head}
use Rattle.q_packet.specs.declared.ecn.Ecn.{Ecn}
use Rattle.q_packet.specs.declared.ecn.Ecn.TheVariants.{Ect1, Ect0, Ce}
use Rattle.q_packet.proofs.HeadLemmas.{head_is_ipv4, head_is_ipv6}

-- ---- bits

pub set_low_two : (b : ℕ) → bit_or b 3 ≡ with_ce b
set_low_two b = let both = or_add_and b 3 in let low = and_mask b 2 in omega arith

pub set_four_and_five : (b : ℕ) → bit_or b 48 ≡ with_ce (b / 16) * 16 + b % 16
set_four_and_five b = let both = or_add_and b 48 in let high = and_high b 2 4 in omega arith

-- ---- the codepoint and the priority of a marked traffic byte

pub ecn_of-with_ce : (b : ℕ) → ecn_of (with_ce b) ≡ Ce
ecn_of-with_ce b = let low : with_ce b % 4 ≡ 3 = omega arith in rw low refl

-- the priority does not depend on the ECN field
quarter : ℕ → ℕ
quarter i = slice_index (0 ∷ 2 ∷ 6 ∷ 4 ∷ []) (i / 4)

by_quarters : (i : ℕ) → i < 16 → slice_index prio_table i ≡ quarter i
unfolding quarter
by_quarters i below = eqb-true _ _ (agree_below_at (λ j. slice_index prio_table j == quarter j) (λ _. true) 16 i refl below)

pub prio_of-with_ce : (b : ℕ) → prio_of (with_ce b) ≡ prio_of b
unfolding quarter
prio_of-with_ce b =
    let same : with_ce b / 2 % 16 / 4 ≡ b / 2 % 16 / 4 = omega arith in
    by_quarters (with_ce b / 2 % 16) (omega arith) ∙ ap (λ (i : ℕ). slice_index (0 ∷ 2 ∷ 6 ∷ 4 ∷ []) i) same ∙ sym (by_quarters (b / 2 % 16) (omega arith))

-- ---- bytes that stay

-- two lists that agree on the n bytes from place i have the same number there
pub big_from_same : (i n : ℕ) (xs ys : List ℕ) → ((j : ℕ) → i ≤ j → j < i + n → slice_index ys j ≡ slice_index xs j) → big_from i n ys ≡ big_from i n xs
big_from_same i zero xs ys same = refl
big_from_same i (suc n) xs ys same =
    let here : slice_index ys i ≡ slice_index xs i = same i (omega arith) (omega arith) in
    let rest : big_from (suc i) n ys ≡ big_from (suc i) n xs = big_from_same (suc i) n xs ys (λ j low high. same j (omega arith) (omega arith)) in
    cc

-- what is written of an IPv4 header: its traffic byte, and the checksum
pub record Marks4 (old new : List ℕ) : Type 0 where
  pub len : length new ≡ length old
  pub bytes : (i : ℕ) → i ≢ 1 → i ≢ 10 → i ≢ 11 → slice_index new i ≡ slice_index old i
  pub traffic : slice_index new 1 ≡ with_ce (slice_index old 1)
  pub checksum : big_from 10 2 new ≡ renewed_checksum (big_from 10 2 old) (big_from 0 2 old) (big_from 0 2 new)

-- what is written of an IPv6 header: the low half of its traffic class
pub record Marks6 (old new : List ℕ) : Type 0 where
  pub len : length new ≡ length old
  pub bytes : (i : ℕ) → i ≢ 1 → slice_index new i ≡ slice_index old i
  pub traffic : slice_index new 1 ≡ with_ce (slice_index old 1 / 16) * 16 + slice_index old 1 % 16

pub marks6 : (packet : List ℕ) → 2 ≤ length packet → Marks6 packet (marked_ipv6 packet)
unfolding marked_ipv6
marks6 packet there = record {
  len = simp length-set;
  bytes = λ i not_1. get_or-set_other packet 1 i _ 0 not_1;
  traffic = get_or-set_same packet 1 _ 0 (omega arith);
}

complement_fits : (a : ℕ) → ones_complement a < 65536
complement_fits a = omega arith

-- the same for any value in the checksum's place
pub written : (value : ℕ) (packet : List ℕ) → 12 ≤ length packet → value < 65536 → big_from 10 2 (with_checksum value packet) ≡ value
written value packet there fits =
    let high : slice_index (with_checksum value packet) 10 ≡ value / 256 =
    get_or-set_other (set packet 10 (value / 256)) 11 10 (value % 256) 0 (omega arith) ∙ get_or-set_same packet 10 (value / 256) 0 (omega arith) in
    let low : slice_index (with_checksum value packet) 11 ≡ value % 256 =
    get_or-set_same (set packet 10 (value / 256)) 11 (value % 256) 0 (omega (arith, length-set packet 10 (value / 256))) in
    omega arith

pub marks4 : (packet : List ℕ) → 12 ≤ length packet → Marks4 packet (marked_ipv4 packet)
unfolding marked_ipv4
marks4 packet there =
    let traffic = with_ce_ipv4 packet in
    let checksum = renewed_checksum (big_from 10 2 packet) (big_from 0 2 packet) (big_from 0 2 traffic) in
    let first : (i : ℕ) → i ≢ 10 → i ≢ 11 → slice_index (with_checksum checksum traffic) i ≡ slice_index traffic i =
    λ i not_10 not_11. get_or-set_other (set traffic 10 (checksum / 256)) 11 i (checksum % 256) 0 not_11 ∙ get_or-set_other traffic 10 i (checksum / 256) 0 not_10 in
    let same : big_from 0 2 (with_checksum checksum traffic) ≡ big_from 0 2 traffic =
    big_from_same 0 2 traffic (with_checksum checksum traffic) (λ j low high. first j (omega arith) (omega arith)) in
    let renewed = written checksum traffic (omega (arith, length-set packet 1 (with_ce (slice_index packet 1)))) (complement_fits _) in
    record {
      len = simp length-set;
      bytes = λ i not_1 not_10 not_11. first i not_10 not_11 ∙ get_or-set_other packet 1 i _ 0 not_1;
      traffic = first 1 (omega arith) (omega arith) ∙ get_or-set_same packet 1 _ 0 (omega arith);
      checksum = renewed ∙ ap (λ (n : ℕ). renewed_checksum (big_from 10 2 packet) (big_from 0 2 packet) n) (sym same);
    }

-- ---- the head that is read of a marked packet

-- a whole header of version 4, and of version 6
pub record IsIpv4 (packet : List ℕ) : Type 0 where
  pub version : version packet ≡ 4
  pub least : 20 ≤ header_length packet
  pub there : header_length packet ≤ length packet

pub record IsIpv6 (packet : List ℕ) : Type 0 where
  pub version : version packet ≡ 6
  pub there : 40 ≤ length packet

pub ipv4_parts : (packet : List ℕ) → is_ipv4 packet ≡ true → IsIpv4 packet
ipv4_parts packet is =
    let outer = and_parts _ _ is in
    let inner = and_parts _ _ outer.0 in
    record { version = eqb-true _ 4 inner.0; least = leb-true 20 _ inner.1; there = leb-true _ _ outer.1 }

pub ipv6_parts : (packet : List ℕ) → is_ipv6 packet ≡ true → IsIpv6 packet
ipv6_parts packet is =
    let parts = and_parts _ _ is in
    record { version = eqb-true _ 6 parts.0; there = leb-true 40 _ parts.1 }

-- numbers behind the checksum stay, and those before it but behind the traffic byte
pub behind4 : (at n : ℕ) (old new : List ℕ) → Marks4 old new → 12 ≤ at → big_from at n new ≡ big_from at n old
behind4 at n old new marks behind = big_from_same at n old new (λ j low high. marks.bytes j (omega arith) (omega arith) (omega arith))

pub before4 : (at n : ℕ) (old new : List ℕ) → Marks4 old new → 2 ≤ at → at + n ≤ 10 → big_from at n new ≡ big_from at n old
before4 at n old new marks behind before = big_from_same at n old new (λ j low high. marks.bytes j (omega arith) (omega arith) (omega arith))

behind6 : (at n : ℕ) (old new : List ℕ) → Marks6 old new → 2 ≤ at → big_from at n new ≡ big_from at n old
behind6 at n old new marks behind = big_from_same at n old new (λ j low high. marks.bytes j (omega arith))

pub head_marked4 : (old new : List ℕ) → Marks4 old new → IsIpv4 old → head new ≡ record (head old) { ecn = Ce }
unfolding ipv4_head
head_marked4 old new marks is =
    let first : slice_index new 0 ≡ slice_index old 0 = marks.bytes 0 (omega arith) (omega arith) (omega arith) in
    let header : header_length new ≡ header_length old = ap (λ (b : ℕ). b % 16 * 4) first in
    let whole = head_is_ipv4 old is.version is.least is.there in
    let whole_new = head_is_ipv4 new (ap (λ (b : ℕ). b / 16) first ∙ is.version) (omega (arith, is.least)) (omega (arith, is.there, marks.len)) in
    let proto : slice_index new 9 ≡ slice_index old 9 = marks.bytes 9 (omega arith) (omega arith) (omega arith) in
    let src : big_from 12 4 new ≡ big_from 12 4 old = behind4 12 4 old new marks (omega arith) in
    let dst : big_from 16 4 new ≡ big_from 16 4 old = behind4 16 4 old new marks (omega arith) in
    let fragment : big_from 6 2 new ≡ big_from 6 2 old = before4 6 2 old new marks (omega arith) (omega arith) in
    let sport : big_from (header_length old) 2 new ≡ big_from (header_length old) 2 old = behind4 (header_length old) 2 old new marks (omega (arith, is.least)) in
    let dport : big_from (header_length old + 2) 2 new ≡ big_from (header_length old + 2) 2 old = behind4 (header_length old + 2) 2 old new marks (omega (arith, is.least)) in
    let prio = ap prio_of marks.traffic ∙ prio_of-with_ce (slice_index old 1) in
    let ecn = ap ecn_of marks.traffic ∙ ecn_of-with_ce (slice_index old 1) in
    let len = marks.len in
    rw (whole_new, whole) (cc)

pub head_marked6 : (old new : List ℕ) → Marks6 old new → IsIpv6 old → head new ≡ record (head old) { ecn = Ce }
unfolding ipv6_head
head_marked6 old new marks is =
    let first : slice_index new 0 ≡ slice_index old 0 = marks.bytes 0 (omega arith) in
    let whole = head_is_ipv6 old is.version is.there in
    let whole_new = head_is_ipv6 new (ap (λ (b : ℕ). b / 16) first ∙ is.version) (omega (arith, is.there, marks.len)) in
    let proto : slice_index new 6 ≡ slice_index old 6 = marks.bytes 6 (omega arith) in
    let src : big_from 8 16 new ≡ big_from 8 16 old = behind6 8 16 old new marks (omega arith) in
    let dst : big_from 24 16 new ≡ big_from 24 16 old = behind6 24 16 old new marks (omega arith) in
    let sport : big_from 40 2 new ≡ big_from 40 2 old = behind6 40 2 old new marks (omega arith) in
    let dport : big_from 42 2 new ≡ big_from 42 2 old = behind6 42 2 old new marks (omega arith) in
    let traffic : traffic_class new ≡ with_ce (traffic_class old) = omega (arith, marks.traffic) in
    let prio = ap prio_of traffic ∙ prio_of-with_ce (traffic_class old) in
    let ecn = ap ecn_of traffic ∙ ecn_of-with_ce (traffic_class old) in
    let len = marks.len in
    rw (whole_new, whole) (cc)

-- ---- which header a packet has whose transport takes part in ECN

abbrev pub IsCapable : List ℕ → Type 0
IsCapable packet = is_capable (head packet).ecn ≡ true

-- what has neither whole header is not capable
neither : (packet : List ℕ) → IsCapable packet → is_ipv4 packet ≡ false → is_ipv6 packet ≡ false → ⊥
unfolding head
neither packet capable not_4 not_6 =
    let zero_read : head packet ≡ zero_head = cond-false (is_ipv4 packet) _ _ not_4 ∙ cond-false (is_ipv6 packet) _ _ not_6 in
    both_ways (is_capable (head packet).ecn) (ap (λ (h : Head). is_capable h.ecn) zero_read) capable

pub capable4 : (packet : List ℕ) → IsCapable packet → version packet ≡ 4 → is_ipv4 packet ≡ true
capable4 packet capable is_4 =
    elim (cases_Bool (is_ipv4 packet)) [
      | inl whole ↦ whole
      | inr not_4 ↦ elim (cases_Bool (is_ipv6 packet)) [
        | inl whole_6 ↦ let is = ipv6_parts packet whole_6 in absurd (omega (arith, is.version))
        | inr not_6 ↦ absurd (neither packet capable not_4 not_6)
      ]
    ]

pub other_version : (packet : List ℕ) → (version packet ≡ 4 → ⊥) → is_ipv4 packet ≡ false
other_version packet not_4 = and_left _ _ (and_left _ _ (ne_eqb _ 4 not_4))

pub capable6 : (packet : List ℕ) → IsCapable packet → is_ipv4 packet ≡ false → IsIpv6 packet
capable6 packet capable not_4 =
    elim (cases_Bool (is_ipv6 packet)) [
      | inl whole ↦ ipv6_parts packet whole
      | inr not_6 ↦ absurd (neither packet capable not_4 not_6)
    ]

pub capable_there : (packet : List ℕ) → IsCapable packet → 20 ≤ length packet
capable_there packet capable =
    elim (cases_Bool (is_ipv4 packet)) [
      | inl whole ↦ let is = ipv4_parts packet whole in omega (arith, is.least, is.there)
      | inr not_4 ↦ let is = capable6 packet capable not_4 in omega (arith, is.there)
    ]

-- ---- what `marked` is in each case

pub kept : (packet : List ℕ) → becomes_ce (head packet).ecn ≡ false → packet ≡ marked packet
unfolding marked
kept packet stays = sym (cond-false (becomes_ce (head packet).ecn) _ _ stays)

pub marked4 : (packet : List ℕ) → becomes_ce (head packet).ecn ≡ true → is_ipv4 packet ≡ true → marked_ipv4 packet ≡ marked packet
unfolding marked
marked4 packet becomes whole = sym (cond-true (becomes_ce (head packet).ecn) _ _ becomes ∙ cond-true (is_ipv4 packet) _ _ whole)

pub marked6 : (packet : List ℕ) → becomes_ce (head packet).ecn ≡ true → is_ipv4 packet ≡ false → marked_ipv6 packet ≡ marked packet
unfolding marked
marked6 packet becomes not_4 = sym (cond-true (becomes_ce (head packet).ecn) _ _ becomes ∙ cond-false (is_ipv4 packet) _ _ not_4)

-- the two codepoints that become CE
to_mark : (ecn : Ecn) → (ecn ≡ Ect0) ⊎ (ecn ≡ Ect1) → (becomes_ce ecn ≡ true) × (is_capable ecn ≡ true)
to_mark ecn is = elim is [
  | inl is_0 ↦ (ap becomes_ce is_0, ap is_capable is_0)
  | inr is_1 ↦ (ap becomes_ce is_1, ap is_capable is_1)
]

pub head_to_mark : (packet : List ℕ) (read : Head) → read ≡ head packet → (read.ecn ≡ Ect0) ⊎ (read.ecn ≡ Ect1)
    → (becomes_ce (head packet).ecn ≡ true) × IsCapable packet
head_to_mark packet read value is =
    subst (λ (h : Head). (becomes_ce h.ecn ≡ true) × (is_capable h.ecn ≡ true)) value (to_mark read.ecn is)

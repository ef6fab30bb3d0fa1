-- The head of a packet by its version, and the numbers that a reader of slices finds in it.
use Rattle.std.proofs.Common.{◌≡◌, ℕ, zero, suc, ◌+◌, ◌-◌, ◌≤◌, true, false, List, [], ◌∷◌, length, get_or, take, drop, slice_index, refl, ap, ◌∙◌, arith}
use Rattle.std.specs.Prelude.{nat_le, ◌==◌}
use Rattle.std.specs.List.{list_all}
use Rattle.std.proofs.lemmas.List.{get_or-drop}
use Rattle.std.proofs.lemmas.Bool.{leb-true, le-leb, eq-eqb, ne_eqb, and_parts, and_from, and_left, cond-true, cond-false}
use Rattle.byteorder.specs.Endian.{big_from, big_number}
use Rattle.byteorder.specs.Numbers.{big_from-take}
use Rattle.q_packet.specs.Head.{head, ipv4_head, ipv6_head, header_length, is_ipv4, is_ipv6, prio_of, prio_table, version}

-- every entry of a table that passes is at most m, and what is past its end is 0
entry_le : (m : ℕ) (table : List ℕ) (i : ℕ) → list_all (λ x. nat_le x m) table ≡ true → get_or table i 0 ≤ m
entry_le m [] i low = omega arith
entry_le m (x ∷ table) zero low = leb-true x m (and_parts (nat_le x m) (list_all (λ y. nat_le y m) table) low).0
entry_le m (x ∷ table) (suc i) low = entry_le m table i (and_parts (nat_le x m) (list_all (λ y. nat_le y m) table) low).1

pub prio_in_range : (traffic : ℕ) → prio_of traffic ≤ 15
prio_in_range traffic = entry_le 15 prio_table _ refl

-- the number at place j behind the first i bytes stands at place i + j
big_from-drop : (j i n : ℕ) (xs : List ℕ) → big_from j n (drop i xs) ≡ big_from (i + j) n xs
big_from-drop j i zero xs = refl
big_from-drop j i (suc n) xs =
    let here : slice_index (drop i xs) j ≡ slice_index xs (i + j) = get_or-drop i xs j 0 in
    let next : i + suc j ≡ suc (i + j) = omega arith in
    let rest : big_from (suc j) n (drop i xs) ≡ big_from (suc (i + j)) n xs =
    big_from-drop (suc j) i n xs ∙ ap (λ (k : ℕ). big_from k n xs) next in
    cc

-- what a read of n bytes gives at `&xs[i..]`
pub number_from : (xs : List ℕ) (i n : ℕ) → i + n ≤ length xs → big_number n (take (length xs - i) (drop i xs)) ≡ big_from i n xs
number_from xs i n there =
    big_from-take 0 n (length xs - i) (drop i xs) (omega arith) ∙ big_from-drop 0 i n xs ∙ ap (λ (k : ℕ). big_from k n xs) (omega arith)

-- a packet with its whole IPv4 header
pub head_is_ipv4 : (packet : List ℕ) → version packet ≡ 4 → 20 ≤ header_length packet → header_length packet ≤ length packet
    → head packet ≡ ipv4_head packet
unfolding head
head_is_ipv4 packet is_4 least there =
    let passes : is_ipv4 packet ≡ true = and_from _ _ (and_from _ _ (eq-eqb _ 4 is_4) (le-leb 20 _ least)) (le-leb _ _ there) in
    cond-true (is_ipv4 packet) _ _ passes

-- a packet with its whole IPv6 header
pub head_is_ipv6 : (packet : List ℕ) → version packet ≡ 6 → 40 ≤ length packet → head packet ≡ ipv6_head packet
unfolding head
head_is_ipv6 packet is_6 there =
    let other : (version packet == 4) ≡ false = ne_eqb _ 4 (λ is_4. absurd (omega arith)) in
    let fails : is_ipv4 packet ≡ false = and_left _ _ (and_left _ _ other) in
    let passes : is_ipv6 packet ≡ true = and_from _ _ (eq-eqb _ 6 is_6) (le-leb 40 _ there) in
    cond-false (is_ipv4 packet) _ _ fails ∙ cond-true (is_ipv6 packet) _ _ passes

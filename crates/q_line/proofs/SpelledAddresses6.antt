-- An address of version 6 is read as what was written of it, eight groups; and so is an address of either version.
use Rattle.std.proofs.Common.{◌≡◌, ◌∙◌, ℕ, zero, suc, ◌+◌, ◌*◌, ◌/◌, ◌%◌, ◌-◌, ◌<◌, ◌^◌, ◌&&◌, Bool, true, false, not, List, [], ◌∷◌, ◌++◌, length, drop, take, ltb, Ok, refl, ap, arith, if◌then◌else◌}
use Rattle.std.specs.List.{AllByRecursion, fold, join_with_byte, list_all, slice_split}
use Rattle.std.specs.Char.{is_digit}
use Rattle.std.proofs.lemmas.Bool.{le-leb}
use Rattle.std.proofs.lemmas.Bool.Decides.{nat_tests}
use Rattle.std.proofs.lemmas.List.{drop_all, take_all}
use Rattle.q_packet.proofs.LeastLemmas.{least_none}
use Rattle.q_model.specs.declared.ip_version.IpVersion.{IpVersion}
use Rattle.q_model.specs.declared.ip_version.IpVersion.TheVariants.{V4, V6}
use Rattle.q_model.specs.Options.{bits_of}
use Rattle.q_words.specs.Addresses.{address_of, begins_with_two, gap_at, groups_in, ipv4_of, ipv6_of, joined}
use Rattle.q_words.specs.Units.{is_point}
use Rattle.q_words.specs.Values.{is_colon}
use Rattle.q_line.proofs.SpelledWords.{both, digit_not_blank, digit_not_colon, digit_small, every_digit, left_of, right_of, not_true, wider}
use Rattle.q_line.proofs.SpelledSteps.{Word}
use Rattle.q_words.specs.Words.{is_blank, is_filled}
use Rattle.q_line.proofs.SpelledAddresses.{Plain, address4_read, all_joined, any_at, digit_plain, octets_all, split_joined}
use Rattle.q_line.specs.Spelling.{address_word, groups, hex, octets}
use Rattle.q_line.proofs.SpelledValues.{Hex, hex_of, not_below_itself}

-- no two colons stand side by side

abbrev NoTwo : List ℕ → Type 0
NoTwo bytes = (i : ℕ) → begins_with_two (drop i bytes) ≡ false

digit_front : (d : ℕ) (rest : List ℕ) → not (is_colon d) ≡ true → begins_with_two (d ∷ rest) ≡ false
digit_front d [] h = refl
digit_front d (b ∷ rest) h = ap (λ t. t && is_colon b) (not_true (is_colon d) h)

plain_end : (ds : List ℕ) → Plain is_colon ds → NoTwo ds
plain_end [] h zero = refl
plain_end [] h (suc i) = refl
plain_end (d ∷ ds) h zero = digit_front d ds (left_of (not (is_colon d)) _ h)
plain_end (d ∷ ds) h (suc i) = plain_end ds (right_of (not (is_colon d)) _ h) i

plain_front : (ds rest : List ℕ) → Plain is_colon ds → NoTwo rest → NoTwo (ds ++ rest)
plain_front [] rest h n i = n i
plain_front (d ∷ ds) rest h n zero = digit_front d (ds ++ rest) (left_of (not (is_colon d)) _ h)
plain_front (d ∷ ds) rest h n (suc i) = plain_front ds rest (right_of (not (is_colon d)) _ h) n i

colon_front : (rest : List ℕ) → begins_with_two (58 ∷ rest) ≡ false → NoTwo rest → NoTwo (58 ∷ rest)
colon_front rest h n zero = h
colon_front rest h n (suc i) = n i

abbrev IsGroup : List ℕ → Type 0
IsGroup part = Plain is_colon part × (0 < length part)

one_colon : (x : List ℕ) (parts : List (List ℕ)) → IsGroup x → begins_with_two (58 ∷ join_with_byte 58 (x ∷ parts)) ≡ false
one_colon [] parts h = let some = h.1 in absurd (omega arith)
one_colon (d ∷ ds) [] h = not_true (is_colon d) (left_of (not (is_colon d)) _ h.0)
one_colon (d ∷ ds) (y ∷ parts) h = not_true (is_colon d) (left_of (not (is_colon d)) _ h.0)

no_two : (x : List ℕ) (parts : List (List ℕ)) → AllByRecursion IsGroup (x ∷ parts) → NoTwo (join_with_byte 58 (x ∷ parts))
no_two x [] h = plain_end x h.0.0
no_two x (y ∷ parts) h = plain_front x (58 ∷ join_with_byte 58 (y ∷ parts)) h.0.0 (colon_front (join_with_byte 58 (y ∷ parts)) (one_colon y parts h.1.0) (no_two y parts h.1))

plain_parts : (parts : List (List ℕ)) → AllByRecursion IsGroup parts → AllByRecursion (Plain is_colon) parts
plain_parts [] h = h
plain_parts (x ∷ parts) h = (h.0.0, plain_parts parts h.1)

groups_split : (x : List ℕ) (parts : List (List ℕ)) → AllByRecursion IsGroup (x ∷ parts) → groups_in (join_with_byte 58 (x ∷ parts)) ≡ x ∷ parts
groups_split [] parts h = let some = h.0.1 in absurd (omega arith)
groups_split (d ∷ ds) [] h = split_joined is_colon 58 (d ∷ ds) [] refl (plain_parts ((d ∷ ds) ∷ []) h)
groups_split (d ∷ ds) (y ∷ parts) h = split_joined is_colon 58 (d ∷ ds) (y ∷ parts) refl (plain_parts ((d ∷ ds) ∷ y ∷ parts) h)

-- the word of so many groups, of which none is left out
parts_read : (x y : List ℕ) (parts : List (List ℕ)) → AllByRecursion IsGroup (x ∷ y ∷ parts) → address_of (join_with_byte 58 (x ∷ y ∷ parts)) ≡ ipv6_of (x ∷ y ∷ parts) [] false
parts_read x y parts h =
    let word = join_with_byte 58 (x ∷ y ∷ parts) in
    let whole : gap_at word ≡ length word = least_none (λ i. begins_with_two (drop i word)) (length word) (λ i _. no_two x (y ∷ parts) h i) in
    ap (λ (b : Bool). if b then ipv6_of (groups_in (take (gap_at word) word)) (groups_in (drop (suc (suc (gap_at word))) word))
    (ltb (gap_at word) (length word)) else ipv4_of (slice_split is_point word)) (any_at is_colon 58 x (join_with_byte 58 (y ∷ parts)) refl)
    ∙ ap (λ k. ipv6_of (groups_in (take k word)) (groups_in (drop (suc (suc k)) word)) (ltb k (length word))) whole
    ∙ ap (λ w. ipv6_of (groups_in w) (groups_in (drop (suc (suc (length word))) word)) (ltb (length word) (length word))) (take_all (length word) word (omega arith))
    ∙ ap (λ w. ipv6_of (groups_in word) (groups_in w) (ltb (length word) (length word))) (drop_all (suc (suc (length word))) word (omega arith))
    ∙ ap (λ t. ipv6_of (groups_in word) [] t) (not_below_itself (length word))
    ∙ ap (λ l. ipv6_of l [] false) (groups_split x (y ∷ parts) h)

-- eight groups

group : (n : ℕ) → Hex (n % 65536) (hex (n % 65536))
group n = hex_of (n % 65536) (omega arith)

is_group : (n : ℕ) → IsGroup (hex (n % 65536))
is_group n = (digit_plain is_colon 16 digit_not_colon (hex (n % 65536)) (group n).form, some (hex (n % 65536)) (left_of _ _ (group n).form))
  where
    some : (w : List ℕ) → ltb 0 (length w) ≡ true → 0 < length w
    some [] h = cc
    some (b ∷ w) h = omega arith

are_groups : (a : ℕ) → AllByRecursion IsGroup (groups a)
are_groups a =
    (is_group (a / 2 ^ 112), (is_group (a / 2 ^ 96), (is_group (a / 2 ^ 80), (is_group (a / 2 ^ 64), (is_group (a / 2 ^ 48), (is_group (a / 2 ^ 32), (is_group (a / 2 ^ 16), (is_group a, tt))))))))

-- a test that each digit passes, by the eight groups
pub groups_all : (t : ℕ → Bool) → ((c : ℕ) → is_digit c 16 ≡ true → t c ≡ true) → (a : ℕ) → AllByRecursion (λ part. list_all t part ≡ true) (groups a)
groups_all t each a =
    (all (a / 2 ^ 112), (all (a / 2 ^ 96), (all (a / 2 ^ 80), (all (a / 2 ^ 64), (all (a / 2 ^ 48), (all (a / 2 ^ 32), (all (a / 2 ^ 16), (all a, tt))))))))
  where
    all : (n : ℕ) → list_all t (hex (n % 65536)) ≡ true
    all n = every_digit 16 t each (hex (n % 65536)) (right_of (ltb 0 (length (hex (n % 65536)))) _ (group n).form)

abbrev onto : ℕ → List ℕ → ℕ
onto n parts = fold (λ n part. n * 65536 + part) n parts

-- one group more: what stands above it is the quotient
with_group : (a above here : ℕ) → here / 65536 ≡ above → above * 65536 + here % 65536 ≡ here
with_group a above here e = omega arith

groups_value : (a : ℕ) → a < 2 ^ 128
    → joined 65536 (a / 2 ^ 112 % 65536 ∷ a / 2 ^ 96 % 65536 ∷ a / 2 ^ 80 % 65536 ∷ a / 2 ^ 64 % 65536 ∷ a / 2 ^ 48 % 65536 ∷ a / 2 ^ 32 % 65536 ∷ a / 2 ^ 16 % 65536 ∷ a % 65536 ∷ []) ≡ a
groups_value a h =
    let g6 = a / 2 ^ 96 % 65536 in
    let g5 = a / 2 ^ 80 % 65536 in
    let g4 = a / 2 ^ 64 % 65536 in
    let g3 = a / 2 ^ 48 % 65536 in
    let g2 = a / 2 ^ 32 % 65536 in
    let g1 = a / 2 ^ 16 % 65536 in
    let g0 = a % 65536 in
    let top : 0 * 65536 + a / 2 ^ 112 % 65536 ≡ a / 2 ^ 112 = omega arith in
    ap (λ n. onto n (g6 ∷ g5 ∷ g4 ∷ g3 ∷ g2 ∷ g1 ∷ g0 ∷ [])) top
    ∙ ap (λ n. onto n (g5 ∷ g4 ∷ g3 ∷ g2 ∷ g1 ∷ g0 ∷ [])) (with_group a (a / 2 ^ 112) (a / 2 ^ 96) (omega arith))
    ∙ ap (λ n. onto n (g4 ∷ g3 ∷ g2 ∷ g1 ∷ g0 ∷ [])) (with_group a (a / 2 ^ 96) (a / 2 ^ 80) (omega arith))
    ∙ ap (λ n. onto n (g3 ∷ g2 ∷ g1 ∷ g0 ∷ [])) (with_group a (a / 2 ^ 80) (a / 2 ^ 64) (omega arith))
    ∙ ap (λ n. onto n (g2 ∷ g1 ∷ g0 ∷ [])) (with_group a (a / 2 ^ 64) (a / 2 ^ 48) (omega arith))
    ∙ ap (λ n. onto n (g1 ∷ g0 ∷ [])) (with_group a (a / 2 ^ 48) (a / 2 ^ 32) (omega arith))
    ∙ ap (λ n. onto n (g0 ∷ [])) (with_group a (a / 2 ^ 32) (a / 2 ^ 16) (omega arith))
    ∙ with_group a (a / 2 ^ 16) a (omega arith)

eight_read : (a b c d e f g h : ℕ) (x7 x6 x5 x4 x3 x2 x1 x0 : List ℕ) → Hex a x7 → Hex b x6 → Hex c x5 → Hex d x4 → Hex e x3 → Hex f x2 → Hex g x1 → Hex h x0
    → ipv6_of (x7 ∷ x6 ∷ x5 ∷ x4 ∷ x3 ∷ x2 ∷ x1 ∷ x0 ∷ []) [] false
    ≡ Ok (record { version = V6; address = joined 65536 (a ∷ b ∷ c ∷ d ∷ e ∷ f ∷ g ∷ h ∷ []) * 65536 ^ (8 - 8) + 0 })
eight_read a b c d e f g h x7 x6 x5 x4 x3 x2 x1 x0 p7 p6 p5 p4 p3 p2 p1 p0 =
    rw (p7.form, p6.form, p5.form, p4.form, p3.form, p2.form, p1.form, p0.form)
    (rw (le-leb _ _ p7.short, le-leb _ _ p6.short, le-leb _ _ p5.short, le-leb _ _ p4.short, le-leb _ _ p3.short, le-leb _ _ p2.short, le-leb _ _ p1.short, le-leb _ _ p0.short)
    (rw (p7.value, p6.value, p5.value, p4.value, p3.value, p2.value, p1.value, p0.value) refl))

address6_read : (a : ℕ) → a < 2 ^ 128 → address_of (join_with_byte 58 (groups a)) ≡ Ok (record { version = V6; address = a })
address6_read a h =
    let value = groups_value a h in
    parts_read _ _ (hex (a / 2 ^ 80 % 65536) ∷ hex (a / 2 ^ 64 % 65536) ∷ hex (a / 2 ^ 48 % 65536) ∷ hex (a / 2 ^ 32 % 65536) ∷ hex (a / 2 ^ 16 % 65536) ∷ hex (a % 65536) ∷ []) (are_groups a)
    ∙ eight_read _ _ _ _ _ _ _ _ _ _ _ _ _ _ _ _ (group (a / 2 ^ 112)) (group (a / 2 ^ 96)) (group (a / 2 ^ 80)) (group (a / 2 ^ 64))
    (group (a / 2 ^ 48)) (group (a / 2 ^ 32)) (group (a / 2 ^ 16)) (group a)
    ∙ ap (λ n. Ok (record { version = V6; address = n * 65536 ^ (8 - 8) + 0 })) value ∙ ap (λ n. Ok (record { version = V6; address = n })) (omega arith)

pub address_read : (v : IpVersion) (a : ℕ) → a < 2 ^ bits_of v → address_of (address_word v a) ≡ Ok (record { version = v; address = a })
address_read V4 a h = address4_read a h
address_read V6 a h = address6_read a h

-- the bytes of an address are digits, points and colons
pub address_passes : (t : ℕ → Bool) → ((c : ℕ) → is_digit c 16 ≡ true → t c ≡ true) → t 46 ≡ true → t 58 ≡ true → (v : IpVersion) (a : ℕ) → list_all t (address_word v a) ≡ true
address_passes t each point colon V4 a = all_joined t 46 (octets a) point (octets_all t (λ c h. each c (wider c h)) a)
address_passes t each point colon V6 a = all_joined t 58 (groups a) colon (groups_all t each a)

pub address_good : (v : IpVersion) (a : ℕ) → Word (address_word v a)
address_good v a =
    (both (filled v a) (address_passes (λ b. not (is_blank b)) digit_not_blank refl refl v a), address_passes (λ b. ltb b 128) digit_small refl refl v a)
  where
    front : (xs zs : List ℕ) (b : ℕ) → is_filled (xs ++ b ∷ zs) ≡ true
    front [] zs b = refl
    front (x ∷ xs) zs b = refl

    filled : (v : IpVersion) (a : ℕ) → is_filled (address_word v a) ≡ true
    filled V4 a = front _ _ 46
    filled V6 a = front _ _ 58

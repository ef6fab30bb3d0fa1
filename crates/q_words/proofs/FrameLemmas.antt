-- A packet's head is read from its first 64 bytes at most.
use Rattle.std.proofs.Common.{◌≡◌, ℕ, ◌+◌, ◌-◌, ◌%◌, ◌==◌, ◌<◌, ◌≤◌, ◌&&◌, Bool, true, false, List, [], ◌∷◌, ◌++◌, length, take, drop, slice_index, slice_set, nat_le, nat_lt, refl, sym, ap, ◌∙◌, arith, lit<, lit≤, length-take, append_assoc, inl, inr, Option, Some, None, is_some, Result, Ok, Err, if◌then◌else◌}
use Rattle.std.specs.Str.Parse.{digits_value}
use Rattle.std.specs.Char.{is_digit}
use Rattle.std.proofs.lemmas.List.{append-nil, get_or-take, take_all, take-append-le, take_more_set}
use Rattle.std.proofs.lemmas.Bool.{and_from, eq-eqb, le-leb, lt-ltb, cases_lt}
use Rattle.std.proofs.Math.Nat.{mod-lt}
use Rattle.byteorder.specs.Numbers.{big_from-take}
use Rattle.q_words.proofs.Both.{right_of}
use Rattle.q_words.specs.Addresses.{bytes_from}
use Rattle.q_words.specs.declared.wrong.Wrong.{Wrong}
use Rattle.q_words.specs.declared.wrong.Wrong.TheVariants.{BadNumber}
use Rattle.q_packet.specs.declared.head.Head.{Head}
use Rattle.q_words.specs.Parts.{head_of_frame}
use Rattle.q_words.specs.Values.{is_digits, is_numeral}
use Rattle.q_packet.specs.Head.{head, ipv4_head, ipv6_head, header_length}

-- a number that is among the first 64 bytes of many is there in both
there : (xs : List ℕ) (n : ℕ) → n ≤ 64 → 64 ≤ length xs → nat_le n (length (take 64 xs)) ≡ nat_le n (length xs)
there xs n h long = le-leb n _ (omega (arith, length-take 64 xs)) ∙ sym (le-leb n _ (omega arith))

header_short : (xs : List ℕ) → header_length xs ≤ 60
header_short xs = let h : slice_index xs 0 % 16 < 16 = mod-lt (slice_index xs 0) (lit< tt) in omega arith

ipv4_front : (xs : List ℕ) → 64 ≤ length xs → ipv4_head (take 64 xs) ≡ ipv4_head xs
unfolding ipv4_head
ipv4_front xs long =
    let short = header_short xs in
    let first : slice_index (take 64 xs) 0 ≡ slice_index xs 0 = get_or-take 64 xs 0 0 (lit< tt) in
    let traffic : slice_index (take 64 xs) 1 ≡ slice_index xs 1 = get_or-take 64 xs 1 0 (lit< tt) in
    let proto : slice_index (take 64 xs) 9 ≡ slice_index xs 9 = get_or-take 64 xs 9 0 (lit< tt) in
    let fragment = big_from-take 6 2 64 xs (omega arith) in
    let src = big_from-take 12 4 64 xs (omega arith) in
    let dst = big_from-take 16 4 64 xs (omega arith) in
    let sport = big_from-take (header_length xs) 2 64 xs (omega arith) in
    let dport = big_from-take (header_length xs + 2) 2 64 xs (omega arith) in
    let ports = there xs (header_length xs + 4) (omega arith) long in
    rw (first, traffic, proto, fragment, src, dst, sport, dport, ports) refl

ipv6_front : (xs : List ℕ) → 64 ≤ length xs → ipv6_head (take 64 xs) ≡ ipv6_head xs
unfolding ipv6_head
ipv6_front xs long =
    let first : slice_index (take 64 xs) 0 ≡ slice_index xs 0 = get_or-take 64 xs 0 0 (lit< tt) in
    let second : slice_index (take 64 xs) 1 ≡ slice_index xs 1 = get_or-take 64 xs 1 0 (lit< tt) in
    let proto : slice_index (take 64 xs) 6 ≡ slice_index xs 6 = get_or-take 64 xs 6 0 (lit< tt) in
    let src = big_from-take 8 16 64 xs (omega arith) in
    let dst = big_from-take 24 16 64 xs (omega arith) in
    let sport = big_from-take 40 2 64 xs (omega arith) in
    let dport = big_from-take 42 2 64 xs (omega arith) in
    let ports = there xs 44 (lit≤ tt) long in
    rw (first, second, proto, src, dst, sport, dport, ports) refl

long_front : (xs : List ℕ) → 64 ≤ length xs → head (take 64 xs) ≡ head xs
unfolding head
long_front xs long =
    let short = header_short xs in
    let first : slice_index (take 64 xs) 0 ≡ slice_index xs 0 = get_or-take 64 xs 0 0 (lit< tt) in
    let v4 = there xs (header_length xs) (omega arith) long in
    let v6 = there xs 40 (lit≤ tt) long in
    rw (first, v4, v6, ipv4_front xs long, ipv6_front xs long) refl

pub head_front : (xs : List ℕ) → head (take 64 xs) ≡ head xs
head_front xs = elim (cases_lt 64 (length xs)) [
  | inl long ↦ long_front xs (omega arith)
  | inr short ↦ ap head (take_all 64 xs short)
]

-- the digits of a frame, two at a time: the bytes so far, and those that the rest writes

pub decode_more : (digits bytes rest : List ℕ) (n b : ℕ) → bytes_from digits ≡ take n bytes ++ bytes_from rest → n < length bytes → 2 ≤ length rest
    → b ≡ digits_value 16 (slice_index rest 0 ∷ slice_index rest 1 ∷ [])
    → bytes_from digits ≡ take (n + 1) (slice_set bytes n b) ++ bytes_from (take (length rest - 2) (drop 2 rest))
decode_more digits bytes [] n b so_far room two value = absurd (omega arith)
decode_more digits bytes (x ∷ []) n b so_far room two value = absurd (omega arith)
decode_more digits bytes (x ∷ y ∷ rest) n b so_far room two value =
    let whole : take (length (x ∷ y ∷ rest) - 2) rest ≡ rest = take_all _ _ (omega arith) in
    so_far ∙ ap (λ v. take n bytes ++ (v ∷ bytes_from rest)) (sym value) ∙ sym (append_assoc (take n bytes) (b ∷ []) (bytes_from rest))
    ∙ ap (λ l. l ++ bytes_from rest) (sym (take_more_set bytes n b room)) ∙ ap (λ r. take (n + 1) (slice_set bytes n b) ++ bytes_from r) (sym whole)

pub digits_more : (rest : List ℕ) → is_digits 16 rest ≡ true → 2 ≤ length rest → is_digits 16 (take (length rest - 2) (drop 2 rest)) ≡ true
digits_more [] digits two = absurd (omega arith)
digits_more (x ∷ []) digits two = absurd (omega arith)
digits_more (x ∷ y ∷ rest) digits two =
    let whole : take (length (x ∷ y ∷ rest) - 2) rest ≡ rest = take_all _ _ (omega arith) in
    ap (is_digits 16) whole ∙ right_of (is_digit y 16) (is_digits 16 rest) (right_of (is_digit x 16) (is_digits 16 (y ∷ rest)) digits)

-- where no two digits are left, or 64 bytes are read, they are the first 64
pub decoded : (digits bytes rest : List ℕ) (n : ℕ) → bytes_from digits ≡ take n bytes ++ bytes_from rest → n ≤ 64 → length rest < 2 → take n bytes ≡ take 64 (bytes_from digits)
decoded digits bytes [] n so_far few none =
    let all : bytes_from digits ≡ take n bytes = so_far ∙ append-nil (take n bytes) in
    sym (ap (take 64) all ∙ take_all 64 (take n bytes) (omega (arith, length-take n bytes)))
decoded digits bytes (x ∷ []) n so_far few none = decoded digits bytes [] n so_far few (omega arith)
decoded digits bytes (x ∷ y ∷ rest) n so_far few none = absurd (omega arith)

pub filled : (digits bytes rest : List ℕ) (n : ℕ) → bytes_from digits ≡ take n bytes ++ bytes_from rest → n ≡ 64 → length bytes ≡ 64 → take n bytes ≡ take 64 (bytes_from digits)
filled digits bytes rest n so_far full size =
    let long : length (take n bytes) ≡ 64 = omega (arith, length-take n bytes) in
    sym (ap (take 64) so_far ∙ take-append-le 64 (take n bytes) (bytes_from rest) (omega arith) ∙ take_all 64 (take n bytes) (omega arith))

-- what a word of digits, two and two, is read as

pub bytes_there : (word : List ℕ) (b : Bool) → b ≡ (length word == 0) → b ≡ false → 0 < length word
bytes_there [] b e f = absurd (let same : true ≡ false = sym e ∙ f in cc)
bytes_there (x ∷ word) b e f = omega arith

pub digits_there : (b : Bool) (v : ℕ) (r : Option ℕ) → r ≡ (if b then Some v else None) → is_some r ≡ true → b ≡ true
digits_there true v r e some = refl
digits_there false v r e some = absurd (let none : false ≡ true = ap is_some (sym e) ∙ some in cc)

abbrev answer : List ℕ → Bool → Result Head Wrong
answer word b = elim (if b then Ok (bytes_from word) else Err BadNumber) [ Ok bytes ↦ Ok (head bytes) | Err e ↦ Err e ]

pub frame_is : (word bytes : List ℕ) → 0 < length word → length word % 2 ≡ 0 → is_digits 16 word ≡ true → bytes ≡ take 64 (bytes_from word)
    → Ok (head bytes) ≡ head_of_frame word
frame_is word bytes some even digits front =
    let a : nat_lt 0 (length word) ≡ true = lt-ltb 0 (length word) some in
    let b : (length word % 2 == 0) ≡ true = eq-eqb (length word % 2) 0 even in
    let is_frame : (is_numeral 16 word && (length word % 2 == 0)) ≡ true = and_from _ _ (and_from _ _ a digits) b in
    ap Ok (ap head front ∙ head_front (bytes_from word)) ∙ sym (ap (answer word) is_frame)

-- An address of version 4 is read as what was written of it; and a prefix is, where its address is.
use Rattle.std.proofs.Common.{◌≡◌, ◌∙◌, ℕ, suc, ◌+◌, ◌/◌, ◌%◌, ◌<◌, ◌≤◌, ◌^◌, ◌||◌, Bool, true, false, not, List, [], ◌∷◌, ◌++◌, length, drop, take, ltb, leb, Result, Ok, Err, Option, Some, None, refl, sym, ap, arith, if◌then◌else◌, lit<}
use Rattle.std.specs.List.{AllByRecursion, join_with_byte, list_all, list_any, onto_first, slice_split, position_or_len, before_first, after_first}
use Rattle.std.specs.Char.{is_digit}
use Rattle.std.specs.Fmt.{decimal}
use Rattle.std.specs.Str.Parse.{digits_value}
use Rattle.std.proofs.lemmas.Bool.{le-leb, lt-ltb}
use Rattle.std.proofs.lemmas.Bool.Decides.{nat_tests}
use Rattle.std.proofs.lemmas.Fmt.{decimal_is_IsNumeral, length-decimal-le}
use Rattle.std.proofs.lemmas.List.{take_at}
use Rattle.std.proofs.lemmas.List.Folds.{list_all-append}
use Rattle.std.proofs.lemmas.List.Splits.{slice_split-cons_no, slice_split-cons_yes}
use Rattle.q_model.specs.declared.ip_version.IpVersion.TheVariants.{V4}
use Rattle.q_model.specs.Options.{Prefix, bits_of}
use Rattle.q_words.specs.Addresses.{Address, address_of, gap_at, groups_in, ipv6_of, ipv4_of, joined, is_slash, prefix_from, prefix_of, has_bad_length}
use Rattle.q_words.specs.Units.{is_point}
use Rattle.q_words.specs.Values.{is_colon, is_numeral}
use Rattle.q_words.specs.declared.wrong.Wrong.{Wrong}
use Rattle.q_words.specs.declared.wrong.Wrong.TheVariants.{BadNumber, OutOfRange}
use Rattle.q_line.specs.Spelling.{octets}
use Rattle.q_line.proofs.SpelledWords.{both, digits_from_numeral, every_digit, left_of, right_of, not_true}
use Rattle.q_line.proofs.SpelledValues.{drop_past, none_of, prefix_to, digit_no_point}

abbrev pub Plain : (ℕ → Bool) → List ℕ → Type 0
Plain p bytes = list_all (λ c. not (p c)) bytes ≡ true

-- parts that are joined by a byte that stands in none of them are split there

split_at : (p : ℕ → Bool) (sep : ℕ) (x rest : List ℕ) → p sep ≡ true → Plain p x → slice_split p (x ++ sep ∷ rest) ≡ x ∷ slice_split p rest
split_at p sep [] rest e h = slice_split-cons_yes p sep rest e
split_at p sep (b ∷ x) rest e h =
    slice_split-cons_no p b (x ++ sep ∷ rest) (not_true _ (left_of (not (p b)) _ h)) ∙ ap (onto_first b) (split_at p sep x rest e (right_of (not (p b)) _ h))

split_last : (p : ℕ → Bool) (x : List ℕ) → Plain p x → slice_split p x ≡ x ∷ []
split_last p [] h = refl
split_last p (b ∷ x) h = slice_split-cons_no p b x (not_true _ (left_of (not (p b)) _ h)) ∙ ap (onto_first b) (split_last p x (right_of (not (p b)) _ h))

pub split_joined : (p : ℕ → Bool) (sep : ℕ) (x : List ℕ) (parts : List (List ℕ)) → p sep ≡ true → AllByRecursion (Plain p) (x ∷ parts) → slice_split p (join_with_byte sep (x ∷ parts)) ≡ x ∷ parts
split_joined p sep x [] e h = split_last p x h.0
split_joined p sep x (y ∷ parts) e h = split_at p sep x (join_with_byte sep (y ∷ parts)) e h.0 ∙ ap (λ l. x ∷ l) (split_joined p sep y parts e h.1)

-- what passes a test in each part and in the byte between them passes it in all
pub all_joined : (p : ℕ → Bool) (sep : ℕ) (parts : List (List ℕ)) → p sep ≡ true → AllByRecursion (λ part. list_all p part ≡ true) parts → list_all p (join_with_byte sep parts) ≡ true
all_joined p sep [] e h = refl
all_joined p sep (x ∷ []) e h = h.0
all_joined p sep (x ∷ y ∷ parts) e h = list_all-append p x (sep ∷ join_with_byte sep (y ∷ parts)) ∙ both h.0 (both e (all_joined p sep (y ∷ parts) e h.1))

-- digits are no points, colons or slashes
pub digit_plain : (p : ℕ → Bool) (base : ℕ) → ((c : ℕ) → is_digit c base ≡ true → not (p c) ≡ true) → (ds : List ℕ) → is_numeral base ds ≡ true → Plain p ds
digit_plain p base other ds h = every_digit base (λ c. not (p c)) other ds (right_of (ltb 0 (length ds)) _ h)

pub no_slash : (c : ℕ) → is_digit c 16 ≡ true → not (is_slash c) ≡ true
no_slash c h = grind (arith, nat_tests)

no_colon : (c : ℕ) → is_digit c 10 ≡ true → not (is_colon c) ≡ true
no_colon c h = grind (arith, nat_tests)

-- version 4

record Octet (n : ℕ) : Type 0 where
  form : is_numeral 10 (decimal n) ≡ true
  value : digits_value 10 (decimal n) ≡ n
  few : ltb 255 (digits_value 10 (decimal n)) ≡ false
  short : leb (length (decimal n)) 3 ≡ true

octet : (n : ℕ) → n < 256 → Octet n
octet n h =
    let small : n < 2 ^ 64 = omega arith in
    let d = decimal_is_IsNumeral n small in
    record {
      form = both (lt-ltb _ _ d.0.0) (digits_from_numeral 10 (decimal n) d.0.1);
      value = d.1;
      few = ap (λ v. ltb 255 v) d.1 ∙ not_above n h;
      short = le-leb _ _ (length-decimal-le 3 n (lit< tt) (omega arith) small);
    }
  where
    not_above : (n : ℕ) → n < 256 → ltb 255 n ≡ false
    not_above n h = grind (arith, nat_tests)

ipv4_read : (w x y z : ℕ) → Octet w → Octet x → Octet y → Octet z
    → ipv4_of (decimal w ∷ decimal x ∷ decimal y ∷ decimal z ∷ []) ≡ Ok (record { version = V4; address = joined 256 (w ∷ x ∷ y ∷ z ∷ []) })
ipv4_read w x y z a b c d =
    rw (a.form, b.form, c.form, d.form) (rw (a.few, b.few, c.few, d.few) (rw (a.short, b.short, c.short, d.short) (rw (a.value, b.value, c.value, d.value) refl)))

-- a test that each digit passes, by the four numbers
pub octets_all : (t : ℕ → Bool) → ((c : ℕ) → is_digit c 10 ≡ true → t c ≡ true) → (a : ℕ) → AllByRecursion (λ part. list_all t part ≡ true) (octets a)
octets_all t each a =
    (all (a / 2 ^ 24 % 256) (omega arith), (all (a / 2 ^ 16 % 256) (omega arith), (all (a / 2 ^ 8 % 256) (omega arith), (all (a % 256) (omega arith), tt))))
  where
    all : (n : ℕ) → n < 256 → list_all t (decimal n) ≡ true
    all n h = every_digit 10 t each (decimal n) (right_of (ltb 0 (length (decimal n))) _ (octet n h).form)

octets_value : (a : ℕ) → a < 2 ^ 32 → joined 256 (a / 2 ^ 24 % 256 ∷ a / 2 ^ 16 % 256 ∷ a / 2 ^ 8 % 256 ∷ a % 256 ∷ []) ≡ a
octets_value a h =
    let one : a / 2 ^ 8 / 256 ≡ a / 2 ^ 16 = omega arith in
    let two : a / 2 ^ 16 / 256 ≡ a / 2 ^ 24 = omega arith in
    let top : a / 2 ^ 24 < 256 = omega arith in
    omega arith

pub address4_read : (a : ℕ) → a < 2 ^ 32 → address_of (join_with_byte 46 (octets a)) ≡ Ok (record { version = V4; address = a })
address4_read a h =
    let word = join_with_byte 46 (octets a) in
    let colons : list_any is_colon word ≡ false = none_of is_colon word (all_joined (λ c. not (is_colon c)) 46 (octets a) refl (octets_all (λ c. not (is_colon c)) no_colon a)) in
    ap (λ (b : Bool). if b then ipv6_of (groups_in (take (gap_at word) word)) (groups_in (drop (suc (suc (gap_at word))) word))
    (ltb (gap_at word) (length word)) else ipv4_of (slice_split is_point word)) colons
    ∙ ap ipv4_of (split_joined is_point 46 (decimal (a / 2 ^ 24 % 256))
    (decimal (a / 2 ^ 16 % 256) ∷ decimal (a / 2 ^ 8 % 256) ∷ decimal (a % 256) ∷ []) refl (octets_all (λ c. not (is_point c)) digit_no_point a))
    ∙ ipv4_read _ _ _ _ (octet (a / 2 ^ 24 % 256) (omega arith)) (octet (a / 2 ^ 16 % 256) (omega arith)) (octet (a / 2 ^ 8 % 256) (omega arith)) (octet (a % 256) (omega arith))
    ∙ ap (λ n. Ok (record { version = V4; address = n })) (octets_value a h)

-- an address, a slash and a length

pub any_at : (p : ℕ → Bool) (x : ℕ) (bytes rest : List ℕ) → p x ≡ true → list_any p (bytes ++ x ∷ rest) ≡ true
any_at p x [] rest e = ap (λ b. b || list_any p rest) e
any_at p x (b ∷ bytes) rest e = by_test (p b) (any_at p x bytes rest e)
  where
    by_test : (t : Bool) → list_any p (bytes ++ x ∷ rest) ≡ true → (t || list_any p (bytes ++ x ∷ rest)) ≡ true
    by_test true h = refl
    by_test false h = h

abbrev with_length : Result Address Wrong → Option (List ℕ) → Result Prefix Wrong
with_length r len = elim r as (λ _. Result Prefix Wrong) [ Ok a ↦ prefix_from a len | Err e ↦ if has_bad_length len then Err BadNumber else Err e ]

pub prefix_gives : (a : Address) (word : List ℕ) (len : ℕ) → Plain is_slash word → address_of word ≡ Ok a → len ≤ bits_of a.version → len < 2 ^ 64
    → prefix_of (word ++ 47 ∷ decimal len) ≡ Ok (record { version = a.version; address = a.address; len = len })
prefix_gives a word len plain read short small =
    let d = decimal_is_IsNumeral len small in
    let form : is_numeral 10 (decimal len) ≡ true = both (lt-ltb _ _ d.0.0) (digits_from_numeral 10 (decimal len) d.0.1) in
    let all = word ++ 47 ∷ decimal len in
    let slash : position_or_len is_slash all ≡ length word = prefix_to (λ c. not (is_slash c)) word (47 ∷ decimal len) plain refl in
    let before : before_first is_slash all ≡ word = take_at word (47 ∷ decimal len) _ (sym slash) in
    let behind : after_first is_slash all ≡ decimal len = ap (λ i. drop (i + 1) all) slash ∙ drop_past word 47 (decimal len) in
    ap (λ (b : Bool). with_length (address_of (before_first is_slash all)) (if b then Some (after_first is_slash all) else None)) (any_at is_slash 47 word (decimal len) refl)
    ∙ ap (λ w. with_length (address_of w) (Some (after_first is_slash all))) before
    ∙ ap (λ w. with_length (address_of word) (Some w)) behind
    ∙ ap (λ r. with_length r (Some (decimal len))) read
    ∙ ap (λ (b : Bool). if b then (if leb (digits_value 10 (decimal len)) (bits_of a.version) then Ok
    (record { version = a.version; address = a.address; len = digits_value 10 (decimal len) }) else Err OutOfRange) else Err BadNumber) form
    ∙ ap (λ n. if leb n (bits_of a.version) then Ok (record { version = a.version; address = a.address; len = n }) else Err OutOfRange) d.1
    ∙ ap (λ (b : Bool). if b then Ok (record { version = a.version; address = a.address; len = len }) else Err OutOfRange) (le-leb _ _ short)

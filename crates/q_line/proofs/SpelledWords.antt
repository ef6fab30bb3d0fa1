-- What is written is cut into the words that it was written of, which are ASCII; numbers and handles are read as what was written.
use Rattle.std.proofs.Common.{◌≡◌, ◌∙◌, ℕ, zero, suc, ◌+◌, ◌*◌, ◌/◌, ◌%◌, ◌^◌, ◌<◌, ◌≤◌, ◌&&◌, not, Bool, true, false, List, [], ◌∷◌, ◌++◌, length, length-append, drop, get_or, eqb, ltb, leb, Ok, Err, refl, sym, ap, arith, if◌then◌else◌, cond, codes, lit<, lit≤}
use Rattle.std.specs.List.{filter, slice_split, onto_first, join_with_byte, list_all, position_or_len, before_first, after_first}
use Rattle.std.specs.Char.{is_digit}
use Rattle.std.specs.Fmt.{decimal, digits, digits_onto, digit_glyph}
use Rattle.std.specs.Str.{is_utf8}
use Rattle.std.specs.Str.Parse.{digits_value, AllDigits}
use Rattle.std.proofs.lemmas.Bool.Decides.{nat_tests}
use Rattle.std.proofs.lemmas.Bool.{eq-eqb, ltb-true, lt-ltb, le-leb}
use Rattle.std.proofs.lemmas.Fmt.{decimal_is_IsNumeral, digits_is_IsNumeral}
use Rattle.std.proofs.lemmas.List.Folds.{list_all-append}
use Rattle.std.proofs.lemmas.List.Splits.{slice_split-cons_no}
use Rattle.std.proofs.lemmas.Str.{IsUtf8-from_ascii, is_utf8-from_IsUtf8}
use Rattle.std.proofs.Math.Nat.{pow-succ'}
use Rattle.std.proofs.lemmas.List.{take_at, drop_all}
use Rattle.q_words.specs.Words.{words_in, is_blank, is_filled}
use Rattle.q_words.specs.Values.{is_digits, is_numeral, number_in, handle_of, handle_from, is_colon}
use Rattle.q_line.specs.Spelling.{is_word}
use Rattle.q_words.specs.declared.wrong.Wrong.TheVariants as wrong

pub both : {a b : Bool} → a ≡ true → b ≡ true → (a && b) ≡ true
both p q = rw (p, q) refl

pub left_of : (a b : Bool) → (a && b) ≡ true → a ≡ true
left_of true b e = refl
left_of false b e = cc

pub right_of : (a b : Bool) → (a && b) ≡ true → b ≡ true
right_of true b e = e
right_of false b e = cc

abbrev no_blank : List ℕ → Bool
no_blank bytes = list_all (λ b. not (is_blank b)) bytes

pub not_true : (b : Bool) → not b ≡ true → b ≡ false
not_true true e = cc
not_true false e = refl

-- up to a space, and to the end, it is one word
split_word : (x rest : List ℕ) → no_blank x ≡ true → slice_split is_blank (x ++ 32 ∷ rest) ≡ x ∷ slice_split is_blank rest
split_word [] rest h = refl
split_word (b ∷ x) rest h =
    slice_split-cons_no is_blank b (x ++ 32 ∷ rest) (not_true _ (left_of (not (is_blank b)) _ h)) ∙ ap (onto_first b) (split_word x rest (right_of (not (is_blank b)) _ h))

split_last : (x : List ℕ) → no_blank x ≡ true → slice_split is_blank x ≡ x ∷ []
split_last [] h = refl
split_last (b ∷ x) h = slice_split-cons_no is_blank b x (not_true _ (left_of (not (is_blank b)) _ h)) ∙ ap (onto_first b) (split_last x (right_of (not (is_blank b)) _ h))

keeps_word : (x : List ℕ) (rest : List (List ℕ)) → is_filled x ≡ true → filter is_filled (x ∷ rest) ≡ x ∷ filter is_filled rest
keeps_word x rest e = ap (λ (b : Bool). cond b (x ∷ filter is_filled rest) (filter is_filled rest)) e

-- words with a space between each two are cut into those words
pub words_of_spelling : (ws : List (List ℕ)) → list_all is_word ws ≡ true → words_in (join_with_byte 32 ws) ≡ ws
words_of_spelling [] h = refl
words_of_spelling (x ∷ []) h =
    let word = left_of (is_word x) _ h in
    ap (filter is_filled) (split_last x (right_of (is_filled x) _ word)) ∙ keeps_word x [] (left_of (is_filled x) _ word)
words_of_spelling (x ∷ y ∷ ws) h =
    let word = left_of (is_word x) _ h in
    ap (filter is_filled) (split_word x (join_with_byte 32 (y ∷ ws)) (right_of (is_filled x) _ word))
    ∙ keeps_word x (slice_split is_blank (join_with_byte 32 (y ∷ ws))) (left_of (is_filled x) _ word)
    ∙ ap (λ vs. x ∷ vs) (words_of_spelling (y ∷ ws) (right_of (is_word x) _ h))

-- bytes below 128 are UTF-8
ascii_at : (w : List ℕ) → list_all (λ b. ltb b 128) w ≡ true → (i : ℕ) → get_or w i 0 < 128
ascii_at [] h i = lit< tt
ascii_at (b ∷ w) h zero = ltb-true b 128 (left_of (ltb b 128) _ h)
ascii_at (b ∷ w) h (suc i) = ascii_at w (right_of (ltb b 128) _ h) i

pub utf8_from_ascii : (w : List ℕ) → list_all (λ b. ltb b 128) w ≡ true → is_utf8 w ≡ true
utf8_from_ascii w h = is_utf8-from_IsUtf8 w (IsUtf8-from_ascii w (ascii_at w h))

-- digits of a numeral
pub digits_from_numeral : (base : ℕ) (ds : List ℕ) → AllDigits base ds → is_digits base ds ≡ true
digits_from_numeral base [] h = refl
digits_from_numeral base (d ∷ ds) h = both (lt-ltb _ _ h.0) (digits_from_numeral base ds h.1)

-- a test that holds of each digit holds of digits
pub every_digit : (base : ℕ) (p : ℕ → Bool) → ((c : ℕ) → is_digit c base ≡ true → p c ≡ true) → (ds : List ℕ) → is_digits base ds ≡ true → list_all p ds ≡ true
every_digit base p each [] h = refl
every_digit base p each (d ∷ ds) h = both (each d (left_of (is_digit d base) _ h)) (every_digit base p each ds (right_of (is_digit d base) _ h))

-- no digit is above the letter z, nor is it a blank or a colon
pub digit_small : (c : ℕ) → is_digit c 16 ≡ true → ltb c 128 ≡ true
digit_small c h = grind (arith, nat_tests)

pub digit_not_blank : (c : ℕ) → is_digit c 16 ≡ true → not (is_blank c) ≡ true
digit_not_blank c h = grind (arith, nat_tests)

pub digit_not_colon : (c : ℕ) → is_digit c 16 ≡ true → not (is_colon c) ≡ true
digit_not_colon c h = grind (arith, nat_tests)

-- a numeral is read as its value
number_gives : (low high n : ℕ) (w : List ℕ) → is_numeral 10 w ≡ true → digits_value 10 w ≡ n → low ≤ n → n ≤ high → number_in low high w ≡ Ok n
number_gives low high n w form value above below =
    ap (λ (b : Bool). if b then (if leb low (digits_value 10 w) && leb (digits_value 10 w) high then Ok (digits_value 10 w) else Err wrong.OutOfRange) else Err wrong.BadNumber) form
    ∙ ap (λ (v : ℕ). if leb low v && leb v high then Ok v else Err wrong.OutOfRange) value
    ∙ ap (λ (b : Bool). if b then Ok n else Err wrong.OutOfRange) (both (le-leb low n above) (le-leb n high below))

-- a number is read as itself
pub number_read : (low high n : ℕ) → low ≤ n → n ≤ high → high < 2 ^ 64 → number_in low high (decimal n) ≡ Ok n
number_read low high n above below small =
    let d = decimal_is_IsNumeral n (omega arith) in
    number_gives low high n (decimal n) (both (lt-ltb _ _ d.0.0) (digits_from_numeral 10 (decimal n) d.0.1)) d.1 above below

-- at most so many hexadecimal digits
short_hex : (k m n : ℕ) (acc : List ℕ) → n < 16 ^ suc m → length (digits_onto k 16 false n acc) ≤ suc m + length acc
short_hex zero m n acc h = omega arith
short_hex (suc k) m n acc h = by_last (short_hex k) m h (eqb (n / 16) 0) refl
  where
    by_last : ((m n : ℕ) (acc : List ℕ) → n < 16 ^ suc m → length (digits_onto k 16 false n acc) ≤ suc m + length acc)
        → (m : ℕ) → n < 16 ^ suc m → (t : Bool) → eqb (n / 16) 0 ≡ t
        → length (if t then digit_glyph false (n % 16) ∷ acc else digits_onto k 16 false (n / 16) (digit_glyph false (n % 16) ∷ acc)) ≤ suc m
        + length acc
    by_last more m h true e = omega arith
    by_last more zero h false e =
        let p : 16 ^ suc zero ≡ 16 * 16 ^ zero = pow-succ' 16 zero in
        let z : n / 16 ≡ 0 = omega arith in
        let k : false ≡ true = sym e ∙ eq-eqb (n / 16) 0 z in cc
    by_last more (suc m) h false e =
        let p : 16 ^ suc (suc m) ≡ 16 * 16 ^ suc m = pow-succ' 16 (suc m) in
        let x : ℕ = 16 ^ suc m in
        let within : n / 16 < 16 ^ suc m = omega arith in
        let g : length (digits_onto k 16 false (n / 16) (digit_glyph false (n % 16) ∷ acc)) ≤ suc m + suc (length acc) = more m (n / 16) (digit_glyph false (n % 16) ∷ acc) within in omega arith

-- the first colon is behind the digits
pub colon_at : (ds rest : List ℕ) → list_all (λ c. not (is_colon c)) ds ≡ true → position_or_len is_colon (ds ++ 58 ∷ rest) ≡ length ds
colon_at [] rest h = refl
colon_at (d ∷ ds) rest h = ap (λ (b : Bool). cond b (1 + position_or_len is_colon (ds ++ 58 ∷ rest)) 0) (left_of (not (is_colon d)) _ h)
    ∙ ap (λ n. 1 + n) (colon_at ds rest (right_of (not (is_colon d)) _ h)) ∙ omega arith

handle_gives : (n : ℕ) (ds : List ℕ) → is_numeral 16 ds ≡ true → digits_value 16 ds ≡ n → length ds ≤ 4 → 1 ≤ n → n ≤ 65534 → handle_of (ds ++ 58 ∷ []) ≡ Ok n
handle_gives n ds form value short low high =
    let colon = colon_at ds [] (every_digit 16 (λ c. not (is_colon c)) digit_not_colon ds (right_of (ltb 0 (length ds)) _ form)) in
    let major : before_first is_colon (ds ++ 58 ∷ []) ≡ ds = take_at ds (58 ∷ []) _ (sym colon) in
    let minor : after_first is_colon (ds ++ 58 ∷ []) ≡ [] = ap (λ i. drop (i + 1) (ds ++ 58 ∷ [])) colon ∙ drop_all (length ds + 1) (ds ++ 58 ∷ []) (omega (arith, length-append ds (58 ∷ []))) in
    ap (λ w. handle_from w (after_first is_colon (ds ++ 58 ∷ []))) major ∙ ap (handle_from ds) minor
    ∙ ap (λ (b : Bool). if b && true then (if (leb (length ds) 4 && (leb 1 (digits_value 16 ds) && leb (digits_value 16 ds) 65534)) && true then Ok
    (digits_value 16 ds) else Err wrong.OutOfRange) else Err wrong.BadNumber) form
    ∙ ap (λ (v : ℕ). if (leb (length ds) 4 && (leb 1 v && leb v 65534)) && true then Ok v else Err wrong.OutOfRange) value
    ∙ ap (λ (b : Bool). if b && true then Ok n else Err wrong.OutOfRange) (both (le-leb _ _ short) (both (le-leb 1 n low) (le-leb n 65534 high)))

hex_onto : (n : ℕ) → (k : ℕ) × (digits 16 false n ≡ digits_onto k 16 false n [])
unfolding digits
hex_onto n = (64, refl)

pub hex_short : (n : ℕ) → n < 2 ^ 16 → length (digits 16 false n) ≤ 4
hex_short n high =
    let onto = hex_onto n in
    let h : length (digits_onto onto.0 16 false n []) ≤ 4 = short_hex onto.0 3 n [] (omega arith) in
    rw onto.1 h

-- a handle is read as itself
pub handle_read : (n : ℕ) → 1 ≤ n → n ≤ 65534 → handle_of (digits 16 false n ++ codes ":") ≡ Ok n
handle_read n low high =
    let small : n < 16 ^ 64 = omega arith in
    let d = digits_is_IsNumeral 16 false (lit≤ tt) (lit≤ tt) n small in
    handle_gives n (digits 16 false n) (both (lt-ltb _ _ d.0.0) (digits_from_numeral 16 (digits 16 false n) d.0.1)) d.1 (hex_short n (omega arith)) low high

-- numbers and handles as words

pub wider : (c : ℕ) → is_digit c 10 ≡ true → is_digit c 16 ≡ true
wider c h = grind (arith, nat_tests)

filled : (bytes : List ℕ) → 0 < length bytes → is_filled bytes ≡ true
filled [] h = absurd (omega arith)
filled (b ∷ bytes) h = refl

pub record Digits (w : List ℕ) : Type 0 where
  pub some : 0 < length w
  pub each : is_digits 16 w ≡ true

pub decimal_digits : (n : ℕ) → n < 2 ^ 64 → Digits (decimal n)
decimal_digits n small = let d = decimal_is_IsNumeral n small in
    record { some = d.0.0; each = every_digit 10 (λ c. is_digit c 16) wider (decimal n) (digits_from_numeral 10 (decimal n) d.0.1) }

pub hex_digits : (n : ℕ) → n < 2 ^ 16 → Digits (digits 16 false n)
hex_digits n high =
    let small : n < 16 ^ 64 = omega arith in
    let d = digits_is_IsNumeral 16 false (lit≤ tt) (lit≤ tt) n small in
    record { some = d.0.0; each = digits_from_numeral 16 (digits 16 false n) d.0.1 }

pub digits_word : (w : List ℕ) → Digits w → is_word w ≡ true
digits_word w d = both (filled w d.some) (every_digit 16 (λ c. not (is_blank c)) digit_not_blank w d.each)

pub digits_ascii : (w : List ℕ) → Digits w → list_all (λ b. ltb b 128) w ≡ true
digits_ascii w d = every_digit 16 (λ c. ltb c 128) digit_small w d.each

pub handle_word : (w : List ℕ) → Digits w → is_word (w ++ codes ":") ≡ true
handle_word w d =
    let some = d.some in
    both (filled (w ++ 58 ∷ []) (simp length-append (omega arith)))
    (list_all-append (λ c. not (is_blank c)) w (58 ∷ []) ∙ both (every_digit 16 (λ c. not (is_blank c)) digit_not_blank w d.each) refl)

pub handle_ascii : (w : List ℕ) → Digits w → list_all (λ b. ltb b 128) (w ++ codes ":") ≡ true
handle_ascii w d = list_all-append (λ b. ltb b 128) w (58 ∷ []) ∙ both (digits_ascii w d) refl

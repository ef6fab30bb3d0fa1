-- A time is read as what was written of it: whole microseconds, a point and three decimal places.
use Rattle.std.proofs.Common.{◌≡◌, ◌∙◌, ℕ, ◌+◌, ◌*◌, ◌/◌, ◌%◌, ◌^◌, ◌<◌, ◌≤◌, ◌&&◌, ◌||◌, not, Bool, true, List, [], ◌∷◌, ◌++◌, length, map, drop, leb, ltb, IfSome, Option, Some, None, Result, Ok, Err, refl, sym, ap, arith, if◌then◌else◌, codes, append_assoc}
use Rattle.std.specs.List.{list_all, list_any, prefix_len, position_or_len}
use Rattle.std.specs.Option.{option_map_or}
use Rattle.std.specs.Char.{digit_value, is_digit}
use Rattle.std.specs.Fmt.{decimal}
use Rattle.std.specs.Str.Parse.{digits_value}
use Rattle.std.proofs.lemmas.Bool.{le-leb, lt-ltb}
use Rattle.std.proofs.lemmas.Bool.Decides.{nat_tests}
use Rattle.std.proofs.lemmas.Fmt.{decimal_is_IsNumeral}
use Rattle.std.proofs.lemmas.Int.Digits.{digits_value_push}
use Rattle.std.proofs.lemmas.List.{take_at}
use Rattle.std.proofs.lemmas.List.Folds.{list_all-append}
use Rattle.std.proofs.lemmas.Str.{digit_value_digit}
use Rattle.q_model.specs.Numbers.{IsWithin}
use Rattle.q_words.specs.Units.{is_of_decimal, is_point, is_decimal, whole_part, decimals, number_part, suffix_of, small, time_in, time_units, factor_of, in_range, times_factor}
use Rattle.q_words.specs.Values.{is_digits, is_numeral}
use Rattle.q_words.specs.Words.{is_blank}
use Rattle.q_words.specs.declared.wrong.Wrong.{Wrong}
use Rattle.q_words.specs.declared.wrong.Wrong.TheVariants.{BadNumber, OutOfRange}
use Rattle.q_line.proofs.SpelledWords.{both, digit_not_blank, digit_small, digits_from_numeral, every_digit, right_of, wider}
use Rattle.q_line.specs.Spelling.{last_three, time_word}
use Rattle.q_line.proofs.SpelledAddresses.{any_at}
use Rattle.q_line.proofs.SpelledSteps.{Word, decimal_word, word_more}
use Rattle.q_line.proofs.SpelledValues.{drop_front, drop_past, digit_no_point, digit_of_decimal, prefix_to}

-- the digit of a number below ten
digit_form : (d : ℕ) → d < 10 → is_digit (48 + d) 10 ≡ true
digit_form d h = grind (arith, nat_tests)

digit_is : (d : ℕ) → d < 10 → digit_value (48 + d) ≡ d
digit_is d h = let e = digit_value_digit (48 + d) (omega arith, omega arith) in omega arith

places_form : (n : ℕ) → is_digits 10 (last_three n) ≡ true
places_form n = both (digit_form (n / 100 % 10) (omega arith)) (both (digit_form (n / 10 % 10) (omega arith)) (both (digit_form (n % 10) (omega arith)) refl))

-- the digits before the point and behind it are those of the number
digits_together : (n : ℕ) (ds : List ℕ) → digits_value 10 ds ≡ n / 1000 → digits_value 10 (ds ++ last_three n) ≡ n
digits_together n ds value =
    let a = 48 + n / 100 % 10 in
    let b = 48 + n / 10 % 10 in
    let c = 48 + n % 10 in
    let x : digit_value a ≡ n / 100 % 10 = digit_is (n / 100 % 10) (omega arith) in
    let y : digit_value b ≡ n / 10 % 10 = digit_is (n / 10 % 10) (omega arith) in
    let z : digit_value c ≡ n % 10 = digit_is (n % 10) (omega arith) in
    let apart : ds ++ last_three n ≡ ((ds ++ (a ∷ [])) ++ (b ∷ [])) ++ (c ∷ []) =
    sym (append_assoc (ds ++ (a ∷ [])) (b ∷ []) (c ∷ []) ∙ append_assoc ds (a ∷ []) (b ∷ c ∷ [])) in
    let one : digits_value 10 (ds ++ (a ∷ [])) ≡ digits_value 10 ds * 10 + digit_value a = digits_value_push 10 ds a in
    let two : digits_value 10 ((ds ++ (a ∷ [])) ++ (b ∷ [])) ≡ digits_value 10 (ds ++ (a ∷ [])) * 10 + digit_value b = digits_value_push 10 (ds ++ (a ∷ [])) b in
    let three : digits_value 10 (((ds ++ (a ∷ [])) ++ (b ∷ [])) ++ (c ∷ [])) ≡ digits_value 10 ((ds ++ (a ∷ [])) ++ (b ∷ [])) * 10 + digit_value c =
    digits_value_push 10 ((ds ++ (a ∷ [])) ++ (b ∷ [])) c in
    ap (digits_value 10) apart ∙ three
    ∙ ap (λ v. v * 10 + digit_value c) (two ∙ ap (λ v. v * 10 + digit_value b) (one ∙ ap (λ v. v * 10 + digit_value a) value))
    ∙ ap (λ v. ((n / 1000 * 10 + v) * 10 + digit_value b) * 10 + digit_value c) x
    ∙ ap (λ v. ((n / 1000 * 10 + n / 100 % 10) * 10 + v) * 10 + digit_value c) y
    ∙ ap (λ v. ((n / 1000 * 10 + n / 100 % 10) * 10 + n / 10 % 10) * 10 + v) z
    ∙ omega arith

abbrev united_from : ℕ → ℕ → List ℕ → List ℕ → Result ℕ Wrong
united_from low high number suffix =
    if is_decimal number then option_map_or (λ factor. in_range low high (times_factor number factor)) (factor_of time_units suffix) (Err BadNumber) else Err BadNumber

time_gives : (low high n : ℕ) (ds : List ℕ) → is_numeral 10 ds ≡ true → digits_value 10 ds ≡ n / 1000 → low ≤ n → n ≤ high → time_in low high (ds ++ (codes "." ++ (last_three n ++ codes "us"))) ≡ Ok n
time_gives low high n ds form value above below =
    let number = ds ++ 46 ∷ last_three n in
    let word = ds ++ (codes "." ++ (last_three n ++ codes "us")) in
    let apart : word ≡ number ++ codes "us" = sym (append_assoc ds (46 ∷ last_three n) (codes "us")) in
    let each : is_digits 10 ds ≡ true = right_of (ltb 0 (length ds)) _ form in
    let passes : list_all is_of_decimal number ≡ true = list_all-append is_of_decimal ds (46 ∷ last_three n)
    ∙ both (every_digit 10 is_of_decimal digit_of_decimal ds each) (every_digit 10 is_of_decimal digit_of_decimal (last_three n) (places_form n)) in
    let long : prefix_len is_of_decimal (number ++ codes "us") ≡ length number = prefix_to is_of_decimal number (codes "us") passes refl in
    let all : number_part (number ++ codes "us") ≡ number = take_at number (codes "us") _ (sym long) in
    let suffix : suffix_of (number ++ codes "us") ≡ codes "us" = ap (λ w. map small (drop (length w) (number ++ codes "us"))) all ∙ ap (map small) (drop_front number (codes "us")) in
    let point : position_or_len is_point number ≡ length ds = prefix_to (λ c. not (is_point c)) ds (46 ∷ last_three n) (every_digit 10 (λ c. not (is_point c)) digit_no_point ds each) refl in
    let whole : whole_part number ≡ ds = take_at ds (46 ∷ last_three n) _ (sym point) in
    let behind : decimals number ≡ last_three n = ap (λ i. drop (i + 1) number) point ∙ drop_past ds 46 (last_three n) in
    let there : list_any is_point number ≡ true = any_at is_point 46 ds (last_three n) refl in
    let decimal_form : is_decimal number ≡ true =
    ap (λ w. is_numeral 10 w && (not (list_any is_point number) || is_numeral 10 (decimals number) && leb (length (decimals number)) 9)) whole
    ∙ both form (ap (λ b. not b || is_numeral 10 (decimals number) && leb (length (decimals number)) 9) there
    ∙ ap (λ w. is_numeral 10 w && leb (length w) 9) behind ∙ both (places_form n) refl) in
    let times : times_factor number 1000 ≡ n =
    ap (λ w. digits_value 10 (w ++ decimals number) * 1000 / 10 ^ length (decimals number)) whole
    ∙ ap (λ w. digits_value 10 (ds ++ w) * 1000 / 10 ^ length w) behind
    ∙ ap (λ k. k * 1000 / 10 ^ 3) (digits_together n ds value) ∙ omega arith in
    ap (time_in low high) apart
    ∙ ap (λ w. united_from low high w (suffix_of (number ++ codes "us"))) all
    ∙ ap (united_from low high number) suffix
    ∙ ap (λ (b : Bool). if b then in_range low high (times_factor number 1000) else Err BadNumber) decimal_form
    ∙ ap (in_range low high) times
    ∙ ap (λ (b : Bool). if b then Ok n else Err OutOfRange) (both (le-leb low n above) (le-leb n high below))

pub time_read : (low high n : ℕ) → low ≤ n → n ≤ high → high < 2 ^ 64 → time_in low high (time_word n) ≡ Ok n
time_read low high n above below few =
    let d = decimal_is_IsNumeral (n / 1000) (omega arith) in
    time_gives low high n (decimal (n / 1000)) (both (lt-ltb _ _ d.0.0) (digits_from_numeral 10 (decimal (n / 1000)) d.0.1)) d.1 above below

pub time_is_word : (n : ℕ) → n < 2 ^ 64 → Word (time_word n)
time_is_word n few =
    word_more (decimal (n / 1000)) (codes "." ++ (last_three n ++ codes "us")) (decimal_word (n / 1000) (omega arith))
    (list_all-append (λ b. not (is_blank b)) (46 ∷ last_three n) (codes "us") ∙ both (every_digit 10 (λ b. not (is_blank b)) (λ c h. digit_not_blank c (wider c h)) (last_three n) (places_form n)) refl)
    (list_all-append (λ b. ltb b 128) (46 ∷ last_three n) (codes "us") ∙ both (every_digit 10 (λ b. ltb b 128) (λ c h. digit_small c (wider c h)) (last_three n) (places_form n)) refl)

pub time_reads : (low high : ℕ) (o : Option ℕ) → high < 2 ^ 64 → IfSome o (IsWithin low high) → IfSome o (λ n. Word (time_word n) × (time_in low high (time_word n) ≡ Ok n))
time_reads low high None small h = tt
time_reads low high (Some n) small h = let few = h.1 in (time_is_word n (omega arith), time_read low high n h.0 h.1 small)

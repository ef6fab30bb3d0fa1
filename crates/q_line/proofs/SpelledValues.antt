-- A class id and a size are read as what was written.
use Rattle.std.proofs.Common.{◌≡◌, ◌∙◌, ℕ, suc, ◌+◌, ◌*◌, ◌/◌, ◌^◌, ◌<◌, ◌≤◌, ◌&&◌, ◌||◌, not, Bool, true, false, cond, List, [], ◌∷◌, ◌++◌, length, map, drop, leb, ltb, Result, Ok, Err, Some, refl, sym, ap, arith, if◌then◌else◌, codes, append-nil, append_assoc, lit≤, lit<}
use Rattle.std.specs.List.{list_all, list_any, prefix_len, position_or_len, before_first, after_first}
use Rattle.std.specs.Option.{option_map_or}
use Rattle.std.specs.Char.{is_digit}
use Rattle.std.specs.Fmt.{decimal, digits}
use Rattle.std.specs.Str.Parse.{digits_value}
use Rattle.std.proofs.lemmas.Bool.{le-leb, lt-ltb}
use Rattle.std.proofs.lemmas.Bool.Decides.{nat_tests}
use Rattle.std.proofs.lemmas.Fmt.{decimal_is_IsNumeral, digits_is_IsNumeral}
use Rattle.std.proofs.lemmas.List.{take_at, take_all, drop_all}
use Rattle.q_words.specs.Addresses.{class_of, class_from}
use Rattle.q_words.specs.Units.{is_of_decimal, is_point, is_decimal, whole_part, decimals, number_part, suffix_of, small, rate_in, rate_units, size_in, size_units, united, factor_of, in_range, times_factor}
use Rattle.q_words.specs.Values.{is_colon, is_digits, is_numeral}
use Rattle.q_words.specs.declared.wrong.Wrong.{Wrong}
use Rattle.q_words.specs.declared.wrong.Wrong.TheVariants.{BadNumber, OutOfRange}
use Rattle.q_line.proofs.SpelledWords.{both, colon_at, digit_not_colon, digits_from_numeral, every_digit, hex_short, left_of, right_of}

pub record Hex (n : ℕ) (ds : List ℕ) : Type 0 where
  pub form : is_numeral 16 ds ≡ true
  pub value : digits_value 16 ds ≡ n
  pub short : length ds ≤ 4

pub hex_of : (n : ℕ) → n < 2 ^ 16 → Hex n (digits 16 false n)
hex_of n high =
    let small : n < 16 ^ 64 = omega arith in
    let d = digits_is_IsNumeral 16 false (lit≤ tt) (lit≤ tt) n small in
    record { form = both (lt-ltb _ _ d.0.0) (digits_from_numeral 16 (digits 16 false n) d.0.1); value = d.1; short = hex_short n high }

pub drop_past : (ds : List ℕ) (x : ℕ) (es : List ℕ) → drop (length ds + 1) (ds ++ x ∷ es) ≡ es
drop_past [] x es = refl
drop_past (d ∷ ds) x es = let e : length (d ∷ ds) + 1 ≡ suc (length ds + 1) = omega arith in ap (λ k. drop k (d ∷ ds ++ x ∷ es)) e ∙ drop_past ds x es

class_gives : (major minor : ℕ) (ds es : List ℕ) → Hex major ds → Hex minor es → 1 ≤ major → major ≤ 65534 → 1 ≤ minor
    → class_of (ds ++ 58 ∷ es) ≡ Ok (record { major = major; minor = minor })
class_gives major minor ds es d e low high some =
    let value = d.value in
    let minor_value = e.value in
    let least : 1 ≤ digits_value 16 ds = omega (arith, value) in
    let most : digits_value 16 ds ≤ 65534 = omega (arith, value) in
    let least_minor : 1 ≤ digits_value 16 es = omega (arith, minor_value) in
    let colon : position_or_len is_colon (ds ++ 58 ∷ es) ≡ length ds = colon_at ds es (every_digit 16 (λ c. not (is_colon c)) digit_not_colon ds (right_of _ _ d.form)) in
    let before : before_first is_colon (ds ++ 58 ∷ es) ≡ ds = take_at ds (58 ∷ es) _ (sym colon) in
    let behind : after_first is_colon (ds ++ 58 ∷ es) ≡ es = ap (λ i. drop (i + 1) (ds ++ 58 ∷ es)) colon ∙ drop_past ds 58 es in
    ap (λ w. class_from w (after_first is_colon (ds ++ 58 ∷ es))) before ∙ ap (class_from ds) behind
    ∙ ap (λ (b : Bool). if b then (if (leb (length ds) 4 && (leb 1 (digits_value 16 ds) && leb (digits_value 16 ds) 65534)) &&
    (leb (length es) 4 && leb 1 (digits_value 16 es)) then Ok (record { major = digits_value 16 ds; minor = digits_value 16 es }) else Err
    OutOfRange) else Err BadNumber) (both d.form e.form)
    ∙ ap (λ (b : Bool). if b then Ok (record { major = digits_value 16 ds; minor = digits_value 16 es }) else Err OutOfRange)
    (both (both (le-leb _ _ d.short) (both (le-leb 1 _ least) (le-leb _ 65534 most))) (both (le-leb _ _ e.short) (le-leb 1 _ least_minor)))
    ∙ ap (λ (k : ℕ). Ok (record { major = k; minor = digits_value 16 es })) value ∙ ap (λ (k : ℕ). Ok (record { major = major; minor = k })) minor_value

-- a class id is read as itself
pub class_read : (major minor : ℕ) → 1 ≤ major → major ≤ 65534 → 1 ≤ minor → minor ≤ 65535
    → class_of (digits 16 false major ++ codes ":" ++ digits 16 false minor) ≡ Ok (record { major = major; minor = minor })
class_read major minor low high some few =
    ap class_of (append_assoc (digits 16 false major) (codes ":") (digits 16 false minor))
    ∙ class_gives major minor (digits 16 false major) (digits 16 false minor) (hex_of major (omega arith)) (hex_of minor (omega arith)) low high some

-- digits and nothing else are the whole number part, without a point and without a suffix

pub digit_of_decimal : (c : ℕ) → is_digit c 10 ≡ true → is_of_decimal c ≡ true
digit_of_decimal c h = grind (arith, nat_tests)

pub digit_no_point : (c : ℕ) → is_digit c 10 ≡ true → not (is_point c) ≡ true
digit_no_point c h = grind (arith, nat_tests)

pub not_below_itself : (n : ℕ) → ltb n n ≡ false
not_below_itself n = grind (arith, nat_tests)

-- what begins with none of them behind elements that pass
pub prefix_to : (p : ℕ → Bool) (ds rest : List ℕ) → list_all p ds ≡ true → prefix_len p rest ≡ 0 → prefix_len p (ds ++ rest) ≡ length ds
prefix_to p [] rest h e = e
prefix_to p (d ∷ ds) rest h e = ap (λ (b : Bool). cond b (1 + prefix_len p (ds ++ rest)) 0) (left_of (p d) _ h) ∙ ap (λ n. 1 + n) (prefix_to p ds rest (right_of (p d) _ h) e) ∙ omega arith

pub prefix_all : (p : ℕ → Bool) (ds : List ℕ) → list_all p ds ≡ true → prefix_len p ds ≡ length ds
prefix_all p ds h = ap (prefix_len p) (sym (append-nil ds)) ∙ prefix_to p ds [] h refl

pub drop_front : (ds rest : List ℕ) → drop (length ds) (ds ++ rest) ≡ rest
drop_front [] rest = refl
drop_front (d ∷ ds) rest = drop_front ds rest

pub none_of : (p : ℕ → Bool) (ds : List ℕ) → list_all (λ c. not (p c)) ds ≡ true → list_any p ds ≡ false
none_of p [] h = refl
none_of p (d ∷ ds) h = by_test (none_of p ds) (p d) refl
  where
    by_test : (list_all (λ c. not (p c)) ds ≡ true → list_any p ds ≡ false) → (b : Bool) → p d ≡ b → list_any p (d ∷ ds) ≡ false
    by_test more true e = let k : not (p d) ≡ true = left_of (not (p d)) _ h in let f : not (p d) ≡ false = ap not e in cc
    by_test more false e = rw e (more (right_of (not (p d)) _ h))

abbrev united_from : List (List ℕ × ℕ) → ℕ → ℕ → List ℕ → List ℕ → Result ℕ Wrong
united_from units low high number suffix =
    if is_decimal number then option_map_or (λ factor. in_range low high (times_factor number factor)) (factor_of units suffix) (Err BadNumber) else Err BadNumber

united_gives : (units : List (List ℕ × ℕ)) (low high n : ℕ) (ds unit : List ℕ) → is_numeral 10 ds ≡ true → digits_value 10 ds ≡ n
    → prefix_len is_of_decimal unit ≡ 0 → factor_of units (map small unit) ≡ Some 1 → low ≤ n → n ≤ high → united units low high (ds ++ unit) ≡ Ok n
united_gives units low high n ds unit form value bare one above below =
    let each : is_digits 10 ds ≡ true = right_of (ltb 0 (length ds)) _ form in
    let long : prefix_len is_of_decimal (ds ++ unit) ≡ length ds = prefix_to is_of_decimal ds unit (every_digit 10 is_of_decimal digit_of_decimal ds each) bare in
    let all : number_part (ds ++ unit) ≡ ds = take_at ds unit _ (sym long) in
    let plain : list_all (λ c. not (is_point c)) ds ≡ true = every_digit 10 (λ c. not (is_point c)) digit_no_point ds each in
    let point : position_or_len is_point ds ≡ length ds = prefix_all (λ c. not (is_point c)) ds plain in
    let whole : whole_part ds ≡ ds = take_all _ ds (omega arith) in
    let behind : decimals ds ≡ [] = drop_all _ ds (omega arith) in
    let suffix : suffix_of (ds ++ unit) ≡ map small unit = ap (λ w. map small (drop (length w) (ds ++ unit))) all ∙ ap (map small) (drop_front ds unit) in
    let decimal_form : is_decimal ds ≡ true = ap (λ w. is_numeral 10 w && (not (list_any is_point ds) || is_numeral 10 (decimals ds) && leb (length (decimals ds)) 9)) whole
    ∙ both form (ap (λ b. not b || is_numeral 10 (decimals ds) && leb (length (decimals ds)) 9) (none_of is_point ds plain)) in
    let read : digits_value 10 (whole_part ds ++ decimals ds) ≡ n =
    ap (λ w. digits_value 10 (w ++ decimals ds)) whole ∙ ap (λ w. digits_value 10 (ds ++ w)) behind ∙ ap (digits_value 10) (append-nil ds)
    ∙ value in
    let times : times_factor ds 1 ≡ n = ap (λ k. k * 1 / 10 ^ length (decimals ds)) read ∙ ap (λ (w : List ℕ). n * 1 / 10 ^ length w) behind ∙ omega arith in
    ap (λ w. united_from units low high w (suffix_of (ds ++ unit))) all
    ∙ ap (united_from units low high ds) suffix
    ∙ ap (λ (b : Bool). if b then option_map_or (λ factor. in_range low high (times_factor ds factor)) (factor_of units (map small unit)) (Err BadNumber) else Err BadNumber) decimal_form
    ∙ ap (λ o. option_map_or (λ factor. in_range low high (times_factor ds factor)) o (Err BadNumber)) one
    ∙ ap (in_range low high) times
    ∙ ap (λ (b : Bool). if b then Ok n else Err OutOfRange) (both (le-leb low n above) (le-leb n high below))

united_read : (units : List (List ℕ × ℕ)) (low high n : ℕ) (unit : List ℕ) → prefix_len is_of_decimal unit ≡ 0 → factor_of units (map small unit) ≡ Some 1
    → low ≤ n → n ≤ high → high < 2 ^ 64 → united units low high (decimal n ++ unit) ≡ Ok n
united_read units low high n unit bare one above below few =
    let d = decimal_is_IsNumeral n (omega arith) in
    united_gives units low high n (decimal n) unit (both (lt-ltb _ _ d.0.0) (digits_from_numeral 10 (decimal n) d.0.1)) d.1 bare one above below

-- a size without a unit, a size in bytes and a rate in bits a second are read as what was written
pub size_read : (low high n : ℕ) → low ≤ n → n ≤ high → high < 2 ^ 64 → size_in low high (decimal n ++ []) ≡ Ok n
size_read low high n above below few = united_read size_units low high n [] refl refl above below few

pub bytes_read : (low high n : ℕ) → low ≤ n → n ≤ high → high < 2 ^ 64 → size_in low high (decimal n ++ codes "b") ≡ Ok n
bytes_read low high n above below few = united_read size_units low high n (codes "b") refl refl above below few

pub rate_read : (n : ℕ) → 1 ≤ n → n ≤ 10 ^ 12 → rate_in (decimal n ++ codes "bit") ≡ Ok n
rate_read n above below = united_read rate_units 1 (10 ^ 12) n (codes "bit") refl refl above below (lit< tt)

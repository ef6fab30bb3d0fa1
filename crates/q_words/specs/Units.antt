-- Numbers with a unit: rates, sizes and times, and the value of each in bits a second, bytes and nanoseconds.
-- tc(8), "PARAMETERS", has the units; which of them are read here is this project's choice. Suffixes are in any ASCII case.
use Rattle.std.specs.Prelude.{ℕ, ◌+◌, ◌*◌, ◌/◌, ◌^◌, Bool, not, ◌&&◌, ◌||◌, ◌==◌, nat_le, List, [], ◌∷◌, ◌++◌, length, map, drop, codes, if◌then◌else◌, Option, Some, None, Result, Ok, Err}
use Rattle.std.specs.List.{list_any, take_while, before_first, after_first}
use Rattle.std.specs.Option.{option_map_or}
use Rattle.std.specs.Char.{is_digit}
use Rattle.std.specs.Str.{bytes_eq}
use Rattle.std.specs.Str.Parse.{digits_value}
use Rattle.q_words.specs.Values.{is_numeral}
use Rattle.q_words.specs.declared.wrong.Wrong.{Wrong}
use Rattle.q_words.specs.declared.wrong.Wrong.TheVariants.{BadNumber, OutOfRange}

abbrev pub is_point : ℕ → Bool
is_point b = b == 46

abbrev pub small : ℕ → ℕ
small b = if nat_le 65 b && nat_le b 90 then b + 32 else b

-- a decimal: a whole number, which a point and up to nine decimal places may follow
abbrev pub whole_part : List ℕ → List ℕ
whole_part word = before_first is_point word

abbrev pub decimals : List ℕ → List ℕ
decimals word = after_first is_point word

abbrev pub is_decimal : List ℕ → Bool
is_decimal word =
    is_numeral 10 (whole_part word)
    && (not (list_any is_point word) || is_numeral 10 (decimals word) && nat_le (length (decimals word)) 9)

-- so many units, rounded down
abbrev pub times_factor : List ℕ → ℕ → ℕ
times_factor word factor = digits_value 10 (whole_part word ++ decimals word) * factor / 10 ^ length (decimals word)

-- the factor of a suffix, by its table
abbrev pub factor_of : List (List ℕ × ℕ) → List ℕ → Option ℕ
factor_of [] suffix = None
factor_of (row ∷ rows) suffix = if bytes_eq suffix row.0 then Some row.1 else factor_of rows suffix

abbrev pub rate_units : List (List ℕ × ℕ)
rate_units =
    ([], 1) ∷ (codes "bit", 1) ∷ (codes "kbit", 10 ^ 3) ∷ (codes "mbit", 10 ^ 6) ∷ (codes "gbit", 10 ^ 9) ∷ (codes "tbit", 10 ^ 12)
    ∷ (codes "bps", 8) ∷ (codes "kbps", 8 * 10 ^ 3) ∷ (codes "mbps", 8 * 10 ^ 6) ∷ (codes "gbps", 8 * 10 ^ 9) ∷ (codes "tbps", 8 * 10 ^ 12) ∷ []

abbrev pub size_units : List (List ℕ × ℕ)
size_units =
    ([], 1) ∷ (codes "b", 1) ∷ (codes "k", 1024) ∷ (codes "kb", 1024) ∷ (codes "m", 1048576) ∷ (codes "mb", 1048576)
    ∷ (codes "g", 1073741824) ∷ (codes "gb", 1073741824) ∷ (codes "kbit", 128) ∷ (codes "mbit", 131072) ∷ (codes "gbit", 134217728) ∷ []

abbrev pub time_units : List (List ℕ × ℕ)
time_units =
    ([], 1000) ∷ (codes "us", 1000) ∷ (codes "usec", 1000) ∷ (codes "usecs", 1000)
    ∷ (codes "ms", 10 ^ 6) ∷ (codes "msec", 10 ^ 6) ∷ (codes "msecs", 10 ^ 6)
    ∷ (codes "s", 10 ^ 9) ∷ (codes "sec", 10 ^ 9) ∷ (codes "secs", 10 ^ 9) ∷ []

-- the part before the suffix, and the suffix
abbrev pub is_of_decimal : ℕ → Bool
is_of_decimal b = is_digit b 10 || is_point b

abbrev pub number_part : List ℕ → List ℕ
number_part word = take_while is_of_decimal word

abbrev pub suffix_of : List ℕ → List ℕ
suffix_of word = map small (drop (length (number_part word)) word)

-- a value from low to high; the range is that of the value, after rounding
abbrev pub in_range : ℕ → ℕ → ℕ → Result ℕ Wrong
in_range low high n = if nat_le low n && nat_le n high then Ok n else Err OutOfRange

abbrev pub united : List (List ℕ × ℕ) → ℕ → ℕ → List ℕ → Result ℕ Wrong
united units low high word =
    if is_decimal (number_part word)
    then option_map_or (λ factor. in_range low high (times_factor (number_part word) factor)) (factor_of units (suffix_of word)) (Err BadNumber)
    else Err BadNumber

abbrev pub rate_in : List ℕ → Result ℕ Wrong
rate_in word = united rate_units 1 (10 ^ 12) word

abbrev pub size_in : ℕ → ℕ → List ℕ → Result ℕ Wrong
size_in low high word = united size_units low high word

abbrev pub time_in : ℕ → ℕ → List ℕ → Result ℕ Wrong
time_in low high word = united time_units low high word

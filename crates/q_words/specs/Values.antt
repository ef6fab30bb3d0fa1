-- The values that a word can be: numbers, handles and names.
-- A handle is a qdisc's major number in hexadecimal, as tc(8) has it; ranges are this project's.
use Rattle.std.specs.Prelude.{ℕ, Bool, ◌&&◌, ◌==◌, List, length, nat_le, nat_lt, if◌then◌else◌, Result, Ok, Err}
use Rattle.std.specs.List.{list_all, before_first, after_first}
use Rattle.std.specs.Char.{is_digit}
use Rattle.std.specs.Str.Parse.{digits_value}
use Rattle.q_words.specs.declared.wrong.Wrong.{Wrong}
use Rattle.q_words.specs.declared.wrong.Wrong.TheVariants.{BadNumber, OutOfRange}

-- each byte is a digit in the base
abbrev pub is_digits : ℕ → List ℕ → Bool
is_digits base word = list_all (λ b. is_digit b base) word

-- one digit or more, and nothing else
abbrev pub is_numeral : ℕ → List ℕ → Bool
is_numeral base word = nat_lt 0 (length word) && is_digits base word

-- NUMBER: a decimal number from low to high, of any length
abbrev pub number_in : ℕ → ℕ → List ℕ → Result ℕ Wrong
number_in low high word =
    if is_numeral 10 word
    then (if nat_le low (digits_value 10 word) && nat_le (digits_value 10 word) high then Ok (digits_value 10 word) else Err OutOfRange)
    else Err BadNumber

abbrev pub is_colon : ℕ → Bool
is_colon b = b == 58

-- a major number: up to four hexadecimal digits, 1 to fffe
abbrev pub is_major : List ℕ → Bool
is_major digits = nat_le (length digits) 4 && (nat_le 1 (digits_value 16 digits) && nat_le (digits_value 16 digits) 65534)

-- what may be behind a handle's colon: nothing, or the digit 0
abbrev pub is_no_minor : List ℕ → Bool
is_no_minor digits = nat_le (length digits) 1 && digits_value 16 digits == 0

-- the major number of a handle, given what is before its colon and behind it
abbrev pub handle_from : List ℕ → List ℕ → Result ℕ Wrong
handle_from major minor =
    if is_numeral 16 major && is_digits 16 minor
    then (if is_major major && is_no_minor minor then Ok (digits_value 16 major) else Err OutOfRange)
    else Err BadNumber

-- HANDLE: M, M: or M:0, where M is a major number
abbrev pub handle_of : List ℕ → Result ℕ Wrong
handle_of word = handle_from (before_first is_colon word) (after_first is_colon word)

-- NAME: a device's name, of at most 15 bytes, which is compared with nothing
abbrev pub name_of : List ℕ → Result (Unit {0}) Wrong
name_of word = if nat_le (length word) 15 then Ok tt else Err OutOfRange

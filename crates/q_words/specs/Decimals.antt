-- A decimal as it is read: its whole number as far as it matters, and its decimal places.
use Rattle.std.specs.Prelude.{ℕ, ◌+◌, ◌-◌, ◌*◌, ◌/◌, ◌^◌, ◌≤◌, List, length, min, if◌then◌else◌, Option, Some, None}
use Rattle.std.specs.Str.Parse.{digits_value}
use Rattle.q_words.specs.Units.{is_decimal, whole_part, decimals}
use Rattle.q_words.specs.declared.decimals.Decimal.{Decimal}

-- the greatest number of 64 bits stands for all that are greater
abbrev pub capped : ℕ → ℕ
capped n = min n (2 ^ 64 - 1)

abbrev pub decimal_of : List ℕ → Option Decimal
decimal_of word =
    if is_decimal word
    then Some (record { whole = capped (digits_value 10 (whole_part word)); behind = capped (digits_value 10 (decimals word)); places = length (decimals word) })
    else None

-- so many units, rounded down
abbrev pub times : Decimal → ℕ → ℕ
times d factor = d.whole * factor + d.behind * factor / 10 ^ d.places

-- a factor that the tables of units have
pub record IsFactor (factor : ℕ) : Type 0 where
  pub some : 1 ≤ factor
  pub most : factor ≤ 8 * 10 ^ 12

-- The most bytes of the lines at the end, each the sum of the most that is in it.
use Rattle.std.specs.Prelude.{ℕ, ◌+◌}
use Rattle.q_session.specs.Lengths.{most_device}
use Rattle.q_show.specs.Lengths.{most_decimal}

-- `Pp Bb`, and the end of the line
abbrev pub most_amount : ℕ
most_amount = most_decimal + 2 + most_decimal + 1 + 1

-- `settled ` or `arrived `
abbrev pub most_amount_line : ℕ
most_amount_line = 8 + most_amount

-- `given up `
abbrev pub most_given_up : ℕ
most_given_up = 9 + most_decimal + 1

-- `drained Pp Bb at N`
abbrev pub most_drained : ℕ
most_drained = 8 + most_decimal + 2 + most_decimal + 5 + most_decimal + 1

abbrev pub most_driven : ℕ
most_driven = most_amount_line + most_amount_line + most_given_up + most_drained + most_device

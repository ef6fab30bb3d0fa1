-- How much the output holds, and how much one step of a report may write.
use Rattle.std.specs.Prelude.{ℕ, ◌+◌, ◌≤◌, List, length}

-- what the output has room for
abbrev pub capacity : ℕ
capacity = 65536

-- so many bytes can still be added to what is buffered
abbrev pub HasRoom : List ℕ → ℕ → Type 0
HasRoom text count = length text + count ≤ capacity

-- what one step of the report may write
abbrev pub most_step : ℕ
most_step = 1024

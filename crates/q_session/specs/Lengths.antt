-- The most bytes of what a line of a script writes, and of its parts: the sum of the most that is in it.
use Rattle.std.specs.Prelude.{ℕ, ◌+◌}
use Rattle.q_show.specs.Lengths.{most_counters, most_decimal}

-- `line K: `
abbrev pub most_line_number : ℕ
most_line_number = 5 + most_decimal + 2

-- `CannotChange`
abbrev pub most_name : ℕ
most_name = 12

-- `refused N NAME`, and the end of the line
abbrev pub most_refusal : ℕ
most_refusal = most_line_number + 8 + most_decimal + 1 + most_name + 1

-- `fault N NAME word W`
abbrev pub most_fault_text : ℕ
most_fault_text = 6 + most_decimal + 1 + most_name + 6 + most_decimal

abbrev pub most_fault : ℕ
most_fault = most_line_number + most_fault_text + 1

-- a packet's number and its length
abbrev pub most_packet : ℕ
most_packet = most_decimal + 1 + most_decimal

-- `sent `, a packet, ` ce` and the end of the line
abbrev pub most_poll : ℕ
most_poll = 5 + most_packet + 3 + 1

-- `lost `, a packet, a cause and the end of the line
abbrev pub most_lost : ℕ
most_lost = 5 + most_packet + 1 + most_name + 1

-- `device`, its counters and the end of the line
abbrev pub most_device : ℕ
most_device = 6 + most_counters + 1

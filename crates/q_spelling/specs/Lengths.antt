-- The most bytes of a line, and of each of its parts: the sum of the most that is in it.
use Rattle.std.specs.Prelude.{ℕ, ◌+◌, ◌*◌}
use Rattle.q_show.specs.Lengths.{most_decimal, most_hex, most_ipv4, most_named}

-- a name, a number and the longest unit, `bit`
abbrev pub most_option : ℕ
most_option = most_named + most_decimal + 3

-- a name and a class
abbrev pub most_class_option : ℕ
most_class_option = most_named + most_hex + 1 + most_hex

-- a name, microseconds, a point, three digits and `us`
abbrev pub most_time : ℕ
most_time = most_named + most_decimal + 6

abbrev pub most_handle : ℕ
most_handle = most_named + most_hex + 1

-- four numbers and three points; eight groups and seven colons are shorter
abbrev pub most_address : ℕ
most_address = most_ipv4

abbrev pub most_address_option : ℕ
most_address_option = most_named + most_address

-- a name, an address, `/` and a length
abbrev pub most_prefix : ℕ
most_prefix = most_named + most_address + 1 + most_decimal

abbrev pub most_bands : ℕ
most_bands = 16 * (1 + most_decimal)

-- `bands`, `priomap` and its numbers
abbrev pub most_prio : ℕ
most_prio = 5 + most_option + 8 + most_bands

-- `tbf`, and its three options
abbrev pub most_tbf : ℕ
most_tbf = 4 + 3 * most_time

-- ` noecn`
abbrev pub most_ecn : ℕ
most_ecn = 6

-- ` protocol ipv6`
abbrev pub most_protocol : ℕ
most_protocol = 14

-- `fq_codel`, four options with a number, two times, and ` noecn`
abbrev pub most_fq_codel : ℕ
most_fq_codel = 9 + 4 * most_option + 2 * most_time + most_ecn

-- a prio is the longest kind
abbrev pub most_kind : ℕ
most_kind = most_prio

abbrev pub most_place : ℕ
most_place = most_class_option

abbrev pub most_qdisc : ℕ
most_qdisc = most_place + most_handle + most_kind

abbrev pub most_keys : ℕ
most_keys = 3 * most_option + 2 * most_prefix

-- with ` flower`
abbrev pub most_filter : ℕ
most_filter = most_handle + most_option + most_protocol + 7 + most_keys + most_class_option

abbrev pub most_class_place : ℕ
most_class_place = most_handle + most_class_option

-- with ` drr` and a quantum
abbrev pub most_class : ℕ
most_class = most_class_place + 4 + most_option

-- both addresses of a packet
abbrev pub most_addresses : ℕ
most_addresses = 2 * most_address_option

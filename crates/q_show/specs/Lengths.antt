-- The most bytes of a text, and of each of its parts: the sum of the most that is in it.
-- A number below 2^64 has at most 20 decimal digits, and one below 2^16 at most 4 hexadecimal ones.
use Rattle.std.specs.Prelude.{ℕ, ◌+◌, ◌*◌, ◌≤◌, List, length}

-- what a text has room for
abbrev pub capacity : ℕ
capacity = 1024

-- so many bytes can still be added to a text
abbrev pub HasRoom : List ℕ → ℕ → Type 0
HasRoom text count = length text + count ≤ capacity

-- a text has grown by so many bytes at most
abbrev pub GrowsBy : List ℕ → List ℕ → ℕ → Type 0
GrowsBy old new count = length new ≤ length old + count

abbrev pub most_decimal : ℕ
most_decimal = 20

abbrev pub most_hex : ℕ
most_hex = 4

-- the longest name is `drop_batch`, with a blank on either side; the longest unit is `bit`
abbrev pub most_name : ℕ
most_name = 10

abbrev pub most_named : ℕ
most_named = most_name + 2

abbrev pub most_unit : ℕ
most_unit = 3

abbrev pub most_setting : ℕ
most_setting = most_named + most_decimal + most_unit

-- a counter: packets, bytes, and four bytes round them
abbrev pub most_totals : ℕ
most_totals = most_named + most_decimal + most_decimal + 4

abbrev pub most_counters : ℕ
most_counters = 5 * most_totals

-- with the marks, and the end of the line
abbrev pub most_counters_line : ℕ
most_counters_line = most_counters + most_totals + 1

abbrev pub most_class : ℕ
most_class = most_hex + 1 + most_hex

-- `parent ` and a class
abbrev pub most_place : ℕ
most_place = 7 + most_class

-- `fq_codel`
abbrev pub most_kind : ℕ
most_kind = 8

-- ` priomap`, and 16 numbers with a blank before each
abbrev pub most_band : ℕ
most_band = 1 + most_decimal

abbrev pub most_priomap : ℕ
most_priomap = 8 + 16 * most_band

abbrev pub most_sizes : ℕ
most_sizes = 3 * most_setting

abbrev pub most_times : ℕ
most_times = 2 * most_setting

-- ` noecn`
abbrev pub most_ecn : ℕ
most_ecn = 6

abbrev pub most_losses : ℕ
most_losses = most_ecn + most_setting

abbrev pub most_fq_codel : ℕ
most_fq_codel = most_sizes + most_times + most_losses

-- those of a prio are the longest
abbrev pub most_options : ℕ
most_options = most_setting + most_priomap

-- `qdisc `, a kind, a handle, a place and the options, with what is between them
abbrev pub most_qdisc_line : ℕ
most_qdisc_line = 6 + most_kind + 1 + most_hex + 2 + most_place + most_options + 1

abbrev pub most_qdisc : ℕ
most_qdisc = most_qdisc_line + most_counters_line

-- ` active` and a deficit
abbrev pub most_turn : ℕ
most_turn = 7 + most_setting

-- `drr `, which is not the longest kind of a class, has the longest text
abbrev pub most_class_kind : ℕ
most_class_kind = 4 + most_class + most_setting + most_turn

-- `class `, and the end of the line
abbrev pub most_class_line : ℕ
most_class_line = 6 + most_class_kind + 1

-- `ipv6`
abbrev pub most_protocol : ℕ
most_protocol = 4

-- four numbers and three points; eight groups and seven colons
abbrev pub most_ipv4 : ℕ
most_ipv4 = 4 * most_decimal + 3

abbrev pub most_ipv6 : ℕ
most_ipv6 = 8 * most_hex + 7

-- a name, an address, `/` and a length
abbrev pub most_prefix : ℕ
most_prefix = most_named + most_ipv4 + 1 + most_decimal

abbrev pub most_port : ℕ
most_port = most_named + most_decimal

abbrev pub most_ip_proto : ℕ
most_ip_proto = most_named + most_hex

abbrev pub most_keys : ℕ
most_keys = most_ip_proto + 2 * most_prefix + 2 * most_port

-- `filter parent `, `: prio ` and ` protocol `, with what is behind each
abbrev pub most_matches : ℕ
most_matches = 14 + most_hex + 7 + most_decimal + 10 + most_protocol

-- ` classid ` and a class
abbrev pub most_into : ℕ
most_into = 9 + most_class

-- the end of the line too
abbrev pub most_filter : ℕ
most_filter = most_matches + most_keys + most_into + 1

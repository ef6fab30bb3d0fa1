-- The values of each field of a key that a filter takes: a filter takes a packet if it takes the value of each field.
-- tc-flower(8).
use Rattle.std.specs.Prelude.{ℕ, ◌+◌, ◌-◌, ◌*◌, ◌/◌, ◌^◌, max, min, Option, Some, None, option_map}
use Rattle.q_model.specs.Filters.{family_of}
use Rattle.q_model.specs.Options.{Prefix, bits_of}
use Rattle.q_model.specs.declared.filter.Filter.{Filter}
use Rattle.q_model.specs.declared.protocol.Protocol.{Protocol}
use Rattle.q_model.specs.declared.protocol.Protocol.TheVariants as protocol
use Rattle.q_tree.specs.declared.filters.field_sets.Values.{Values}

-- every value of a field
abbrev pub all_values : Values
all_values = record { first = 0; last = 2 ^ 128 - 1 }

-- a number that is given, or all
abbrev pub number_values : Option ℕ → Values
number_values None = all_values
number_values (Some n) = record { first = n; last = n }

-- the addresses that begin as a prefix does
abbrev pub addresses_from : ℕ → ℕ → Values
addresses_from address size = record { first = address / size * size; last = address / size * size + (size - 1) }

abbrev pub prefix_values : Option Prefix → Values
prefix_values None = all_values
prefix_values (Some p) = addresses_from p.address (2 ^ (bits_of p.version - p.len))

-- the values in both
abbrev pub common_values : Values → Values → Values
common_values v w = record { first = max v.first w.first; last = min v.last w.last }

abbrev pub protocol_family : Protocol → Option ℕ
protocol_family protocol.All = None
protocol_family protocol.Ip = Some 4
protocol_family protocol.Ipv6 = Some 6

abbrev pub prefix_family : Option Prefix → Option ℕ
prefix_family prefix = option_map (λ (p : Prefix). family_of p.version) prefix

-- the families of its protocol and of its prefixes
abbrev pub family_values : Filter → Values
family_values f =
    common_values (number_values (protocol_family f.protocol))
    (common_values (number_values (prefix_family f.keys.src_ip)) (number_values (prefix_family f.keys.dst_ip)))

abbrev pub proto_values : Filter → Values
proto_values f = number_values f.keys.ip_proto

abbrev pub src_values : Filter → Values
src_values f = prefix_values f.keys.src_ip

abbrev pub dst_values : Filter → Values
dst_values f = prefix_values f.keys.dst_ip

abbrev pub sport_values : Filter → Values
sport_values f = number_values f.keys.src_port

abbrev pub dport_values : Filter → Values
dport_values f = number_values f.keys.dst_port

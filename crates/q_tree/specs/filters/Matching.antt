-- A filter's keys by kind: the numbers, which are compared as one word under a mask, and the addresses. tc-flower(8).
use Rattle.std.specs.Prelude.{ℕ, ◌+◌, ◌*◌, ◌^◌, suc, Bool, ◌&&◌, ◌==◌, if◌then◌else◌, List, [], ◌∷◌, unwrap_or}
use Rattle.std.specs.Option.{option_map_or}
use Rattle.q_packet.specs.Key.{Key}
use Rattle.q_model.specs.Filters.{agrees, has_prefix, is_of}
use Rattle.q_model.specs.declared.filter.Filter.{Filter}
use Rattle.q_model.specs.declared.filter_keys.FilterKeys.{FilterKeys}
use Rattle.q_model.specs.declared.protocol.Protocol.{Protocol}
use Rattle.q_model.specs.declared.protocol.Protocol.TheVariants as protocol

-- whether a key has the protocol of a filter, and each number that is given
abbrev pub takes_numbers : Filter → Key → Bool
takes_numbers f key =
    is_of f.protocol key
    && agrees f.keys.ip_proto (λ n. n == key.proto)
    && agrees f.keys.src_port (λ n. n == key.sport)
    && agrees f.keys.dst_port (λ n. n == key.dport)

abbrev pub takes_addresses : FilterKeys → Key → Bool
takes_addresses keys key = agrees keys.src_ip (λ p. has_prefix p key key.src) && agrees keys.dst_ip (λ p. has_prefix p key key.dst)

-- how many filters are before the first that takes the numbers of a key; all, where none does
abbrev pub before_taker : Key → List Filter → ℕ
before_taker key [] = 0
before_taker key (f ∷ filters) = if takes_numbers f key then 0 else suc (before_taker key filters)

-- numbers of 16, 16, 8 and 8 bits side by side, the first one lowest
abbrev pub packed : ℕ → ℕ → ℕ → ℕ → ℕ
packed sport dport proto family = ((family * 2 ^ 8 + proto) * 2 ^ 16 + dport) * 2 ^ 16 + sport

abbrev pub word_of : Key → ℕ
word_of key = packed key.sport key.dport key.proto key.family

abbrev pub family_mask : Protocol → ℕ
family_mask protocol.All = 0
family_mask protocol.Ip = 255
family_mask protocol.Ipv6 = 255

abbrev pub family_wanted : Protocol → ℕ
family_wanted protocol.All = 0
family_wanted protocol.Ip = 4
family_wanted protocol.Ipv6 = 6

-- the bits that are compared: all of a number that is given, and none of another
abbrev pub mask_of : Filter → ℕ
mask_of f =
    packed (option_map_or (λ n. 65535) f.keys.src_port 0) (option_map_or (λ n. 65535) f.keys.dst_port 0)
    (option_map_or (λ n. 255) f.keys.ip_proto 0) (family_mask f.protocol)

-- what these bits are to be
abbrev pub wanted_of : Filter → ℕ
wanted_of f = packed (unwrap_or f.keys.src_port 0) (unwrap_or f.keys.dst_port 0) (unwrap_or f.keys.ip_proto 0) (family_wanted f.protocol)

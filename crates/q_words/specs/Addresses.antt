-- Class ids, addresses, prefixes, protocols and frames, as words.
-- tc(8), "NAMING"; RFC 4291, section 2.2, for IPv6 addresses, without embedded IPv4 ones; tc-flower(8).
use Rattle.std.specs.Prelude.{ℕ, suc, ◌+◌, ◌-◌, ◌*◌, ◌%◌, ◌^◌, Bool, false, not, ◌&&◌, ◌==◌, nat_le, nat_lt, List, [], ◌∷◌, length, map, take, drop, codes, if◌then◌else◌, Option, Some, None, Result, Ok, Err}
use Rattle.std.specs.List.{list_all, list_any, fold, before_first, after_first, slice_split}
use Rattle.std.specs.Option.{option_map_or}
use Rattle.std.specs.Str.{bytes_eq}
use Rattle.std.specs.Str.Parse.{digits_value}
use Rattle.q_packet.specs.Least.{least}
use Rattle.q_model.specs.declared.class_id.ClassId.{ClassId}
use Rattle.q_model.specs.declared.ip_version.IpVersion.{IpVersion}
use Rattle.q_model.specs.declared.ip_version.IpVersion.TheVariants.{V4, V6}
use Rattle.q_model.specs.declared.protocol.Protocol.{Protocol}
use Rattle.q_model.specs.declared.protocol.Protocol.TheVariants.{All, Ip, Ipv6}
use Rattle.q_model.specs.Options.{Prefix, bits_of}
use Rattle.q_words.specs.Units.{is_point}
use Rattle.q_words.specs.Values.{is_colon, is_major, is_numeral}
use Rattle.q_words.specs.declared.wrong.Wrong.{Wrong}
use Rattle.q_words.specs.declared.wrong.Wrong.TheVariants.{UnknownWord, BadNumber, OutOfRange}

-- CLASS: M:m, hexadecimal, M a major number and m from 1 to ffff; the form of both parts comes before their ranges
abbrev pub is_minor : List ℕ → Bool
is_minor digits = nat_le (length digits) 4 && nat_le 1 (digits_value 16 digits)

abbrev pub class_from : List ℕ → List ℕ → Result ClassId Wrong
class_from major minor =
    if is_numeral 16 major && is_numeral 16 minor
    then (if is_major major && is_minor minor then Ok (record { major = digits_value 16 major; minor = digits_value 16 minor }) else Err OutOfRange)
    else Err BadNumber

abbrev pub class_of : List ℕ → Result ClassId Wrong
class_of word = class_from (before_first is_colon word) (after_first is_colon word)

-- an address and its version
pub record Address : Type 0 where
  pub version : IpVersion
  pub address : ℕ

-- four numbers of at most three digits, up to 255; of four numbers one may be too large, however long it is
abbrev pub joined : ℕ → List ℕ → ℕ
joined base parts = fold (λ n part. n * base + part) 0 parts

abbrev pub ipv4_of : List (List ℕ) → Result Address Wrong
ipv4_of parts =
    if length parts == 4 && list_all (is_numeral 10) parts
    then (if list_any (λ part. nat_lt 255 (digits_value 10 part)) parts then Err OutOfRange
    else if list_all (λ part. nat_le (length part) 3) parts then Ok (record { version = V4; address = joined 256 (map (digits_value 10) parts) })
    else Err BadNumber)
    else Err BadNumber

-- eight groups of up to four hexadecimal digits, of which one run of zero groups may be written ::
abbrev pub is_group : List ℕ → Bool
is_group part = is_numeral 16 part && nat_le (length part) 4

abbrev pub groups_in : List ℕ → List (List ℕ)
groups_in [] = []
groups_in (b ∷ bytes) = slice_split is_colon (b ∷ bytes)

abbrev pub begins_with_two : List ℕ → Bool
begins_with_two (a ∷ b ∷ bytes) = is_colon a && is_colon b
begins_with_two (a ∷ []) = false
begins_with_two [] = false

-- where the two colons are, or the length
abbrev pub gap_at : List ℕ → ℕ
gap_at word = least (λ i. begins_with_two (drop i word)) (length word)

abbrev pub groups_value : List (List ℕ) → ℕ
groups_value groups = joined 65536 (map (digits_value 16) groups)

abbrev pub ipv6_of : List (List ℕ) → List (List ℕ) → Bool → Result Address Wrong
ipv6_of left right gap =
    let n = length left + length right in
    if list_all is_group left && list_all is_group right && (if gap then nat_le n 7 else n == 8)
    then Ok (record { version = V6; address = groups_value left * 65536 ^ (8 - length left) + groups_value right })
    else Err BadNumber

-- a word with a colon is one of version 6
abbrev pub address_of : List ℕ → Result Address Wrong
address_of word =
    let i = gap_at word in
    if list_any is_colon word then ipv6_of (groups_in (take i word)) (groups_in (drop (suc (suc i)) word)) (nat_lt i (length word))
    else ipv4_of (slice_split is_point word)

-- the address, and behind a slash the number of bits that are compared
abbrev pub is_slash : ℕ → Bool
is_slash b = b == 47

abbrev pub prefix_from : Address → Option (List ℕ) → Result Prefix Wrong
prefix_from a None = Ok (record { version = a.version; address = a.address; len = bits_of a.version })
prefix_from a (Some len) =
    if is_numeral 10 len
    then (if nat_le (digits_value 10 len) (bits_of a.version) then Ok (record { version = a.version; address = a.address; len = digits_value 10 len }) else Err OutOfRange)
    else Err BadNumber

-- what is wrong with the form of either part comes before what is wrong with its range
abbrev pub has_bad_length : Option (List ℕ) → Bool
has_bad_length len = option_map_or (λ digits. not (is_numeral 10 digits)) len false

abbrev pub prefix_of : List ℕ → Result Prefix Wrong
prefix_of word =
    let len = if list_any is_slash word then Some (after_first is_slash word) else None in
    elim (address_of (before_first is_slash word)) [
      | Ok a ↦ prefix_from a len
      | Err e ↦ if has_bad_length len then Err BadNumber else Err e
    ]

-- the protocol above IP: a name, or a hexadecimal number up to ff
abbrev pub protocol_number : List ℕ → Result ℕ Wrong
protocol_number word =
    if bytes_eq word (codes "tcp") then Ok 6 else if bytes_eq word (codes "udp") then Ok 17
    else if bytes_eq word (codes "sctp") then Ok 132 else if bytes_eq word (codes "icmp") then Ok 1
    else if bytes_eq word (codes "icmpv6") then Ok 58
    else if is_numeral 16 word then (if nat_le (digits_value 16 word) 255 then Ok (digits_value 16 word) else Err OutOfRange)
    else Err BadNumber

abbrev pub protocol_of : List ℕ → Result Protocol Wrong
protocol_of word =
    if bytes_eq word (codes "ip") then Ok Ip else if bytes_eq word (codes "ipv6") then Ok Ipv6
    else if bytes_eq word (codes "all") then Ok All else Err UnknownWord

-- the bytes of a frame: two hexadecimal digits a byte, and one byte or more
abbrev pub bytes_from : List ℕ → List ℕ
bytes_from (a ∷ b ∷ digits) = digits_value 16 (a ∷ b ∷ []) ∷ bytes_from digits
bytes_from (a ∷ []) = []
bytes_from [] = []

abbrev pub frame_of : List ℕ → Result (List ℕ) Wrong
frame_of word = if is_numeral 16 word && length word % 2 == 0 then Ok (bytes_from word) else Err BadNumber

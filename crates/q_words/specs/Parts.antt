-- The pieces of a word that are still to be read, and the groups of an IPv6 address.
use Rattle.std.specs.Prelude.{ℕ, suc, ◌+◌, ◌-◌, ◌*◌, ◌^◌, ◌<◌, ◌≤◌, ◌==◌, ◌&&◌, Bool, nat_lt, nat_le, List, [], ◌∷◌, Option, Some, None, Result, Ok, Err, if◌then◌else◌}
use Rattle.std.specs.List.{slice_split}
use Rattle.std.specs.Str.Parse.{digits_value}
use Rattle.q_model.specs.declared.ip_version.IpVersion.TheVariants.{V6}
use Rattle.q_model.specs.Options.{Prefix}
use Rattle.q_packet.specs.Head.{head}
use Rattle.q_packet.specs.declared.head.Head.{Head}
use Rattle.q_words.specs.Addresses.{Address, is_group, prefix_from, has_bad_length, frame_of}
use Rattle.q_words.specs.declared.wrong.Wrong.{Wrong}
use Rattle.q_words.specs.declared.wrong.Wrong.TheVariants.{BadNumber, OutOfRange}
use Rattle.q_words.specs.Values.{is_numeral}
use Rattle.q_words.specs.declared.ipv6.Groups.{Groups}
use Rattle.q_words.specs.declared.parts.Parts.{Parts}

abbrev pub parts_in : Parts → List (List ℕ)
parts_in p = if p.more then slice_split (λ b. b == p.mark) p.rest.now else []

-- groups behind those that were read, at most eight together
abbrev pub groups_behind : Groups → List (List ℕ) → Option Groups
groups_behind g [] = Some g
groups_behind g (part ∷ parts) =
    if nat_lt g.count 8 && is_group part then groups_behind (record { count = suc g.count; value = g.value * 65536 + digits_value 16 part }) parts else None

abbrev pub groups_of : List (List ℕ) → Option Groups
groups_of parts = groups_behind (record { count = 0; value = 0 }) parts

-- eight groups or fewer, and a number that they can write
pub record IsShort (g : Groups) : Type 0 where
  pub few : g.count ≤ 8
  pub value : g.value < 65536 ^ g.count

-- the address of these groups; a gap stands for one zero group or more
abbrev pub address_from : Groups → Groups → Bool → Result Address Wrong
address_from high low gap =
    let n = high.count + low.count in
    if (if gap then nat_le n 7 else n == 8)
    then Ok (record { version = V6; address = high.value * 65536 ^ (8 - high.count) + low.value })
    else Err BadNumber

-- a protocol's number in hexadecimal
abbrev pub byte_of : List ℕ → Result ℕ Wrong
byte_of word = if is_numeral 16 word then (if nat_le (digits_value 16 word) 255 then Ok (digits_value 16 word) else Err OutOfRange) else Err BadNumber

-- a prefix of the address that was read, with the length that is there
abbrev pub prefix_with : Result Address Wrong → Option (List ℕ) → Result Prefix Wrong
prefix_with (Ok a) len = prefix_from a len
prefix_with (Err e) len = if has_bad_length len then Err BadNumber else Err e

-- the head of the packet whose first bytes a word is
abbrev pub head_of_frame : List ℕ → Result Head Wrong
head_of_frame word = elim (frame_of word) [ Ok bytes ↦ Ok (head bytes) | Err e ↦ Err e ]

-- What a filter compares of a key, and the bucket of what it wants there. tc-flower(8).
-- The hash is the project's own: products that wrap at 64 bits, of which the highest bits are taken.
use Rattle.std.specs.Prelude.{ℕ, ◌+◌, ◌-◌, ◌*◌, ◌/◌, ◌%◌, ◌^◌, bit_and, Option}
use Rattle.std.specs.Option.{option_map_or}
use Rattle.q_packet.specs.Key.{Key}
use Rattle.q_model.specs.Options.{Prefix, bits_of}
use Rattle.q_model.specs.declared.filter.Filter.{Filter}
use Rattle.q_tree.specs.filters.Matching.{mask_of, wanted_of, word_of}
use Rattle.q_tree.specs.declared.filters.filter_shape.FilterShape.{FilterShape}

-- how many low bits of an address are not compared: all, where no address is given
abbrev pub rest_of : Option Prefix → ℕ
rest_of prefix = option_map_or (λ (p : Prefix). bits_of p.version - p.len) prefix 128

abbrev pub shape_of : Filter → FilterShape
shape_of f = record { mask = mask_of f; src_rest = rest_of f.keys.src_ip; dst_rest = rest_of f.keys.dst_ip }

-- numbers and addresses, as far as they are compared
pub record Parts : Type 0 where
  pub word : ℕ
  pub src : ℕ
  pub dst : ℕ

abbrev pub parts_of : FilterShape → Key → Parts
parts_of s k = record { word = bit_and (word_of k) s.mask; src = k.src / 2 ^ s.src_rest; dst = k.dst / 2 ^ s.dst_rest }

-- what a filter wants them to be
abbrev pub prefix_wanted : Option Prefix → ℕ
prefix_wanted prefix = option_map_or (λ (p : Prefix). p.address / 2 ^ (bits_of p.version - p.len)) prefix 0

abbrev pub parts_wanted : Filter → Parts
parts_wanted f = record { word = wanted_of f; src = prefix_wanted f.keys.src_ip; dst = prefix_wanted f.keys.dst_ip }

-- an address in 64 bits
unfoldable pub folded : ℕ → ℕ
folded a = (a % 2 ^ 64 + a / 2 ^ 64 * 0xff51afd7ed558ccd % 2 ^ 64) % 2 ^ 64

-- one of 256 for a word
unfoldable pub spread : ℕ → ℕ
spread n = n * 0x9e3779b97f4a7c15 % 2 ^ 64 / 2 ^ 56

unfoldable pub with_addresses : ℕ → ℕ → ℕ → ℕ
with_addresses word src dst = ((word + folded src * 0xc4ceb9fe1a85ec53 % 2 ^ 64) % 2 ^ 64 + folded dst * 0x2545f4914f6cdd1d % 2 ^ 64) % 2 ^ 64

abbrev pub bucket : Parts → ℕ
bucket p = spread (with_addresses p.word p.src p.dst)

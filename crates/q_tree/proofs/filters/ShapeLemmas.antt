-- What the parts of a key are where no address is compared, and that those of a key are what a filter wants that takes it.
use Rattle.std.proofs.Common.{◌≡◌, ◌∙◌, ℕ, ◌/◌, ◌^◌, ◌<◌, ◌≤◌, sym, Option, Some, None, arith}
use Rattle.std.proofs.Math.Nat.{div-eq_of_lt}
use Rattle.std.proofs.Math.Pow.{pow_mono}
use Rattle.std.proofs.lemmas.Bool.{and_parts, eqb-true}
use Rattle.std.specs.Prelude.{true, bit_and}
use Rattle.q_packet.specs.Descriptor.{Descriptor}
use Rattle.q_packet.specs.Key.{FitsBytes, IsKey, Key}
use Rattle.q_packet.proofs.KeyLemmas.{FitsBytes_key}
use Rattle.q_model.specs.Filters.{agrees, has_prefix, matches}
use Rattle.q_model.specs.Options.{Prefix}
use Rattle.q_model.specs.Ranges.{IsFilter}
use Rattle.q_model.specs.declared.filter.Filter.{Filter}
use Rattle.q_tree.specs.filters.FilterShapes.{folded, parts_of, parts_wanted, prefix_wanted, rest_of, shape_of, with_addresses}
use Rattle.q_tree.specs.filters.Matching.{mask_of, takes_addresses, takes_numbers, wanted_of, word_of}
use Rattle.q_tree.proofs.filters.MatchingLemmas.{by-kind, one-comparison}

-- nothing is left of a number of 128 bits
pub none-left : (a r : ℕ) → a < 2 ^ 128 → 128 ≤ r → a / 2 ^ r ≡ 0
none-left a r small past = div-eq_of_lt (omega (arith, small, pow_mono {i = 128} {j = r} past))

-- a word alone
pub word-alone : (w : ℕ) → w < 2 ^ 64 → with_addresses w 0 0 ≡ w
unfolding with_addresses folded
word-alone w small = omega (arith, small)

-- an address that a filter takes has the bits that it wants
address-wanted : (prefix : Option Prefix) (k : Key) (a : ℕ) → a < 2 ^ 128 → agrees prefix (λ p. has_prefix p k a) ≡ true → a / 2 ^ rest_of prefix ≡ prefix_wanted prefix
address-wanted None k a small h = none-left a 128 small (omega arith)
address-wanted (Some p) k a small h = eqb-true _ _ (and_parts _ _ h).1

-- what is compared of a key that a filter takes is what that wants
pub parts-wanted : (p : Descriptor) (f : Filter) → IsFilter f → IsKey p.key → matches p f ≡ true → parts_of (shape_of f) p.key ≡ parts_wanted f
parts-wanted p f range key takes =
    let fits : FitsBytes p.key = FitsBytes_key p.key key in
    let both = and_parts (takes_numbers f p.key) (takes_addresses f.keys p.key) (sym (by-kind p f) ∙ takes) in
    let numbers : bit_and (word_of p.key) (mask_of f) ≡ wanted_of f = eqb-true _ _ (one-comparison f p.key range key ∙ both.0) in
    let addresses = and_parts (agrees f.keys.src_ip (λ q. has_prefix q p.key p.key.src)) (agrees f.keys.dst_ip (λ q. has_prefix q p.key p.key.dst)) both.1 in
    let src = address-wanted f.keys.src_ip p.key p.key.src fits.src addresses.0 in
    let dst = address-wanted f.keys.dst_ip p.key p.key.dst fits.dst addresses.1 in
    λ i. record { word = numbers i; src = src i; dst = dst i }

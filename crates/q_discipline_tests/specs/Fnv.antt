-- The FNV-1a hash of Fowler, Noll and Vo, in 32 bits that wrap.
-- It is defined in draft-eastlake-fnv, section 2.
use Rattle.std.specs.Prelude.{ℕ, ◌*◌, ◌%◌, ◌^◌, List, fold, bit_xor}

-- one byte mixed in
unfoldable pub fnv_mixed : ℕ → ℕ → ℕ
fnv_mixed h byte = bit_xor h byte * 16777619 % 2 ^ 32

unfoldable pub fnv1a : List ℕ → ℕ
fnv1a bytes = fold fnv_mixed 2166136261 bytes

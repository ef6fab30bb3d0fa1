-- Bob Jenkins' one-at-a-time hash, in 32 bits that wrap.
-- It is published in "Hash functions", Dr. Dobb's Journal, September 1997.
use Rattle.std.specs.Prelude.{ℕ, ◌+◌, ◌*◌, ◌/◌, ◌%◌, ◌^◌, List, fold, bit_xor}

-- a + b, h << k and h >> k at 32 bits
abbrev pub plus : ℕ → ℕ → ℕ
plus a b = (a + b) % 2 ^ 32

abbrev pub left : ℕ → ℕ → ℕ
left h k = h * 2 ^ k % 2 ^ 32

abbrev pub right : ℕ → ℕ → ℕ
right h k = h / 2 ^ k

-- one byte mixed in
unfoldable pub mixed : ℕ → ℕ → ℕ
mixed h byte = let added = plus h byte in let spread = plus added (left added 10) in bit_xor spread (right spread 6)

-- after the last byte
unfoldable pub finished : ℕ → ℕ
finished h = let a = plus h (left h 3) in let b = bit_xor a (right a 11) in plus b (left b 15)

unfoldable pub one_at_a_time : ℕ → List ℕ → ℕ
one_at_a_time seed bytes = finished (fold mixed seed bytes)

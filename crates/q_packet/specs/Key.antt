-- What a contract sees of a flow key: its fields, as numbers.
-- The family is 0 (not IP), 4 or 6; an IPv4 address is in the low 32 bits, below bits that are 0.
use Rattle.std.specs.Prelude.{ℕ, Bool, ◌||◌, ◌==◌, ◌<◌, ◌^◌, if◌then◌else◌, IsTrue, List, ◌∷◌, ◌++◌}
use Rattle.byteorder.specs.Endian.{big_bytes}

pub record Key : Type 0 where
  pub family : ℕ
  pub proto : ℕ
  pub src : ℕ
  pub dst : ℕ
  pub sport : ℕ
  pub dport : ℕ

-- 0 for what is not IP, 4 and 6 for the two versions of IP
abbrev pub is_family : ℕ → Bool
is_family n = n == 0 || n == 4 || n == 6

-- the width of an address: 32 bits in IPv4 (RFC 791, section 3.1), 128 in IPv6 (RFC 8200, section 3); where the family
-- is neither, the width of the field
abbrev pub address_bits : ℕ → ℕ
address_bits family = if family == 4 then 32 else 128

-- the key of a packet that is not IP
abbrev pub zero_key : Key
zero_key = record { family = 0; proto = 0; src = 0; dst = 0; sport = 0; dport = 0 }

-- what every `FlowKey` keeps: one of the three families, addresses no wider than it has them, and fields of their widths
pub record IsKey (k : Key) : Type 0 where
  pub family : IsTrue (is_family k.family)
  pub proto : k.proto < 2 ^ 8
  pub src : k.src < 2 ^ address_bits k.family
  pub dst : k.dst < 2 ^ address_bits k.family
  pub sport : k.sport < 2 ^ 16
  pub dport : k.dport < 2 ^ 16

-- each number fits the bytes that are written for it, as those of every key do
pub record FitsBytes (k : Key) : Type 0 where
  pub family : k.family < 2 ^ 8
  pub proto : k.proto < 2 ^ 8
  pub src : k.src < 2 ^ 128
  pub dst : k.dst < 2 ^ 128
  pub sport : k.sport < 2 ^ 16
  pub dport : k.dport < 2 ^ 16

-- the 38 bytes of a key: its fields in order, the highest byte of each first (network byte order)
unfoldable pub key_bytes : Key → List ℕ
key_bytes k = k.family ∷ k.proto
    ∷ (big_bytes 16 k.src ++ (big_bytes 16 k.dst ++ (big_bytes 2 k.sport ++ big_bytes 2 k.dport)))

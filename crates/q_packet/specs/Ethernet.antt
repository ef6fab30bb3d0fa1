-- The byte at which the IP header of an Ethernet frame begins. Bytes are counted from 0. The type follows the two addresses of
-- six bytes each (IEEE 802.3, clause 3). A tag of four bytes before it begins with a type of its own (IEEE 802.1Q, clause 9),
-- of which a frame has two at most: the service tag of IEEE 802.1ad, and the customer tag. The types of IP are those of RFC
-- 894 and RFC 2464.
use Rattle.std.specs.Prelude.{ℕ, ◌+◌, ◌==◌, nat_le, Bool, ◌&&◌, ◌||◌, if◌then◌else◌, List, length, Option, Some, None}
use Rattle.byteorder.specs.Endian.{big_from}

-- a type is at byte `at`, and is one of these two
abbrev pub has_type : ℕ → ℕ → ℕ → List ℕ → Bool
has_type a b at frame = nat_le (at + 2) (length frame) && (big_from at 2 frame == a || big_from at 2 frame == b)

-- a customer or a service tag begins at byte `at`
abbrev pub is_tag : ℕ → List ℕ → Bool
is_tag at frame = has_type 0x8100 0x88a8 at frame

-- the byte at which the frame's type begins, behind the tags
abbrev pub type_at : List ℕ → ℕ
type_at frame = if is_tag 12 frame then (if is_tag 16 frame then 20 else 16) else 12

-- the byte at which the header of IPv4 or IPv6 begins
abbrev pub ip_at : List ℕ → Option ℕ
ip_at frame = if has_type 0x0800 0x86dd (type_at frame) frame then Some (type_at frame + 2) else None

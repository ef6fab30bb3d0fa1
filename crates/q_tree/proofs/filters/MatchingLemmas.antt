-- What one comparison under a mask says of the numbers of a key, and what it leaves of a search among filters.
use Rattle.std.proofs.Common.{◌≡◌, ◌∙◌, ℕ, ◌+◌, ◌*◌, ◌^◌, ◌%◌, ◌<◌, ◌≤◌, suc, List, [], ◌∷◌, length, refl, sym, ap, ap₂, subst, Option, Some, None, arith}
use Rattle.std.proofs.lemmas.Bool.{and_from, and_parts, eq-eqb, eqb-true, false≢true}
use Rattle.std.proofs.lemmas.Bool.Decides.{same_from_decides}
use Rattle.std.proofs.lemmas.Nat.{and_block, and_comm, and_le_l, and_mask, same_from_place}
use Rattle.std.specs.List.{find}
use Rattle.std.specs.Option.{option_map_or}
use Rattle.std.specs.Prelude.{Bool, true, false, ◌&&◌, ◌==◌, bit_and, if◌then◌else◌, IfSome, is_some, slice_get, unwrap_or}
use Rattle.q_packet.specs.Descriptor.{Descriptor}
use Rattle.q_packet.specs.Key.{FitsBytes, IsKey, Key}
use Rattle.q_packet.proofs.KeyLemmas.{FitsBytes_key}
use Rattle.q_model.specs.Filters.{agrees, has_prefix, is_of, matches}
use Rattle.q_model.specs.Ranges.{IsFilter}
use Rattle.q_model.specs.declared.filter.Filter.{Filter}
use Rattle.q_model.specs.declared.filter_keys.FilterKeys.{FilterKeys}
use Rattle.q_model.specs.declared.ip_prefix.IpPrefix.{IpPrefix}
use Rattle.q_model.specs.declared.protocol.Protocol.{Protocol}
use Rattle.q_model.specs.declared.protocol.Protocol.TheVariants as protocol
use Rattle.q_tree.specs.filters.Matching.{before_taker, family_mask, family_wanted, mask_of, packed, takes_addresses, takes_numbers, wanted_of, word_of}

-- ---- one number under its mask

turned : (a b : ℕ) → (a == b) ≡ (b == a)
turned a b = same_from_decides {P = a ≡ b} (a == b) (b == a) (eqb-true a b, eq-eqb a b) (λ e. sym (eqb-true b a e), λ e. eq-eqb b a (sym e))

port-masked : (o : Option ℕ) (n : ℕ) → n < 2 ^ 16 → (bit_and n (option_map_or (λ m. 65535) o 0) == unwrap_or o 0) ≡ agrees o (λ m. m == n)
port-masked None n h = ap (λ x. x == 0) (and_comm n 0)
port-masked (Some m) n h =
    let small : n % 2 ^ 16 ≡ n = omega (arith, h) in
    ap (λ x. x == m) (and_mask n 16 ∙ small) ∙ turned n m

proto-masked : (o : Option ℕ) (n : ℕ) → n < 2 ^ 8 → (bit_and n (option_map_or (λ m. 255) o 0) == unwrap_or o 0) ≡ agrees o (λ m. m == n)
proto-masked None n h = ap (λ x. x == 0) (and_comm n 0)
proto-masked (Some m) n h =
    let small : n % 2 ^ 8 ≡ n = omega (arith, h) in
    ap (λ x. x == m) (and_mask n 8 ∙ small) ∙ turned n m

family-masked : (kind : Protocol) (k : Key) → k.family < 2 ^ 8 → (bit_and k.family (family_mask kind) == family_wanted kind) ≡ is_of kind k
family-masked protocol.All k h = ap (λ x. x == 0) (and_comm k.family 0)
family-masked protocol.Ip k h =
    let small : k.family % 2 ^ 8 ≡ k.family = omega (arith, h) in
    ap (λ x. x == 4) (and_mask k.family 8 ∙ small)
family-masked protocol.Ipv6 k h =
    let small : k.family % 2 ^ 8 ≡ k.family = omega (arith, h) in
    ap (λ x. x == 6) (and_mask k.family 8 ∙ small)

-- ---- numbers side by side

same-block : (w x y r s : ℕ) → r < w → s < w → (x * w + r == y * w + s) ≡ (x == y && r == s)
same-block w x y r s low less =
    same_from_decides {P = (x ≡ y) × (r ≡ s)} (x * w + r == y * w + s) (x == y && r == s)
    (λ e. same_from_place x r y s w low less (eqb-true (x * w + r) (y * w + s) e), λ h. eq-eqb (x * w + r) (y * w + s) (ap₂ (λ a b. a * w + b) h.0 h.1))
    ((λ e. let both = and_parts (x == y) (r == s) e in (eqb-true x y both.0, eqb-true r s both.1)), λ h. and_from (x == y) (r == s) (eq-eqb x y h.0) (eq-eqb r s h.1))

packed-and : (a b c d m n o q : ℕ) → a < 2 ^ 16 → b < 2 ^ 16 → c < 2 ^ 8 → m < 2 ^ 16 → n < 2 ^ 16 → o < 2 ^ 8
    → bit_and (packed a b c d) (packed m n o q) ≡ packed (bit_and a m) (bit_and b n) (bit_and c o) (bit_and d q)
packed-and a b c d m n o q a-fits b-fits c-fits m-fits n-fits o-fits =
    and_block 16 ((d * 2 ^ 8 + c) * 2 ^ 16 + b) ((q * 2 ^ 8 + o) * 2 ^ 16 + n) a m a-fits m-fits
    ∙ ap (λ x. x * 2 ^ 16 + bit_and a m) (and_block 16 (d * 2 ^ 8 + c) (q * 2 ^ 8 + o) b n b-fits n-fits)
    ∙ ap (λ x. (x * 2 ^ 16 + bit_and b n) * 2 ^ 16 + bit_and a m) (and_block 8 d q c o c-fits o-fits)

packed-same : (a b c d m n o q : ℕ) → a < 2 ^ 16 → b < 2 ^ 16 → c < 2 ^ 8 → m < 2 ^ 16 → n < 2 ^ 16 → o < 2 ^ 8 → (packed a b c d == packed m n o q) ≡ (d == q && c == o && b == n && a == m)
packed-same a b c d m n o q a-fits b-fits c-fits m-fits n-fits o-fits =
    same-block (2 ^ 16) ((d * 2 ^ 8 + c) * 2 ^ 16 + b) ((q * 2 ^ 8 + o) * 2 ^ 16 + n) a m a-fits m-fits
    ∙ ap (λ x. x && a == m) (same-block (2 ^ 16) (d * 2 ^ 8 + c) (q * 2 ^ 8 + o) b n b-fits n-fits)
    ∙ ap (λ x. x && b == n && a == m) (same-block (2 ^ 8) d q c o c-fits o-fits)

below-and : (a m k : ℕ) → a < k → bit_and a m < k
below-and a m k h = omega (arith, h, and_le_l a m)

port-mask : (o : Option ℕ) → option_map_or (λ m. 65535) o 0 < 2 ^ 16
port-mask None = omega arith
port-mask (Some m) = omega arith

proto-mask : (o : Option ℕ) → option_map_or (λ m. 255) o 0 < 2 ^ 8
proto-mask None = omega arith
proto-mask (Some m) = omega arith

port-wanted : (o : Option ℕ) → IfSome o (λ n. (0 ≤ n) × (n ≤ 0xffff)) → unwrap_or o 0 < 2 ^ 16
port-wanted None h = omega arith
port-wanted (Some n) h = omega (arith, h.1)

proto-wanted : (o : Option ℕ) → IfSome o (λ n. (0 ≤ n) × (n ≤ 0xff)) → unwrap_or o 0 < 2 ^ 8
proto-wanted None h = omega arith
proto-wanted (Some n) h = omega (arith, h.1)

-- one comparison tells of all numbers
pub one-comparison : (f : Filter) (k : Key) → IsFilter f → IsKey k → (bit_and (word_of k) (mask_of f) == wanted_of f) ≡ takes_numbers f k
one-comparison f k range key =
    let fits : FitsBytes k = FitsBytes_key k key in
    let sm = option_map_or (λ m. 65535) f.keys.src_port 0 in
    let dm = option_map_or (λ m. 65535) f.keys.dst_port 0 in
    let pm = option_map_or (λ m. 255) f.keys.ip_proto 0 in
    let fm = family_mask f.protocol in
    ap (λ x. x == wanted_of f) (packed-and k.sport k.dport k.proto k.family sm dm pm fm key.sport key.dport key.proto (port-mask f.keys.src_port)
    (port-mask f.keys.dst_port) (proto-mask f.keys.ip_proto))
    ∙ packed-same (bit_and k.sport sm) (bit_and k.dport dm) (bit_and k.proto pm) (bit_and k.family fm) (unwrap_or f.keys.src_port 0)
    (unwrap_or f.keys.dst_port 0) (unwrap_or f.keys.ip_proto 0) (family_wanted f.protocol)
    (below-and k.sport sm (2 ^ 16) key.sport) (below-and k.dport dm (2 ^ 16) key.dport) (below-and k.proto pm (2 ^ 8) key.proto)
    (port-wanted f.keys.src_port range.src_port) (port-wanted f.keys.dst_port range.dst_port) (proto-wanted f.keys.ip_proto range.ip_proto)
    ∙ all-four (bit_and k.family fm == family_wanted f.protocol) (bit_and k.proto pm == unwrap_or f.keys.ip_proto 0)
    (bit_and k.dport dm == unwrap_or f.keys.dst_port 0) (bit_and k.sport sm == unwrap_or f.keys.src_port 0)
    (is_of f.protocol k) (agrees f.keys.ip_proto (λ n. n == k.proto)) (agrees f.keys.src_port (λ n. n == k.sport)) (agrees f.keys.dst_port (λ n. n == k.dport))
    (family-masked f.protocol k fits.family) (proto-masked f.keys.ip_proto k.proto key.proto) (port-masked f.keys.dst_port k.dport key.dport) (port-masked f.keys.src_port k.sport key.sport)
  where
    swapped : (a b c d : Bool) → (a && b && c && d) ≡ (a && b && d && c)
    swapped a b true true = refl
    swapped true true true false = refl
    swapped true false true false = refl
    swapped false b true false = refl
    swapped true true false true = refl
    swapped true false false true = refl
    swapped false b false true = refl
    swapped a b false false = refl

    all-four : (a b c d a2 b2 d2 c2 : Bool) → a ≡ a2 → b ≡ b2 → c ≡ c2 → d ≡ d2 → (a && b && c && d) ≡ (a2 && b2 && d2 && c2)
    all-four a b c d a2 b2 d2 c2 ea eb ec ed = (λ i. ea i && eb i && ec i && ed i) ∙ swapped a2 b2 c2 d2

-- ---- a filter by its numbers and its addresses

pub by-kind : (p : Descriptor) (f : Filter) → matches p f ≡ (takes_numbers f p.key && takes_addresses f.keys p.key)
by-kind p f = reorder (is_of f.protocol p.key) _ _ _ _ _
  where
    reorder : (a b s d sp dp : Bool) → (a && (b && s && d && sp && dp)) ≡ ((a && b && sp && dp) && (s && d))
    reorder false b s d sp dp = refl
    reorder true false s d sp dp = refl
    reorder true true true true true true = refl
    reorder true true true true true false = refl
    reorder true true true true false dp = refl
    reorder true true true false true true = refl
    reorder true true true false true false = refl
    reorder true true true false false dp = refl
    reorder true true false d true true = refl
    reorder true true false d true false = refl
    reorder true true false d false dp = refl

-- ---- a search among filters

-- where no filter takes the numbers of a packet, none takes it
pub none-takes : (p : Descriptor) (fs : List Filter) → length fs ≤ before_taker p.key fs → find (matches p) fs ≡ None
none-takes p [] h = refl
none-takes p (f ∷ fs) h = by (takes_numbers f p.key) refl (none-takes p fs)
  where
    by : (b : Bool) → takes_numbers f p.key ≡ b → (length fs ≤ before_taker p.key fs → find (matches p) fs ≡ None) → find (matches p) (f ∷ fs) ≡ None
    by true is rest = absurd (omega (arith, subst (λ b. length (f ∷ fs) ≤ (if b then 0 else suc (before_taker p.key fs))) is h))
    by false is rest =
        let other : matches p f ≡ false = by-kind p f ∙ ap (λ b. b && takes_addresses f.keys p.key) is in
        let behind : length fs ≤ before_taker p.key fs = omega (arith, subst (λ b. length (f ∷ fs) ≤ (if b then 0 else suc (before_taker p.key fs))) is h) in
        ap (λ b. if b then Some f else find (matches p) fs) other ∙ rest behind

-- the first that takes the numbers is the one where it takes the addresses too
pub first-takes : (p : Descriptor) (fs : List Filter) (g : Filter) → slice_get fs (before_taker p.key fs) ≡ Some g → takes_addresses g.keys p.key ≡ true → find (matches p) fs ≡ Some g
first-takes p [] g there addresses = cc
first-takes p (f ∷ fs) g there addresses = by (takes_numbers f p.key) refl (λ behind. first-takes p fs g behind addresses)
  where
    by : (b : Bool) → takes_numbers f p.key ≡ b → (slice_get fs (before_taker p.key fs) ≡ Some g → find (matches p) fs ≡ Some g) → find (matches p) (f ∷ fs) ≡ Some g
    by true is rest =
        let found : Some f ≡ Some g = subst (λ b. slice_get (f ∷ fs) (if b then 0 else suc (before_taker p.key fs)) ≡ Some g) is there in
        let same : f ≡ g = cc in
        let taken : matches p f ≡ true = by-kind p f ∙ ap (λ b. b && takes_addresses f.keys p.key) is ∙ ap (λ (x : Filter). takes_addresses x.keys p.key) same ∙ addresses in
        ap (λ b. if b then Some f else find (matches p) fs) taken ∙ found
    by false is rest =
        let other : matches p f ≡ false = by-kind p f ∙ ap (λ b. b && takes_addresses f.keys p.key) is in
        let behind : slice_get fs (before_taker p.key fs) ≡ Some g = subst (λ b. slice_get (f ∷ fs) (if b then 0 else suc (before_taker p.key fs)) ≡ Some g) is there in
        ap (λ b. if b then Some f else find (matches p) fs) other ∙ rest behind

-- no address is asked where none is given
no-prefix : (o : Option IpPrefix) (holds : IpPrefix → Bool) → is_some o ≡ false → agrees o holds ≡ true
no-prefix None holds h = refl
no-prefix (Some p) holds h = absurd (false≢true (sym h))

pub no-addresses : (keys : FilterKeys) (k : Key) → is_some keys.src_ip ≡ false → is_some keys.dst_ip ≡ false → takes_addresses keys k ≡ true
no-addresses keys k src dst = ap₂ (λ a b. a && b) (no-prefix keys.src_ip (λ p. has_prefix p k k.src) src) (no-prefix keys.dst_ip (λ p. has_prefix p k k.dst) dst)

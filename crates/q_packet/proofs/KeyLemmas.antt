-- Keys whose numbers fit their bytes have the same bytes only where they are equal.
use Rattle.std.proofs.Common.{◌≡◌, ℕ, ◌<◌, ◌^◌, Bool, true, false, List, [], ◌++◌, get_or, drop, sym, ap, ◌∙◌, arith}
use Rattle.std.specs.Prelude.{if◌then◌else◌, ◌==◌, IsTrue}
use Rattle.std.proofs.lemmas.Grind.{common_steps}
use Rattle.std.proofs.lemmas.List.{drop_at}
use Rattle.byteorder.specs.Endian.{big_bytes, big_from}
use Rattle.byteorder.specs.Numbers.{big_number-reads_back, length-bytes_high_first}
use Rattle.q_packet.specs.Key.{Key, IsKey, FitsBytes, is_family, key_bytes}

-- no address is wider than its field, whichever family it is of
address_fits : (is_4 : Bool) (address : ℕ) → address < 2 ^ (if is_4 then 32 else 128) → address < 2 ^ 128
address_fits true address below = omega arith
address_fits false address below = below

-- a family is a byte
family_fits : (family : ℕ) → IsTrue (is_family family) → family < 2 ^ 8
family_fits family known = grind (arith, common_steps)

-- the numbers of every key fit their bytes
pub FitsBytes_key : (k : Key) → IsKey k → FitsBytes k
FitsBytes_key k h = record {
  family = family_fits k.family h.family;
  proto = h.proto;
  src = address_fits (k.family == 4) k.src h.src;
  dst = address_fits (k.family == 4) k.dst h.dst;
  sport = h.sport;
  dport = h.dport;
}

-- a number of n bytes and what follows it can both be read back
front_number : (n x y : ℕ) (xs ys : List ℕ) → x < 256 ^ n → y < 256 ^ n → big_bytes n x ++ xs ≡ big_bytes n y ++ ys → x ≡ y
front_number n x y xs ys x_fits y_fits e =
    sym (big_number-reads_back n x xs x_fits) ∙ ap (big_from 0 n) e ∙ big_number-reads_back n y ys y_fits

behind_number : (n x y : ℕ) (xs ys : List ℕ) → big_bytes n x ++ xs ≡ big_bytes n y ++ ys → xs ≡ ys
behind_number n x y xs ys e =
    sym (drop_at (big_bytes n x) xs n (length-bytes_high_first n x)) ∙ ap (drop n) e ∙ drop_at (big_bytes n y) ys n (length-bytes_high_first n y)

-- keys with the same bytes are the same key
pub key_from_bytes : (a b : Key) → FitsBytes a → FitsBytes b → key_bytes a ≡ key_bytes b → a ≡ b
unfolding key_bytes
key_from_bytes a b in_a in_b e =
    let src_on = ap (drop 2) e in
    let dst_on = behind_number 16 a.src b.src _ _ src_on in
    let sport_on = behind_number 16 a.dst b.dst _ _ dst_on in
    let dport_on : big_bytes 2 a.dport ≡ big_bytes 2 b.dport = behind_number 2 a.sport b.sport _ _ sport_on in
    let family : a.family ≡ b.family = ap (λ (xs : List ℕ). get_or xs 0 0) e in
    let proto : a.proto ≡ b.proto = ap (λ (xs : List ℕ). get_or xs 1 0) e in
    let src : a.src ≡ b.src = front_number 16 a.src b.src _ _ in_a.src in_b.src src_on in
    let dst : a.dst ≡ b.dst = front_number 16 a.dst b.dst _ _ in_a.dst in_b.dst dst_on in
    let sport : a.sport ≡ b.sport = front_number 2 a.sport b.sport _ _ in_a.sport in_b.sport sport_on in
    let dport : a.dport ≡ b.dport = front_number 2 a.dport b.dport [] [] in_a.dport in_b.dport (ap (λ (xs : List ℕ). xs ++ []) dport_on) in
    let fields : ◌≡◌ {A = Key}
    (record { family = a.family; proto = a.proto; src = a.src; dst = a.dst; sport = a.sport; dport = a.dport })
    (record { family = b.family; proto = b.proto; src = b.src; dst = b.dst; sport = b.sport; dport = b.dport }) = cc in
    fields

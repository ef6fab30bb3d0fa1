-- A filter takes a packet if it takes the value of each field.
use Rattle.std.proofs.Common.{◌≡◌, ◌∙◌, ◌⊎◌, ap, ap₂, ℕ, suc, ◌+◌, ◌-◌, ◌*◌, ◌/◌, ◌%◌, ◌^◌, ◌<◌, ◌≤◌, sym, refl, subst, arith, inl, inr, max, min, Option, Some, None, suc-mul, div-add-mod', pow_pos}
use Rattle.std.specs.Prelude.{Bool, true, false, ◌==◌, ◌&&◌, nat_le}
use Rattle.std.proofs.lemmas.Bool.{cases_lt, eq-eqb, eqb-true, le-leb, leb-true, and_parts}
use Rattle.std.proofs.lemmas.Nat.{div-mul-add, div_below, le-div, mod_below, pow-add}
use Rattle.std.proofs.Math.Nat.{div-mul-le_self, mod-eq_of_lt}
use Rattle.q_packet.specs.Descriptor.{Descriptor}
use Rattle.q_packet.specs.Key.{FitsBytes, IsKey, Key}
use Rattle.q_packet.proofs.KeyLemmas.{FitsBytes_key}
use Rattle.q_model.specs.Filters.{agrees, family_of, has_prefix, is_of, matches}
use Rattle.q_model.specs.Options.{Prefix, bits_of}
use Rattle.q_model.specs.declared.filter.Filter.{Filter}
use Rattle.q_model.specs.declared.protocol.Protocol.{Protocol}
use Rattle.q_model.specs.declared.protocol.Protocol.TheVariants as protocol
use Rattle.q_tree.specs.filters.FieldSets.{is_in}
use Rattle.q_tree.specs.filters.FieldValues.{addresses_from, common_values, dport_values, dst_values, family_values, number_values, prefix_family, prefix_values, proto_values, protocol_family, sport_values, src_values}
use Rattle.q_tree.specs.declared.filters.field_sets.Values.{Values}

-- the last address of a prefix is an address
pub last_fits : (a r : ℕ) → a < 2 ^ 128 → r < 128 → a / 2 ^ r * 2 ^ r + (2 ^ r - 1) < 2 ^ 128
last_fits a r small within = by (cases_lt n (2 ^ 128))
  where
    n : ℕ
    n = a / 2 ^ r * 2 ^ r + (2 ^ r - 1)

    whole : 2 ^ (128 - r) * 2 ^ r ≡ 2 ^ 128
    whole =
        let e : (128 - r) + r ≡ 128 = omega (arith, within) in
        sym (pow-add 2 (128 - r) r) ∙ ap (λ k. 2 ^ k) e

    by : (n < 2 ^ 128) ⊎ (2 ^ 128 ≤ n) → n < 2 ^ 128
    by (inl low) = low
    by (inr high) =
        let few : a / 2 ^ r < 2 ^ (128 - r) = div_below a (2 ^ r) (2 ^ (128 - r)) (pow_pos r) (subst (λ m. a < m) (sym whole) small) in
        let many : 2 ^ (128 - r) ≤ n / 2 ^ r = le-div (2 ^ (128 - r)) n (2 ^ r) (pow_pos r) (subst (λ m. m ≤ n) (sym whole) high) in
        let below : 2 ^ r - 1 < 2 ^ r = omega (arith, pow_pos r) in
        absurd (omega (arith, few, many, div-mul-add (a / 2 ^ r) (2 ^ r) (2 ^ r - 1) below))

-- no bit of an address is shifted out where it goes back
pub shifted_back : (a r : ℕ) → a < 2 ^ 128 → a / 2 ^ r * 2 ^ r % 2 ^ 128 ≡ a / 2 ^ r * 2 ^ r
shifted_back a r small = mod-eq_of_lt (omega (arith, small, div-mul-le_self a (2 ^ r)))

-- two tests that hold together are the same
pub same_bool : (a b : Bool) → (a ≡ true → b ≡ true) → (b ≡ true → a ≡ true) → a ≡ b
same_bool true b to from = sym (to refl)
same_bool false true to from = from refl
same_bool false false to from = refl

and_both : (a b : Bool) → a ≡ true → b ≡ true → (a && b) ≡ true
and_both a b h k = ap₂ (λ x y. x && y) h k

pub number-in : (n x : ℕ) → (nat_le n x && nat_le x n) ≡ (n == x)
number-in n x = same_bool (nat_le n x && nat_le x n) (n == x) to from
  where
    to : (nat_le n x && nat_le x n) ≡ true → (n == x) ≡ true
    to h =
        let parts = and_parts (nat_le n x) (nat_le x n) h in
        eq-eqb n x (omega (arith, leb-true n x parts.0, leb-true x n parts.1))

    from : (n == x) ≡ true → (nat_le n x && nat_le x n) ≡ true
    from h =
        let same : n ≡ x = eqb-true n x h in
        and_both (nat_le n x) (nat_le x n) (le-leb n x (omega (arith, same))) (le-leb x n (omega (arith, same)))

all-in : (x : ℕ) → x < 2 ^ 128 → (nat_le 0 x && nat_le x (2 ^ 128 - 1)) ≡ true
all-in x low = and_both (nat_le 0 x) (nat_le x (2 ^ 128 - 1)) (le-leb 0 x (omega arith)) (le-leb x (2 ^ 128 - 1) (omega (arith, low)))

pub given-in : (o : Option ℕ) (x : ℕ) → x < 2 ^ 128 → is_in (number_values o) x ≡ agrees o (λ n. n == x)
given-in None x low = all-in x low
given-in (Some n) x low = number-in n x

-- those of one quotient
addresses-in : (x a s : ℕ) → 0 < s → is_in (addresses_from a s) x ≡ (x / s == a / s)
addresses-in x a s some = same_bool (is_in (addresses_from a s) x) (x / s == a / s) to from
  where
    to : is_in (addresses_from a s) x ≡ true → (x / s == a / s) ≡ true
    to h =
        let parts = and_parts (nat_le (a / s * s) x) (nat_le x (a / s * s + (s - 1))) h in
        let low : a / s * s ≤ x = leb-true (a / s * s) x parts.0 in
        let high : x ≤ a / s * s + (s - 1) = leb-true x (a / s * s + (s - 1)) parts.1 in
        let least : a / s ≤ x / s = le-div (a / s) x s some low in
        let under : x < suc (a / s) * s = omega (arith, high, suc-mul (a / s) s, some) in
        let most : x / s < suc (a / s) = div_below x s (suc (a / s)) some under in
        eq-eqb (x / s) (a / s) (omega (arith, least, most))

    from : (x / s == a / s) ≡ true → is_in (addresses_from a s) x ≡ true
    from h =
        let same : x / s * s ≡ a / s * s = ap (λ q. q * s) (eqb-true (x / s) (a / s) h) in
        and_both (nat_le (a / s * s) x) (nat_le x (a / s * s + (s - 1)))
        (le-leb (a / s * s) x (omega (arith, same, div-add-mod' x s)))
        (le-leb x (a / s * s + (s - 1)) (omega (arith, same, div-add-mod' x s, mod_below x s some)))

prefix-in : (o : Option Prefix) (x : ℕ) → x < 2 ^ 128
    → is_in (prefix_values o) x ≡ agrees o (λ p. x / 2 ^ (bits_of p.version - p.len) == p.address / 2 ^ (bits_of p.version - p.len))
prefix-in None x low = all-in x low
prefix-in (Some p) x low = addresses-in x p.address (2 ^ (bits_of p.version - p.len)) (pow_pos (bits_of p.version - p.len))

-- the values in both
common-in : (v w : Values) (x : ℕ) → is_in (common_values v w) x ≡ (is_in v x && is_in w x)
common-in v w x = same_bool (is_in (common_values v w) x) (is_in v x && is_in w x) to from
  where
    to : is_in (common_values v w) x ≡ true → (is_in v x && is_in w x) ≡ true
    to h =
        let parts = and_parts (nat_le (max v.first w.first) x) (nat_le x (min v.last w.last)) h in
        let low = leb-true (max v.first w.first) x parts.0 in
        let high = leb-true x (min v.last w.last) parts.1 in
        and_both (is_in v x) (is_in w x)
        (and_both (nat_le v.first x) (nat_le x v.last) (le-leb v.first x (omega (arith, low))) (le-leb x v.last (omega (arith, high))))
        (and_both (nat_le w.first x) (nat_le x w.last) (le-leb w.first x (omega (arith, low))) (le-leb x w.last (omega (arith, high))))

    from : (is_in v x && is_in w x) ≡ true → is_in (common_values v w) x ≡ true
    from h =
        let both = and_parts (is_in v x) (is_in w x) h in
        let vs = and_parts (nat_le v.first x) (nat_le x v.last) both.0 in
        let ws = and_parts (nat_le w.first x) (nat_le x w.last) both.1 in
        let a = leb-true v.first x vs.0 in
        let b = leb-true x v.last vs.1 in
        let c = leb-true w.first x ws.0 in
        let d = leb-true x w.last ws.1 in
        and_both (nat_le (max v.first w.first) x) (nat_le x (min v.last w.last))
        (le-leb (max v.first w.first) x (omega (arith, a, c))) (le-leb x (min v.last w.last) (omega (arith, b, d)))

eqb-swap : (a b : ℕ) → (a == b) ≡ (b == a)
eqb-swap a b = same_bool (a == b) (b == a) (λ h. eq-eqb b a (sym (eqb-true a b h))) (λ h. eq-eqb a b (sym (eqb-true b a h)))

-- the family of a protocol, and of a prefix
protocol-in : (q : Protocol) (k : Key) → k.family < 2 ^ 128 → is_in (number_values (protocol_family q)) k.family ≡ is_of q k
protocol-in protocol.All k low = all-in k.family low
protocol-in protocol.Ip k low = number-in 4 k.family ∙ eqb-swap 4 k.family
protocol-in protocol.Ipv6 k low = number-in 6 k.family ∙ eqb-swap 6 k.family

version-in : (o : Option Prefix) (k : Key) → k.family < 2 ^ 128 → is_in (number_values (prefix_family o)) k.family ≡ agrees o (λ p. k.family == family_of p.version)
version-in None k low = all-in k.family low
version-in (Some p) k low = number-in (family_of p.version) k.family ∙ eqb-swap (family_of p.version) k.family

-- a prefix is agreed with in family and address
by-parts : (o : Option Prefix) (k : Key) (a : ℕ)
    → agrees o (λ p. has_prefix p k a) ≡ (agrees o (λ p. k.family == family_of p.version) && agrees o (λ p. a / 2 ^ (bits_of p.version - p.len) == p.address / 2 ^ (bits_of p.version - p.len)))
by-parts None k a = refl
by-parts (Some p) k a = refl

-- what six sets say
abbrev pub in_sets : Filter → Key → Bool
in_sets f k =
    (is_in (family_values f) k.family && is_in (proto_values f) k.proto)
    && ((is_in (src_values f) k.src && is_in (dst_values f) k.dst) && (is_in (sport_values f) k.sport && is_in (dport_values f) k.dport))

shuffled : (i p fs s fd d sp dp : Bool) → (((i && (fs && fd)) && p) && ((s && d) && (sp && dp))) ≡ (i && ((((p && (fs && s)) && (fd && d)) && sp) && dp))
shuffled i p fs s fd d sp dp = grind arith

pub takes-in : (p : Descriptor) (f : Filter) → IsKey p.key → in_sets f p.key ≡ matches p f
takes-in p f key =
    ap₂ (λ a b. a && b)
    (ap₂ (λ a b. a && b) family (given-in f.keys.ip_proto k.proto (omega (arith, fits.proto))))
    (ap₂ (λ a b. a && b) (ap₂ (λ a b. a && b) (prefix-in f.keys.src_ip k.src fits.src) (prefix-in f.keys.dst_ip k.dst fits.dst))
    (ap₂ (λ a b. a && b) (given-in f.keys.src_port k.sport (omega (arith, fits.sport))) (given-in f.keys.dst_port k.dport (omega (arith, fits.dport)))))
    ∙ shuffled (is_of f.protocol k) (agrees f.keys.ip_proto (λ n. n == k.proto)) (of_version f.keys.src_ip) (begins f.keys.src_ip k.src) (of_version f.keys.dst_ip) (begins f.keys.dst_ip k.dst)
    (agrees f.keys.src_port (λ n. n == k.sport)) (agrees f.keys.dst_port (λ n. n == k.dport))
    ∙ ap₂ (λ a b. is_of f.protocol k && ((((agrees f.keys.ip_proto (λ n. n == k.proto) && a) && b) && agrees f.keys.src_port (λ n. n == k.sport)) && agrees f.keys.dst_port (λ n. n == k.dport)))
    (sym (by-parts f.keys.src_ip k k.src)) (sym (by-parts f.keys.dst_ip k k.dst))
  where
    k : Key
    k = p.key

    fits : FitsBytes k
    fits = FitsBytes_key k key

    low : k.family < 2 ^ 128
    low = omega (arith, fits.family)

    of_version : Option Prefix → Bool
    of_version o = agrees o (λ q. k.family == family_of q.version)

    begins : Option Prefix → ℕ → Bool
    begins o a = agrees o (λ q. a / 2 ^ (bits_of q.version - q.len) == q.address / 2 ^ (bits_of q.version - q.len))

    family : is_in (family_values f) k.family ≡ (is_of f.protocol k && (of_version f.keys.src_ip && of_version f.keys.dst_ip))
    family =
        common-in (number_values (protocol_family f.protocol)) (common_values (number_values (prefix_family f.keys.src_ip)) (number_values (prefix_family f.keys.dst_ip))) k.family
        ∙ ap₂ (λ a b. a && b) (protocol-in f.protocol k low)
        (common-in (number_values (prefix_family f.keys.src_ip)) (number_values (prefix_family f.keys.dst_ip)) k.family
        ∙ ap₂ (λ a b. a && b) (version-in f.keys.src_ip k low) (version-in f.keys.dst_ip k low))

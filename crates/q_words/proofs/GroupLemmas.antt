-- Groups of an IPv6 address: what the reader counts and adds up is what the definition says of all of them.
use Rattle.std.proofs.Common.{◌≡◌, ℕ, suc, ◌+◌, ◌-◌, ◌*◌, ◌^◌, ◌<◌, ◌≤◌, ◌&&◌, ◌==◌, min, Bool, true, false, List, [], ◌∷◌, length, map, nat_lt, nat_le, fold, Option, Some, None, Result, Ok, Err, refl, sym, ap, ◌∙◌, arith, if◌then◌else◌, lit<}
use Rattle.std.specs.List.{list_all}
use Rattle.std.specs.Str.Parse.{digits_value, AllDigits}
use Rattle.std.proofs.lemmas.Int.Digits.{digits_value-lt}
use Rattle.std.proofs.lemmas.Bool.{ltb-true, ltb-false, lt-leb, ne_eqb}
use Rattle.std.proofs.lemmas.Nat.{pow-add}
use Rattle.std.proofs.Math.Nat.{pow-le-pow_right, mul-le-mul}
use Rattle.q_model.specs.declared.ip_version.IpVersion.TheVariants.{V6}
use Rattle.q_words.specs.Addresses.{Address, is_group, begins_with_two, ipv6_of, groups_value}
use Rattle.q_words.specs.Values.{is_digits}
use Rattle.q_words.specs.Parts.{address_from, groups_behind, groups_of}
use Rattle.q_words.specs.declared.ipv6.Groups.{Groups}
use Rattle.q_words.specs.declared.wrong.Wrong.{Wrong}
use Rattle.q_words.specs.declared.wrong.Wrong.TheVariants.{BadNumber}
use Rattle.q_words.proofs.Both.{left_of, right_of}

-- numbers of so many groups fit 128 bits

pub fits_seven : (n : ℕ) → n ≤ 7 → 65536 ^ n < 2 ^ 128
fits_seven n few =
    let h : 65536 ^ n ≤ 65536 ^ 7 = pow-le-pow_right (lit< tt) few in
    let k : 65536 ^ 7 < 2 ^ 128 = lit< tt in
    omega arith

pub fits_128 : (n v : ℕ) → n ≤ 8 → v < 65536 ^ n → v < 2 ^ 128
fits_128 n v few short =
    let h : 65536 ^ n ≤ 65536 ^ 8 = pow-le-pow_right (lit< tt) few in
    let k : 65536 ^ 8 ≡ 2 ^ 128 = refl in
    omega arith

pub group_fits : (n v g : ℕ) → n < 8 → v < 65536 ^ n → g < 65536 → v * 65536 + g < 2 ^ 128
group_fits n v g few short small =
    let seven : n ≤ 7 = omega arith in
    let h : 65536 ^ n ≤ 65536 ^ 7 = pow-le-pow_right (lit< tt) seven in
    let k : 65536 ^ 7 * 65536 ≡ 2 ^ 128 = refl in
    omega arith

pub joined_fits : (n m v w : ℕ) → n + m ≤ 8 → v < 65536 ^ n → w < 65536 ^ m → v * 65536 ^ (8 - n) + w < 2 ^ 128
joined_fits n m v w few high low =
    let left : m ≤ 8 - n = omega arith in
    let behind : 65536 ^ m ≤ 65536 ^ (8 - n) = pow-le-pow_right (lit< tt) left in
    let whole : n + (8 - n) ≡ 8 = omega arith in
    let all : 65536 ^ n * 65536 ^ (8 - n) ≡ 65536 ^ 8 = sym (pow-add 65536 n (8 - n)) ∙ ap (λ k. 65536 ^ k) whole in
    let bits : 65536 ^ 8 ≡ 2 ^ 128 = refl in
    let next : v + 1 ≤ 65536 ^ n = omega arith in
    let same : 65536 ^ (8 - n) ≤ 65536 ^ (8 - n) = omega arith in
    let one : (v + 1) * 65536 ^ (8 - n) ≤ 65536 ^ n * 65536 ^ (8 - n) = mul-le-mul next same in
    omega arith

-- where the reader gets through, all are groups, and it has their number and their value

record Read (n v : ℕ) (gs : List (List ℕ)) (g : Groups) : Type 0 where
  each : list_all is_group gs ≡ true
  count : g.count ≡ n + length gs
  value : g.value ≡ fold (λ n part. n * 65536 + part) v (map (digits_value 16) gs)

abbrev next : Bool → ℕ → ℕ → List ℕ → List (List ℕ) → Option Groups
next b n v part parts = if b then groups_behind (record { count = suc n; value = v * 65536 + digits_value 16 part }) parts else None

read : (gs : List (List ℕ)) (n v : ℕ) (g : Groups) → groups_behind (record { count = n; value = v }) gs ≡ Some g → Read n v gs g
read [] n v g e = let same : record { count = n; value = v } ≡ g = cc in
    record { each = refl; count = omega (arith, ap (λ (k : Groups). k.count) same); value = ap (λ (k : Groups). k.value) (sym same) }
read (part ∷ parts) n v g e = by_test (read parts) (nat_lt n 8 && is_group part) refl
  where
    by_test : ((n v : ℕ) (g : Groups) → groups_behind (record { count = n; value = v }) parts ≡ Some g → Read n v parts g)
        → (b : Bool) → (nat_lt n 8 && is_group part) ≡ b → Read n v (part ∷ parts) g
    by_test more true t =
        let r = more (suc n) (v * 65536 + digits_value 16 part) g (ap (λ b. next b n v part parts) (sym t) ∙ e) in
        record {
          each = ap (λ b. b && list_all is_group parts) (right_of (nat_lt n 8) (is_group part) t) ∙ r.each;
          count = omega (arith, r.count);
          value = r.value;
        }
    by_test more false t = absurd (let none : None ≡ Some g = ap (λ b. next b n v part parts) (sym t) ∙ e in cc)

-- where it does not, one is none, or they are too many

data Refused (n : ℕ) (gs : List (List ℕ)) : Type 0 where
  no_group : list_all is_group gs ≡ false → Refused n gs
  too_many : 8 < n + length gs → Refused n gs

refused : (gs : List (List ℕ)) (n v : ℕ) → n ≤ 8 → groups_behind (record { count = n; value = v }) gs ≡ None → Refused n gs
refused [] n v few e = absurd (let same : Some (record { count = n; value = v }) ≡ None = e in cc)
refused (part ∷ parts) n v few e = by_test (refused parts) (nat_lt n 8) refl (is_group part) refl
  where
    by_test : ((n v : ℕ) → n ≤ 8 → groups_behind (record { count = n; value = v }) parts ≡ None → Refused n parts)
        → (b : Bool) → nat_lt n 8 ≡ b → (a : Bool) → is_group part ≡ a → Refused n (part ∷ parts)
    by_test more b t false s = no_group (ap (λ a. a && list_all is_group parts) s)
    by_test more false t true s = too_many (omega (arith, ltb-false n 8 t))
    by_test more true t true s =
        elim (more (suc n) (v * 65536 + digits_value 16 part) (omega (arith, ltb-true n 8 t))
        (ap (λ b. next (b && true) n v part parts) (sym t) ∙ ap (λ a. next (nat_lt n 8 && a) n v part parts) (sym s) ∙ e)) [
          | no_group h ↦ no_group (ap (λ a. a && list_all is_group parts) s ∙ h)
          | too_many h ↦ too_many (omega (arith, h))
        ]

-- so the definition and the reader agree on an address

abbrev fits_gap : Bool → ℕ → Bool
fits_gap gap n = if gap then nat_le n 7 else n == 8

abbrev answer : List (List ℕ) → List (List ℕ) → Bool → Result Address Wrong
answer l r b = if b then Ok (record { version = V6; address = groups_value l * 65536 ^ (8 - length l) + groups_value r }) else Err BadNumber

abbrev test : List (List ℕ) → List (List ℕ) → Bool → Bool
test l r gap = list_all is_group l && list_all is_group r && fits_gap gap (length l + length r)

pub and_false : (a : Bool) → (a && false) ≡ false
and_false true = refl
and_false false = refl

too_many_fits : (gap : Bool) (n : ℕ) → 8 < n → fits_gap gap n ≡ false
too_many_fits true n h = lt-leb _ _ (omega arith)
too_many_fits false n h = ne_eqb _ _ (omega arith)

pub bad_left : (l r : List (List ℕ)) (gap : Bool) → groups_of l ≡ None → ipv6_of l r gap ≡ Err BadNumber
bad_left l r gap e = elim (refused l 0 0 (omega arith) e) [
  | no_group h ↦ ap (answer l r) (ap (λ b. b && list_all is_group r && fits_gap gap (length l + length r)) h)
  | too_many h ↦ ap (answer l r) (ap (λ b. list_all is_group l && list_all is_group r && b) (too_many_fits gap (length l + length r) (omega (arith, h))) ∙ and_false _)
]

pub bad_right : (l r : List (List ℕ)) (gap : Bool) → groups_of r ≡ None → ipv6_of l r gap ≡ Err BadNumber
bad_right l r gap e = elim (refused r 0 0 (omega arith) e) [
  | no_group h ↦ ap (answer l r) (ap (λ b. list_all is_group l && b && fits_gap gap (length l + length r)) h ∙ ap (λ b. b && fits_gap gap (length l + length r)) (and_false (list_all is_group l)))
  | too_many h ↦ ap (answer l r) (ap (λ b. list_all is_group l && list_all is_group r && b) (too_many_fits gap (length l + length r) (omega (arith, h))) ∙ and_false _)
]

pub both_good : (l r : List (List ℕ)) (gap : Bool) (high low : Groups) → groups_of l ≡ Some high → groups_of r ≡ Some low → ipv6_of l r gap ≡ address_from high low gap
both_good l r gap high low e k =
    let h = read l 0 0 high e in
    let w = read r 0 0 low k in
    let n : length l ≡ high.count = omega (arith, h.count) in
    let m : length r ≡ low.count = omega (arith, w.count) in
    let v : groups_value l ≡ high.value = sym h.value in
    let u : groups_value r ≡ low.value = sym w.value in
    ap (λ b. answer l r (b && list_all is_group r && fits_gap gap (length l + length r))) h.each
    ∙ ap (λ b. answer l r (b && fits_gap gap (length l + length r))) w.each
    ∙ rw (n, m, v, u) refl

-- a group's value

pub all_digits : (base : ℕ) (ds : List ℕ) → is_digits base ds ≡ true → AllDigits base ds
all_digits base [] h = tt
all_digits base (d ∷ ds) h = (ltb-true _ _ (left_of _ (is_digits base ds) h), all_digits base ds (right_of _ (is_digits base ds) h))

pub record GroupValue (part : List ℕ) (v : ℕ) : Type 0 where
  pub digits : is_digits 16 part ≡ true
  pub value : v ≡ digits_value 16 part
  pub small : v < 65536

pub group_value : (part : List ℕ) (v : ℕ) → (if is_digits 16 part then Some (min (digits_value 16 part) (2 ^ 64 - 1)) else None) ≡ Some v → length part ≤ 4 → GroupValue part v
group_value part v e short = by_test (is_digits 16 part) refl
  where
    by_test : (b : Bool) → is_digits 16 part ≡ b → GroupValue part v
    by_test true t =
        let same : Some (min (digits_value 16 part) (2 ^ 64 - 1)) ≡ Some v = ap (λ (b : Bool). if b then Some (min (digits_value 16 part) (2 ^ 64 - 1)) else None) (sym t) ∙ e in
        let is : min (digits_value 16 part) (2 ^ 64 - 1) ≡ v = cc in
        let below : digits_value 16 part < 16 ^ length part = digits_value-lt 16 part (all_digits 16 part t) in
        let most : 16 ^ length part ≤ 16 ^ 4 = pow-le-pow_right (lit< tt) short in
        record { digits = t; value = omega arith; small = omega arith }
    by_test false t = absurd (let none : None ≡ Some v = ap (λ (b : Bool). if b then Some (min (digits_value 16 part) (2 ^ 64 - 1)) else None) (sym t) ∙ e in cc)

pub two_there : (bytes : List ℕ) → begins_with_two bytes ≡ true → 2 ≤ length bytes
two_there [] e = absurd (let same : false ≡ true = e in cc)
two_there (a ∷ []) e = absurd (let same : false ≡ true = e in cc)
two_there (a ∷ b ∷ bytes) e = omega arith

-- Decimals with a unit: what is read of them is the value that the definition says, in the range or past it.
use Rattle.std.proofs.Common.{◌≡◌, ℕ, suc, ◌+◌, ◌-◌, ◌*◌, ◌/◌, ◌^◌, ◌<◌, ◌≤◌, ◌&&◌, ◌||◌, not, Bool, true, false, List, [], ◌∷◌, ◌++◌, length, nat_lt, nat_le, Option, Some, None, Ok, Err, inl, inr, refl, sym, ap, ◌∙◌, arith, if◌then◌else◌, lit<}
use Rattle.std.specs.List.{list_any, position_or_len, prefix_len, position, after_first}
use Rattle.std.specs.Char.{digit_value}
use Rattle.std.specs.Str.Parse.{digits_value, digits_value_after}
use Rattle.std.proofs.lemmas.Bool.{cases_lt, lt-leb, leb-true}
use Rattle.std.specs.Option.{option_map_or, unwrap_or}
use Rattle.std.proofs.lemmas.List.Folds.{length-prefix_len}
use Rattle.std.proofs.lemmas.Int.Digits.{digits_value-lt}
use Rattle.std.proofs.Math.Nat.{mul-le-mul_left, add-mul-div_right, pow-le-pow_right, pow-suc, pow-zero, one-le-pow}
use Rattle.q_words.specs.Units.{is_point, is_of_decimal, number_part, is_decimal, whole_part, decimals, times_factor, in_range}
use Rattle.q_words.specs.Decimals.{IsFactor, capped, decimal_of, times}
use Rattle.q_words.specs.Values.{is_numeral}
use Rattle.q_words.specs.declared.decimals.Decimal.{Decimal}
use Rattle.q_words.specs.declared.wrong.Wrong.TheVariants.{BadNumber, OutOfRange}
use Rattle.q_words.proofs.Both.{left_of, right_of}
use Rattle.q_words.proofs.GroupLemmas.{all_digits, and_false}
use Rattle.q_words.proofs.Cuts.{first_or_length}

-- without a point nothing stands behind it

one_more : (n : ℕ) → (1 + n) + 1 ≡ suc (n + 1)
one_more n = omega arith

after_none : (p : ℕ → Bool) (xs : List ℕ) → list_any p xs ≡ false → after_first p xs ≡ []
after_none p [] h = refl
after_none p (x ∷ xs) h = by_test (after_none p xs) (p x) refl
  where
    by_test : (list_any p xs ≡ false → after_first p xs ≡ []) → (b : Bool) → p x ≡ b → after_first p (x ∷ xs) ≡ []
    by_test more true t = absurd (let same : true ≡ false = ap (λ b. b || list_any p xs) (sym t) ∙ h in cc)
    by_test more false t =
        let e : position_or_len p (x ∷ xs) ≡ 1 + position_or_len p xs = rw t refl in
        rw (e, one_more) (more (ap (λ b. b || list_any p xs) (sym t) ∙ h))

some_is : (b : Bool) (n m : ℕ) → (if b then Some n else None) ≡ Some m → (b ≡ true) × (n ≡ m)
some_is true n m e = (refl, let same : Some n ≡ Some m = e in cc)
some_is false n m e = absurd (let none : None ≡ Some m = e in cc)

pub no_point : (w : List ℕ) (whole : ℕ) → list_any is_point w ≡ false → (if is_numeral 10 (whole_part w) then Some (capped (digits_value 10 (whole_part w))) else None) ≡ Some whole
    → ◌≡◌ {A = Option Decimal} (Some (record { whole = whole; behind = 0; places = 0 })) (decimal_of w)
no_point w whole h e =
    let k = some_is (is_numeral 10 (whole_part w)) (capped (digits_value 10 (whole_part w))) whole e in
    let k0 = k.0 in
    let k1 = k.1 in
    let none = after_none is_point w h in
    rw (k0, h, none, k1) refl

-- the digits before the point and those behind it

zero_places : (n p : ℕ) → p ≡ 1 → n ≡ n * p + 0
zero_places n p e = rw e (omega arith)

one_place : (n base d power next v x : ℕ) → next ≡ power * base → v ≡ (0 * base + d) * power + x → (n * base + d) * power + x ≡ n * next + v
one_place n base d power next v x e k = rw (e, k) (omega arith)

after_is : (base n : ℕ) (ds : List ℕ) → digits_value_after base n ds ≡ n * base ^ length ds + digits_value base ds
after_is base n [] = zero_places n (base ^ 0) (pow-zero base)
after_is base n (d ∷ ds) =
    after_is base (n * base + digit_value d) ds
    ∙ one_place n base (digit_value d) (base ^ length ds) (base ^ suc (length ds)) (digits_value base (d ∷ ds)) (digits_value base ds)
    (pow-suc base (length ds)) (after_is base (0 * base + digit_value d) ds)

after_append : (base n : ℕ) (xs ys : List ℕ) → digits_value_after base n (xs ++ ys) ≡ digits_value_after base (digits_value_after base n xs) ys
after_append base n [] ys = refl
after_append base n (x ∷ xs) ys = after_append base (n * base + digit_value x) xs ys

joined : (base : ℕ) (xs ys : List ℕ) → digits_value base (xs ++ ys) ≡ digits_value base xs * base ^ length ys + digits_value base ys
joined base xs ys = after_append base 0 xs ys ∙ after_is base (digits_value base xs) ys

pub pow_some : (n : ℕ) → 0 < 10 ^ n
pow_some n = one-le-pow n 10 (lit< tt)

-- whole units, and the part of one, rounded down
pub whole_units : (word : List ℕ) (f : ℕ) → times_factor word f ≡ digits_value 10 (whole_part word) * f + digits_value 10 (decimals word) * f / 10 ^ length (decimals word)
whole_units word f =
    let a = digits_value 10 (whole_part word) in
    let b = digits_value 10 (decimals word) in
    let q = 10 ^ length (decimals word) in
    let e : digits_value 10 (whole_part word ++ decimals word) * f ≡ b * f + (a * f) * q = rw (joined 10 (whole_part word) (decimals word)) (omega arith) in
    ap (λ n. n / q) e ∙ add-mul-div_right (b * f) (a * f) (pow_some (length (decimals word))) ∙ omega arith

-- decimal places are few, so they are read as they are
places_fit : (word : List ℕ) → is_numeral 10 (decimals word) ≡ true → length (decimals word) ≤ 9 → capped (digits_value 10 (decimals word)) ≡ digits_value 10 (decimals word)
places_fit word n few =
    let below : digits_value 10 (decimals word) < 10 ^ length (decimals word) = digits_value-lt 10 (decimals word) (all_digits 10 (decimals word) (right_of (nat_lt 0 (length (decimals word))) _ n)) in
    let most : 10 ^ length (decimals word) ≤ 10 ^ 9 = pow-le-pow_right (lit< tt) few in
    omega arith

-- the decimal that a word is read as

pub record IsRead (word : List ℕ) (d : Decimal) : Type 0 where
  pub form : is_decimal word ≡ true
  pub whole : d.whole ≡ capped (digits_value 10 (whole_part word))
  pub behind : d.behind ≡ digits_value 10 (decimals word)
  pub places : d.places ≡ length (decimals word)
  pub few : d.places ≤ 9

record Places (word : List ℕ) : Type 0 where
  same : capped (digits_value 10 (decimals word)) ≡ digits_value 10 (decimals word)
  few : length (decimals word) ≤ 9

places_of : (word : List ℕ) → is_decimal word ≡ true → Places word
places_of word e = by_test (list_any is_point word) refl
  where
    by_test : (b : Bool) → list_any is_point word ≡ b → Places word
    by_test true t =
        let both : (is_numeral 10 (decimals word) && nat_le (length (decimals word)) 9) ≡ true =
        ap (λ b. not b || is_numeral 10 (decimals word) && nat_le (length (decimals word)) 9) (sym t)
        ∙ right_of (is_numeral 10 (whole_part word)) _ e in
        let n = left_of (is_numeral 10 (decimals word)) _ both in
        let few : length (decimals word) ≤ 9 = leb-true _ _ (right_of (is_numeral 10 (decimals word)) _ both) in
        record { same = places_fit word n few; few = few }
    by_test false t = let none : decimals word ≡ [] = after_none is_point word t in record { same = rw none refl; few = rw none (omega arith) }

pub read : (word : List ℕ) (d : Decimal) → Some d ≡ decimal_of word → IsRead word d
read word d e = by_test (is_decimal word) refl
  where
    whole : Decimal
    whole = record { whole = capped (digits_value 10 (whole_part word)); behind = capped (digits_value 10 (decimals word)); places = length (decimals word) }

    by_test : (b : Bool) → is_decimal word ≡ b → IsRead word d
    by_test true t =
        let is : Some d ≡ Some whole = e ∙ ap (λ b. if b then Some whole else None) t in
        let same : d ≡ whole = cc in
        let p = places_of word t in
        record {
          form = t;
          whole = ap (λ (x : Decimal). x.whole) same;
          behind = ap (λ (x : Decimal). x.behind) same ∙ p.same;
          places = ap (λ (x : Decimal). x.places) same;
          few = rw same p.few;
        }
    by_test false t = absurd (let none : Some d ≡ None = e ∙ ap (λ b. if b then Some whole else None) t in cc)

-- past the greatest number of 64 bits the value is past the range, with the cap as without it

past_range : (low high n : ℕ) → high < n → in_range low high n ≡ Err OutOfRange
past_range low high n h =
    ap (λ (b : Bool). if nat_le low n && b then Ok n else Err OutOfRange) (lt-leb n high h) ∙ ap (λ (b : Bool). if b then Ok n else Err OutOfRange) (and_false (nat_le low n))

times_past : (w f r : ℕ) → 1 ≤ f → w ≤ w * f + r
times_past w f r some = let one : 1 ≤ f = some in let a : w * 1 ≤ w * f = mul-le-mul_left w one in omega arith

pub capped_in_range : (low high w f r : ℕ) → high < 2 ^ 64 - 1 → 1 ≤ f → in_range low high (w * f + r) ≡ in_range low high (capped w * f + r)
capped_in_range low high w f r small some = elim (cases_lt (2 ^ 64 - 1) w) [
  | inl past ↦
      let c : capped w ≡ 2 ^ 64 - 1 = omega arith in
      let a = times_past w f r some in
      let b = times_past (capped w) f r some in
      past_range low high (w * f + r) (omega arith) ∙ sym (past_range low high (capped w * f + r) (omega arith))
  | inr within ↦ let c : capped w ≡ w = omega arith in ap (λ n. in_range low high (n * f + r)) (sym c)
]

pub value_is : (word : List ℕ) (d : Decimal) (f low high : ℕ) → IsRead word d → high < 2 ^ 64 - 1 → IsFactor f → in_range low high (times_factor word f) ≡ in_range low high (times d f)
value_is word d f low high r small factor =
    let w = r.whole in
    let b = r.behind in
    let p = r.places in
    ap (in_range low high) (whole_units word f)
    ∙ capped_in_range low high (digits_value 10 (whole_part word)) f (digits_value 10 (decimals word) * f / 10 ^ length (decimals word)) small factor.some
    ∙ rw (w, b, p) refl

-- the value of a word, where its unit is known
pub answer_is : (word : List ℕ) (d : Decimal) (f low high : ℕ) (factor : Option ℕ) → Some d ≡ decimal_of word → factor ≡ Some f → high < 2 ^ 64 - 1 → IsFactor f
    → (if is_decimal word then option_map_or (λ f. in_range low high (times_factor word f)) factor (Err BadNumber) else Err BadNumber) ≡ in_range low high (times d f)
answer_is word d f low high factor e k small is_factor =
    let r = read word d e in
    let form = r.form in
    rw (form, k) (value_is word d f low high r small is_factor)

-- where the number of a word ends

same_prefix : (p : ℕ → Bool) (xs : List ℕ) → position_or_len (λ b. not (p b)) xs ≡ prefix_len p xs
same_prefix p [] = refl
same_prefix p (x ∷ xs) = by_test (same_prefix p xs) (p x) refl
  where
    by_test : position_or_len (λ b. not (p b)) xs ≡ prefix_len p xs → (b : Bool) → p x ≡ b → position_or_len (λ b. not (p b)) (x ∷ xs) ≡ prefix_len p (x ∷ xs)
    by_test more true t = rw t (ap (λ n. 1 + n) more)
    by_test more false t = rw t refl

pub number_end : (word : List ℕ) (found : Option ℕ) → found ≡ position (λ b. not (is_of_decimal b)) word → unwrap_or found (length word) ≡ length (number_part word)
number_end word found e = first_or_length (λ b. not (is_of_decimal b)) word found e ∙ same_prefix is_of_decimal word ∙ sym (length-prefix_len is_of_decimal word)

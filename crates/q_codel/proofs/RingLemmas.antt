-- What a ring holds after a packet comes, after one goes, and after it has doubled.
use Rattle.std.proofs.Common.{◌≡◌, ◌≢◌, ℕ, zero, suc, ◌+◌, ◌-◌, ◌*◌, ◌/◌, ◌%◌, ◌^◌, ◌<◌, ◌≤◌, ◌⊎◌, List, [], ◌∷◌, ◌++◌, length, get_or, set, drop, take, replicate, Bool, true, false, arith, refl, sym, ap, ap₂, ◌∙◌, subst, inl, inr, mod-eq_of_lt, length-set, length-append, take_all}
use Rattle.std.specs.Prelude.{if◌then◌else◌}
use native.Mathlib.Nat.{mod-eq-sub-mod, mod-add-mod, mul-add, add-mul}
use Rattle.std.proofs.Math.Pow.{mod-mod-pow}
use Rattle.std.proofs.Math.Nat.{div-add-mod, mul-add-mod_self_left, two-pow-succ, pow-le-pow_right}
use Rattle.std.proofs.lemmas.Bool.{cases_lt}
use Rattle.std.proofs.lemmas.Nat.{mod_below}
use Rattle.std.proofs.lemmas.List.{get_or_append_left, get_or-append_right, get_or-set_same, get_or-set_other, length-take, length-replicate}
use Rattle.q_packet.specs.declared.stamped.Stamped.{Stamped}
use Rattle.q_codel.specs.Ring.{RingState, blank, standing, between, IsPower, IsRing}

-- numbers that have gone round stand in the same cells
mod_round : (n x : ℕ) → IsPower n → x % 2 ^ 64 % n ≡ x % n
mod_round n x p =
    let width : (64 - p.exponent) + p.exponent ≡ 64 = omega (arith, p.small) in
    let here : x % 2 ^ 64 % 2 ^ p.exponent ≡ x % 2 ^ p.exponent = subst (λ (w : ℕ). x % 2 ^ w % 2 ^ p.exponent ≡ x % 2 ^ p.exponent) width (mod-mod-pow x (64 - p.exponent) p.exponent) in
    subst (λ (m : ℕ). x % 2 ^ 64 % m ≡ x % m) (sym p.is) here

mod_next : (a b n : ℕ) → a % n ≡ b % n → (a + 1) % n ≡ (b + 1) % n
mod_next a b n e = sym (mod-add-mod a n 1) ∙ ap (λ (x : ℕ). (x + 1) % n) e ∙ mod-add-mod b n 1

-- the remainder of a sum wraps once at most
wraps_once : (n r d : ℕ) → r < n → d < n → ((r + d < n) × ((r + d) % n ≡ r + d)) ⊎ ((n ≤ r + d) × ((r + d) % n ≡ r + d - n))
wraps_once n r d low short = elim (cases_lt (r + d) n) [
  | inl below ↦ inl (below, mod-eq_of_lt below)
  | inr above ↦ inr (above, mod-eq-sub-mod above ∙ mod-eq_of_lt (omega arith))
]

-- numbers that are less than a round apart stand in cells of their own
apart : (n a j m : ℕ) → j < m → m < n → (a + j) % n ≢ (a + m) % n
apart n a j m less within same =
    let r : ℕ = (a + j) % n in
    let low : r < n = mod_below (a + j) n (omega arith) in
    let sum : (a + j) + (m - j) ≡ a + m = omega arith in
    let there : (r + (m - j)) % n ≡ (a + m) % n = mod-add-mod (a + j) n (m - j) ∙ ap (λ (x : ℕ). x % n) sum in
    let once = wraps_once n r (m - j) low (omega arith) in
    elim once [
      | inl on ↦ absurd (let e : r ≡ r + (m - j) = same ∙ sym there ∙ on.1 in omega arith)
      | inr round ↦ absurd (let e : r ≡ r + (m - j) - n = same ∙ sym there ∙ round.1 in omega (arith, round.0))
    ]

pub length-standing : (cells : List Stamped) (number n : ℕ) → length (standing cells number n) ≡ n
length-standing cells number zero = refl
length-standing cells number (suc n) = omega (arith, length-standing cells (number + 1) n)

-- from a number that stands in the same cell
same_cells : (cells : List Stamped) (a b n : ℕ) → a % length cells ≡ b % length cells → standing cells a n ≡ standing cells b n
same_cells cells a b zero e = refl
same_cells cells a b (suc n) e =
    ap₂ (λ (s : Stamped) (l : List Stamped). s ∷ l) (ap (λ (i : ℕ). get_or cells i blank) e) (same_cells cells (a + 1) (b + 1) n (mod_next a b (length cells) e))

-- one packet more is the one that stands behind them
standing_more : (cells : List Stamped) (a n : ℕ) → standing cells a (suc n) ≡ standing cells a n ++ get_or cells ((a + n) % length cells) blank ∷ []
standing_more cells a zero =
    let here : a ≡ a + 0 = omega arith in
    ap (λ (k : ℕ). get_or cells (k % length cells) blank ∷ []) here
standing_more cells a (suc n) =
    let sum : (a + 1) + n ≡ a + suc n = omega arith in
    ap (λ (l : List Stamped). get_or cells (a % length cells) blank ∷ l)
    (standing_more cells (a + 1) n ∙ ap (λ (k : ℕ). standing cells (a + 1) n ++ get_or cells (k % length cells) blank ∷ []) sum)

-- a write to another cell
standing_set : (cells : List Stamped) (i : ℕ) (x : Stamped) (a n : ℕ) → ((j : ℕ) → j < n → (a + j) % length cells ≢ i) → standing (set cells i x) a n ≡ standing cells a n
standing_set cells i x a zero other = refl
standing_set cells i x a (suc n) other =
    let first : a + 0 ≡ a = omega arith in
    let here : a % length cells ≢ i = λ e. other 0 (omega arith) (ap (λ (k : ℕ). k % length cells) first ∙ e) in
    let sum = λ (j : ℕ). let e : (a + 1) + j ≡ a + (j + 1) = omega arith in e in
    ap₂ (λ (s : Stamped) (l : List Stamped). s ∷ l)
    (ap (λ (k : ℕ). get_or (set cells i x) (a % k) blank) (length-set cells i x) ∙ get_or-set_other cells i (a % length cells) x blank here)
    (standing_set cells i x (a + 1) n (λ j below e. other (j + 1) (omega arith) (ap (λ (k : ℕ). k % length cells) (sym (sum j)) ∙ e)))

-- a packet is written behind the last
standing_put : (cells : List Stamped) (x : Stamped) (a n : ℕ) → n < length cells → standing (set cells ((a + n) % length cells) x) a (suc n) ≡ standing cells a n ++ x ∷ []
standing_put cells x a n room =
    let i : ℕ = (a + n) % length cells in
    let within : i < length cells = mod_below (a + n) (length cells) (omega arith) in
    standing_more (set cells i x) a n
    ∙ ap₂ (λ (l : List Stamped) (s : Stamped). l ++ s ∷ [])
    (standing_set cells i x a n (λ j below. apart (length cells) a j n below room))
    (ap (λ (k : ℕ). get_or (set cells i x) ((a + n) % k) blank) (length-set cells i x) ∙ get_or-set_same cells i x blank within)

-- each packet stands in its cell of a ring that is doubled
cell_doubled : (cells : List Stamped) (a : ℕ) → 0 < length cells → get_or (cells ++ cells) (a % length (cells ++ cells)) blank ≡ get_or cells (a % length cells) blank
cell_doubled cells a some =
    let n : ℕ = length cells in
    let twice : length (cells ++ cells) ≡ n + n = length-append cells cells in
    let r : ℕ = a % (n + n) in
    let low : r < n + n = mod_below a (n + n) (omega arith) in
    let q : ℕ = a / (n + n) in
    let whole : n * (q + q) + r ≡ a = omega (arith, div-add-mod a (n + n), add-mul n n q, mul-add n q q) in
    let same : r % n ≡ a % n = sym (mul-add-mod_self_left n (q + q) r) ∙ ap (λ (x : ℕ). x % n) whole in
    ap (λ (k : ℕ). get_or (cells ++ cells) (a % k) blank) twice ∙ elim (cases_lt r n) [
      | inl first ↦ get_or_append_left cells cells blank r first ∙ ap (λ (k : ℕ). get_or cells k blank) (sym (mod-eq_of_lt first) ∙ same)
      | inr second ↦ get_or-append_right cells cells n r blank refl second ∙ ap (λ (k : ℕ). get_or cells k blank) (sym (mod-eq-sub-mod second ∙ mod-eq_of_lt (omega arith)) ∙ same)
    ]

pub standing_doubled : (cells : List Stamped) (a n : ℕ) → 0 < length cells → standing (cells ++ cells) a n ≡ standing cells a n
standing_doubled cells a zero some = refl
standing_doubled cells a (suc n) some =
    ap₂ (λ (s : Stamped) (l : List Stamped). s ∷ l) (cell_doubled cells a some) (standing_doubled cells (a + 1) n some)

-- how many there are, as the counters go on
between_more : (first next : ℕ) → first < 2 ^ 64 → next < 2 ^ 64 → between first next < 2 ^ 63 → between first ((next + 1) % 2 ^ 64) ≡ suc (between first next)
between_more first next f n few = omega arith

between_less : (first next : ℕ) → first < 2 ^ 64 → next < 2 ^ 64 → 0 < between first next → suc (between ((first + 1) % 2 ^ 64) next) ≡ between first next
between_less first next f n some = omega arith

between_is : (first next : ℕ) → first < 2 ^ 64 → next < 2 ^ 64 → (first + between first next) % 2 ^ 64 ≡ next
between_is first next f n = omega arith

pub power : (cells : List Stamped) (first next : ℕ) → IsRing cells first next → 0 < length cells → IsPower (length cells)
power cells first next ring some = elim ring.sized [ inl none ↦ absurd (omega arith) | inr is ↦ is ]

-- the cells are not too many
pub ring_few : (cells : List Stamped) (first next : ℕ) → IsRing cells first next → length cells ≤ 2 ^ 47
ring_few cells first next ring = elim ring.sized [
  | inl none ↦ omega arith
  | inr p ↦ let few : 2 ^ p.exponent ≤ 2 ^ 47 = pow-le-pow_right (omega arith) p.small in omega (arith, p.is)
]

module _ (cells : List Stamped) (first next : ℕ) (ring : IsRing cells first next) (f : first < 2 ^ 64) (n : next < 2 ^ 64) where
  -- after a packet came
  module _ (x : Stamped) (cell : ℕ) (room : between first next < length cells) (long : length cells < 2 ^ 63) (at : cell ≡ next % length cells) where
    more : between first ((next + 1) % 2 ^ 64) ≡ suc (between first next)
    more = between_more first next f n (omega arith)

    pub put_ring : IsRing (set cells cell x) first ((next + 1) % 2 ^ 64)
    put_ring = record {
      sized = inr (subst (λ (k : ℕ). IsPower k) (sym (length-set cells cell x)) (power cells first next ring (omega arith)));
      fits = omega (arith, more, length-set cells cell x);
    }

    pub put_packets : standing (set cells cell x) first (between first ((next + 1) % 2 ^ 64)) ≡ standing cells first (between first next) ++ x ∷ []
    put_packets =
        let there : cell ≡ (first + between first next) % length cells =
        at ∙ ap (λ (k : ℕ). k % length cells) (sym (between_is first next f n)) ∙ mod_round (length cells) (first + between first next) (power cells first next ring (omega arith)) in
        ap₂ (λ (k m : ℕ). standing (set cells k x) first m) there more ∙ standing_put cells x first (between first next) room

  -- after the packet in front went
  pub gone_packets : 0 < between first next → standing cells ((first + 1) % 2 ^ 64) (between ((first + 1) % 2 ^ 64) next) ≡ drop 1 (standing cells first (between first next))
  gone_packets some =
      let less = between_less first next f n some in
      same_cells cells ((first + 1) % 2 ^ 64) (first + 1) (between ((first + 1) % 2 ^ 64) next) (mod_round (length cells) (first + 1) (power cells first next ring (let h = ring.fits in omega arith)))
      ∙ ap (λ (k : ℕ). drop 1 (standing cells first k)) less

-- a place is free
pub has_room : (cells : List Stamped) (first next : ℕ) (state : RingState) → ◌≡◌ {A = RingState} (record { packets = standing cells first (between first next); places = length cells }) state
    → length state.packets < state.places → between first next < length cells
has_room cells first next state is room =
    omega (arith, length-standing cells first (between first next), ap (λ (s : RingState). length s.packets) is, ap (λ (s : RingState). s.places) is, room)

-- a ring that had no places gets four of them, or none
pub first_places : (cells : List Stamped) (first next : ℕ) → IsRing cells first next → length cells ≡ 0 → (new : List Stamped) (done : Bool) (n : ℕ) (x : Stamped) → n ≡ 0
    → new ≡ (if done then take 4 cells ++ replicate (4 - n) x else cells) → IsRing new first next × (standing new first (between first next) ≡ standing cells first (between first next))
first_places cells first next ring none new done n x zero_is is =
    let empty : between first next ≡ 0 = let h = ring.fits in omega arith in (
      record { sized = by_done done is; fits = omega arith },
      ap (λ (k : ℕ). standing new first k) empty ∙ sym (ap (λ (k : ℕ). standing cells first k) empty),
    ) where
      by_done : (b : Bool) → new ≡ (if b then take 4 cells ++ replicate (4 - n) x else cells) → (length new ≡ 0) ⊎ IsPower (length new)
      by_done true e =
          inr (record {
            exponent = 2;
            small = omega arith;
            is = omega
                (arith, ap length e, length-append (take 4 cells) (replicate (4 - n) x), length-take 4 cells, length-replicate (4 - n) x);
          })
      by_done false e = inl (ap length e ∙ none)

power_twice : (n : ℕ) → IsPower n → n < 2 ^ 47 → IsPower (n + n)
power_twice n p few = record {
  exponent = suc p.exponent;
  small = elim (cases_lt p.exponent 47) [
    | inl below ↦ omega arith
    | inr above ↦
        let most : p.exponent ≡ 47 = omega (arith, p.small) in
        absurd (let full : n ≡ 2 ^ 47 = p.is ∙ ap (λ (k : ℕ). 2 ^ k) most in omega arith)
  ];
  is = ap₂ (λ (a b : ℕ). a + b) p.is p.is ∙ sym (two-pow-succ p.exponent);
}

-- a ring that has places gets twice as many, or no more
pub doubled : (cells : List Stamped) (first next : ℕ) → IsRing cells first next → 0 < length cells → length cells < 2 ^ 47 → (new : List Stamped) (done : Bool) (n : ℕ) → n ≡ length cells
    → new ≡ (if done then cells ++ take (n - 0) (drop 0 cells) else cells) → IsRing new first next × (standing new first (between first next) ≡ standing cells first (between first next))
doubled cells first next ring some few new true n long is =
    let whole : new ≡ cells ++ cells = is ∙ ap (λ (l : List Stamped). cells ++ l) (take_all (n - 0) cells (omega arith)) in
    let twice : length new ≡ length cells + length cells = ap length whole ∙ length-append cells cells in (
      record {
        sized = inr (subst (λ (k : ℕ). IsPower k) (sym twice) (power_twice (length cells) (power cells first next ring some) few));
        fits = let h = ring.fits in omega arith;
      },
      ap (λ (l : List Stamped). standing l first (between first next)) whole ∙ standing_doubled cells first (between first next) some,
    )
doubled cells first next ring some few new false n long is =
    (subst (λ (l : List Stamped). IsRing l first next) (sym is) ring, ap (λ (l : List Stamped). standing l first (between first next)) is)

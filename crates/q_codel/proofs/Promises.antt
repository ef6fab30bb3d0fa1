-- The laws of CoDel, from its definition.
use Rattle.std.proofs.Common.{◌≡◌, ℕ, zero, suc, ◌-◌, ◌<◌, Bool, true, false, not, ◌&&◌, ◌||◌, nat_lt, nat_le, List, [], ◌∷◌, length, drop, arith, refl, sym, ap, ◌∙◌, subst, inl, inr, ◌⊎◌}
use Rattle.std.specs.Prelude.{if◌then◌else◌}
use Rattle.std.proofs.lemmas.Bool.{cases_Bool, cases_lt, ltb-false, leb-true, le-ltb, and_parts, and_left, and_right, or_parts, not-false, not_from_true, cond-true, cond-false}
use Rattle.q_packet.specs.declared.stamped.Stamped.{Stamped}
use Rattle.q_codel.specs.Codel.{CodelState, is_late, is_capable, is_markable, moment, stops, drops, marks}
use Rattle.q_codel.specs.Laws.{LastPacketStays, MarksInPlaceOfDrops, OnlyLateHeads, AtTheirMoments}
use Rattle.q_codel.proofs.Law.{stops_markable}
use Rattle.q_packet.proofs.LeastLemmas.{least_here, least_gt}

-- a head goes by the three reasons to stop, and a head is marked by the three tests of a mark
none_of : (a b c : Bool) → (a || b || c) ≡ false → (a ≡ false) × (b ≡ false) × (c ≡ false)
none_of a b c e = let front = or_parts (a || b) c e in let parts = or_parts a b front.0 in (parts.0, parts.1, front.1)

all_of : (a b c : Bool) → (a && b && c) ≡ true → (a ≡ true) × (b ≡ true) × (c ≡ true)
all_of a b c e = let front = and_parts (a && b) c e in let parts = and_parts a b front.0 in (parts.0, parts.1, front.1)

-- while dropping, a head goes only where nothing stops it
goes : (s : CodelState) (now : ℕ) (queue : List Stamped) (i : ℕ) → s.dropping ≡ true → i < drops s now queue → stops s now queue i ≡ false
goes s now queue i dropping below =
    least_gt (stops s now queue) (length queue) i (subst (λ (n : ℕ). i < n) (cond-true s.dropping _ _ dropping) below)

goes_late : (s : CodelState) (now : ℕ) (queue : List Stamped) (i : ℕ) → s.dropping ≡ true → i < drops s now queue → is_late s now (drop i queue) ≡ true
goes_late s now queue i dropping below =
    not-false (is_late s now (drop i queue)) (none_of (not (is_late s now (drop i queue))) (nat_lt now (moment s i)) (is_markable s (drop i queue)) (goes s now queue i dropping below)).0

-- while not dropping, at most the first head goes, and only where it is late
goes_first : (s : CodelState) (now : ℕ) (queue : List Stamped) → s.dropping ≡ false → (drops s now queue ≡ 0) ⊎ ((drops s now queue ≡ 1) × (is_late s now queue ≡ true))
goes_first s now queue resting = elim (cases_Bool (is_late s now queue && not (is_markable s queue))) [
  | inl holds ↦ inr (cond-false s.dropping _ _ resting ∙ cond-true _ _ _ holds, (and_parts (is_late s now queue) (not (is_markable s queue)) holds).0)
  | inr fails ↦ inl (cond-false s.dropping _ _ resting ∙ cond-false _ _ _ fails)
]

dropped_late : (s : CodelState) (now : ℕ) (queue : List Stamped) (i : ℕ) → i < drops s now queue → is_late s now (drop i queue) ≡ true
dropped_late s now queue i below = elim (cases_Bool s.dropping) [
  | inl dropping ↦ goes_late s now queue i dropping below
  | inr resting ↦ elim (goes_first s now queue resting) [
    | inl none ↦ absurd (omega arith)
    | inr one ↦ let first : 0 ≡ i = let e = one.0 in omega arith in subst (λ (n : ℕ). is_late s now (drop n queue) ≡ true) first one.1
  ]
]

marked_late : (s : CodelState) (now : ℕ) (queue : List Stamped) → marks s now queue ≡ true → is_late s now (drop (drops s now queue) queue) ≡ true
marked_late s now queue marked = elim (cases_Bool s.dropping) [
  | inl dropping ↦
      let j = drops s now queue in
      (all_of (is_late s now (drop j queue)) (nat_le (moment s j) now) (is_markable s (drop j queue)) (sym (cond-true s.dropping _ _ dropping) ∙ marked)).0
  | inr resting ↦
      let is = and_parts (is_late s now queue) (is_markable s queue) (sym (cond-false s.dropping _ _ resting) ∙ marked) in
      let stays : drops s now queue ≡ 0 =
      cond-false s.dropping _ _ resting ∙ cond-false _ _ _
      (and_right (is_late s now queue) (not (is_markable s queue)) (not_from_true (is_markable s queue) is.1)) in
      subst (λ (n : ℕ). is_late s now (drop n queue) ≡ true) (sym stays) is.0
]

pub only_late_heads_holds : OnlyLateHeads
only_late_heads_holds s now queue = record { dropped = dropped_late s now queue; marked = marked_late s now queue }

pub at_their_moments_holds : AtTheirMoments
at_their_moments_holds s now queue dropping = record {
  dropped = λ i below. ltb-false now (moment s i) (none_of (not (is_late s now (drop i queue))) (nat_lt now (moment s i)) (is_markable s (drop i queue)) (goes s now queue i dropping below)).1;
  marked = λ marked.
      let j = drops s now queue in
      leb-true (moment s j) now (all_of (is_late s now (drop j queue)) (nat_le (moment s j) now) (is_markable s (drop j queue)) (sym (cond-true s.dropping _ _ dropping) ∙ marked)).1;
  first = refl;
  next = λ i. refl;
}

-- a packet with nothing behind it is not late
alone : (s : CodelState) (now : ℕ) (packet : Stamped) → is_late s now (packet ∷ []) ≡ false
alone s now packet =
    and_left _ (nat_le s.first_above_time now) (and_left _ (nat_lt 0 s.first_above_time) (and_right (nat_le s.target (now - packet.at)) (nat_lt s.mtu 0) (le-ltb s.mtu 0 (omega arith))))

last_is_not_late : (s : CodelState) (now : ℕ) (queue : List Stamped) (i : ℕ) → length queue ≡ suc i → is_late s now (drop i queue) ≡ false
last_is_not_late s now [] i e = absurd (omega arith)
last_is_not_late s now (packet ∷ []) zero e = alone s now packet
last_is_not_late s now (packet ∷ next ∷ queue) zero e = absurd (omega arith)
last_is_not_late s now (packet ∷ queue) (suc i) e = last_is_not_late s now queue i (omega arith)

pub last_packet_stays_holds : LastPacketStays
last_packet_stays_holds s now queue some = elim (cases_lt (drops s now queue) (length queue)) [
  | inl below ↦ below
  | inr above ↦
      let last : length queue ≡ suc (length queue - 1) = omega arith in
      let early = last_is_not_late s now queue (length queue - 1) last in
      let late = dropped_late s now queue (length queue - 1) (omega arith) in
      absurd (let never : false ≡ true = sym early ∙ late in cc)
]

-- where the head is markable nothing is dropped
stays : (s : CodelState) (now : ℕ) (queue : List Stamped) → is_markable s queue ≡ true → drops s now queue ≡ 0
stays s now queue markable = elim (cases_Bool s.dropping) [
  | inl dropping ↦ cond-true s.dropping _ _ dropping ∙ least_here (stops s now queue) (length queue) (stops_markable s now queue 0 markable)
  | inr resting ↦ cond-false s.dropping _ _ resting ∙ cond-false _ _ _ (and_right (is_late s now queue) (not (is_markable s queue)) (not_from_true (is_markable s queue) markable))
]

pub marks_in_place_of_drops_holds : MarksInPlaceOfDrops
marks_in_place_of_drops_holds s now [] ecn capable = none s.dropping where
  none : (b : Bool) → ◌≡◌ {A = ℕ} (if b then 0 else (if false then 1 else 0)) 0
  none true = refl
  none false = refl
marks_in_place_of_drops_holds s now (head ∷ rest) ecn capable =
    stays s now (head ∷ rest) (ap (λ (b : Bool). b && is_capable head.packet.ecn) ecn ∙ capable 0 head (omega arith))

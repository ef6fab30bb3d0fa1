-- How the heads go one by one, against the definition of how many go at once.
use Rattle.std.proofs.Common.{◌≡◌, ℕ, suc, ◌+◌, ◌-◌, ◌^◌, ◌<◌, ◌≤◌, min, Bool, true, false, not, ◌&&◌, ◌||◌, nat_lt, nat_le, Some, List, [], ◌∷◌, length, drop, arith, refl, sym, ap, ◌∙◌, subst, below_more, take, drop-cons, length-drop}
use Rattle.std.specs.Prelude.{slice_get, ◌==◌}
use Rattle.std.proofs.lemmas.Bool.{lt-ltb, le-ltb, le-leb, lt-leb, ltb-true, ne_eqb, and_parts, or_left, or_right, or_from, not_from_true, not_from_false, cond-true, cond-false}
use Rattle.std.proofs.lemmas.Option.{slice_get-get_or}
use Rattle.q_packet.specs.declared.stamped.Stamped.{Stamped}
use Rattle.q_packet.specs.declared.cause.Cause.{Cause}
use Rattle.q_codel.specs.Losses.{AreLost, SinkState}
use Rattle.q_codel.specs.Gap.{gap_of}
use Rattle.q_codel.specs.Codel.{CodelState, CodelParams, CodelVars, joined, count_after, is_standing, is_late, is_capable, is_markable, moment, stops, drops, marks, gone_on, control_after, above_after, Chooses}
use Rattle.q_packet.proofs.LeastLemmas.{least_is}
use Rattle.q_codel.proofs.SinkLemmas.{lost_next}

-- where a place is, what stands at it, and what behind it
pub drop_within : (queue : List Stamped) (j : ℕ) (head : Stamped) (rest : List Stamped) → drop j queue ≡ head ∷ rest → j < length queue
drop_within queue j head rest e = omega (arith, length-drop j queue, ap length e)

pub drop_behind : (queue : List Stamped) (j : ℕ) (head : Stamped) (rest : List Stamped) → drop j queue ≡ head ∷ rest → rest ≡ drop (suc j) queue
drop_behind queue j head rest e = let parts = drop-cons queue j head (drop_within queue j head rest e) in cc

pub drop_at : (queue : List Stamped) (j : ℕ) (head : Stamped) (rest : List Stamped) → drop j queue ≡ head ∷ rest → Some head ≡ slice_get queue j
drop_at queue j head rest e =
    let within = drop_within queue j head rest e in
    let parts = drop-cons queue j head within in
    let there = slice_get-get_or queue j head within in
    cc

pub below_suc : (P : ℕ → Type 0) (n : ℕ) → ((i : ℕ) → i < n → P i) → P n → (i : ℕ) → i < suc n → P i
below_suc P n below here i h = below_more P n below here i (let e : i < n + 1 = omega arith in e)

-- j heads have gone while dropping, and the next one is late: the state is as if its moment had not come
pub record OnTheWay (s : CodelState) (now : ℕ) (all : List Stamped) (j : ℕ) (t : CodelState) (head : Stamped) (rest : List Stamped) : Type 0 where
  pub place : drop j all ≡ head ∷ rest
  pub late : is_late s now (head ∷ rest) ≡ true
  pub state : t ≡ record s { count = count_after s j; drop_next = moment s j }
  pub passed : (i : ℕ) → i < j → stops s now all i ≡ false

pub OnTheWay_start : (s : CodelState) (now : ℕ) (first : Stamped) (rest : List Stamped) → s.count < 2 ^ 32 → is_late s now (first ∷ rest) ≡ true → OnTheWay s now (first ∷ rest) 0 s first rest
OnTheWay_start s now first rest range late = record {
  place = refl;
  late = late;
  state = let e : s.count ≡ count_after s 0 = omega arith in ap (λ (n : ℕ). record s { count = n }) e;
  passed = λ i below. absurd (omega arith);
}

-- where a head is late, due and not markable, it goes
pub stops_not : (s : CodelState) (now : ℕ) (all : List Stamped) (j : ℕ) (head : Stamped) (rest : List Stamped) → drop j all ≡ head ∷ rest
    → is_late s now (head ∷ rest) ≡ true → moment s j ≤ now → (s.ecn && is_capable head.packet.ecn) ≡ false → stops s now all j ≡ false
stops_not s now all j head rest place late due plain =
    ap (λ (q : List Stamped). not (is_late s now q) || nat_lt now (moment s j) || is_markable s q) place
    ∙ or_from (not (is_late s now (head ∷ rest)) || nat_lt now (moment s j)) (is_markable s (head ∷ rest))
    (or_from (not (is_late s now (head ∷ rest))) (nat_lt now (moment s j)) (not_from_true (is_late s now (head ∷ rest)) late) (le-ltb now (moment s j) due))
    plain

-- where a head is sent for whatever reason, it stops there
pub drops_is : (s : CodelState) (now : ℕ) (all : List Stamped) (j : ℕ) → s.dropping ≡ true → j < length all
    → ((i : ℕ) → i < j → stops s now all i ≡ false) → stops s now all j ≡ true → drops s now all ≡ j
drops_is s now all j dropping within passed stop =
    cond-true s.dropping _ _ dropping ∙ least_is (stops s now all) (length all) j (omega arith) (λ _. stop) passed

-- whether head j is marked, where it is the one that is sent
abbrev pub marks_at : CodelState → ℕ → List Stamped → ℕ → Bool
marks_at s now queue j = is_late s now queue && nat_le (moment s j) now && is_markable s queue

pub marks_is : (s : CodelState) (now : ℕ) (all : List Stamped) (j : ℕ) (head : Stamped) (rest : List Stamped) → s.dropping ≡ true
    → drops s now all ≡ j → drop j all ≡ head ∷ rest → marks s now all ≡ marks_at s now (head ∷ rest) j
marks_is s now all j head rest dropping count place =
    cond-true s.dropping _ _ dropping
    ∙ ap (λ (k : ℕ). marks_at s now (drop k all) k) count
    ∙ ap (λ (q : List Stamped). marks_at s now q j) place

-- what is known where the heads have ceased to go
pub record Ends (s : CodelState) (now : ℕ) (all : List Stamped) (j : ℕ) (head : Stamped) (marked : Bool) (rest : List Stamped) (t : CodelState) : Type 0 where
  pub chosen : Chooses s now all head marked rest t
  pub count : drops s now all ≡ j

-- where k heads go, the next one is sent, and the control law leaves t
pub Ends_of : (s : CodelState) (now : ℕ) (all : List Stamped) (k : ℕ) (head : Stamped) (rest : List Stamped) (marked : Bool) (t : CodelState)
    → drops s now all ≡ k → drop k all ≡ head ∷ rest → marks s now all ≡ marked → control_after s now all ≡ t
    → Ends s now all k head marked rest (record t { first_above_time = above_after s now (head ∷ rest) })
Ends_of s now all k head rest marked t count place mark control = record {
  chosen = record {
    head_is = drop_at all k head rest place ∙ ap (λ (i : ℕ). slice_get all i) (sym count);
    marked_is = sym mark;
    rest_is = drop_behind all k head rest place ∙ ap (λ (i : ℕ). drop (suc i) all) (sym count);
    state_is = sym (ap (λ (u : CodelState). record u { first_above_time = above_after s now (drop (drops s now all) all) }) control
        ∙ ap (λ (q : List Stamped). record t { first_above_time = above_after s now q }) (ap (λ (i : ℕ). drop i all) count ∙ place));
  };
  count = count;
}

-- while dropping, head j is sent, marked or not, late or not
pub Ends_at : (s : CodelState) (now : ℕ) (all : List Stamped) (j : ℕ) (head : Stamped) (rest : List Stamped) (marked late : Bool)
    → s.dropping ≡ true → drops s now all ≡ j → drop j all ≡ head ∷ rest → marks_at s now (head ∷ rest) j ≡ marked
    → is_late s now (head ∷ rest) ≡ late
    → Ends s now all j head marked rest (record (gone_on s j marked late) { first_above_time = above_after s now (head ∷ rest) })
Ends_at s now all j head rest marked late dropping count place mark is_so =
    Ends_of s now all j head rest marked (gone_on s j marked late) count place same_mark
    (cond-true s.dropping _ _ dropping
    ∙ ap (λ (k : ℕ). gone_on s k (marks s now all) (is_late s now (drop k all))) count
    ∙ ap (λ (m : Bool). gone_on s j m (is_late s now (drop j all))) same_mark
    ∙ ap (λ (q : List Stamped). gone_on s j marked (is_late s now q)) place
    ∙ ap (λ (l : Bool). gone_on s j marked l) is_so) where
      same_mark : marks s now all ≡ marked
      same_mark = marks_is s now all j head rest dropping count place ∙ mark

-- a late head leaves the time above the target as it is
pub above_late : (s : CodelState) (now : ℕ) (head : Stamped) (rest : List Stamped) → is_late s now (head ∷ rest) ≡ true → above_after s now (head ∷ rest) ≡ s.first_above_time
above_late s now head rest late =
    let standing : (is_standing s now (head ∷ rest) && nat_lt 0 s.first_above_time) ≡ true =
    (and_parts (is_standing s now (head ∷ rest) && nat_lt 0 s.first_above_time) (nat_le s.first_above_time now) late).0 in
    let parts = and_parts (is_standing s now (head ∷ rest)) (nat_lt 0 s.first_above_time) standing in
    let since : 0 < s.first_above_time = ltb-true 0 s.first_above_time parts.1 in
    cond-true (is_standing s now (head ∷ rest)) _ 0 parts.0 ∙ cond-false (s.first_above_time == 0) (now + s.interval) s.first_above_time (ne_eqb s.first_above_time 0 (λ none. absurd (omega arith)))

-- stops, by its reasons
pub stops_waiting : (s : CodelState) (now : ℕ) (all : List Stamped) (j : ℕ) → now < moment s j → stops s now all j ≡ true
stops_waiting s now all j waits =
    or_left (not (is_late s now (drop j all)) || nat_lt now (moment s j)) (is_markable s (drop j all))
    (or_right (not (is_late s now (drop j all))) (nat_lt now (moment s j)) (lt-ltb now (moment s j) waits))

pub stops_early : (s : CodelState) (now : ℕ) (all : List Stamped) (j : ℕ) → is_late s now (drop j all) ≡ false → stops s now all j ≡ true
stops_early s now all j early =
    or_left (not (is_late s now (drop j all)) || nat_lt now (moment s j)) (is_markable s (drop j all))
    (or_left (not (is_late s now (drop j all))) (nat_lt now (moment s j)) (not_from_false (is_late s now (drop j all)) early))

pub stops_markable : (s : CodelState) (now : ℕ) (all : List Stamped) (j : ℕ) → is_markable s (drop j all) ≡ true → stops s now all j ≡ true
stops_markable s now all j markable =
    or_right (not (is_late s now (drop j all)) || nat_lt now (moment s j)) (is_markable s (drop j all)) markable

-- the moment of head j is yet to come
pub OnTheWay_waits : (s : CodelState) (now : ℕ) (all : List Stamped) (j : ℕ) (t : CodelState) (head : Stamped) (rest : List Stamped)
    → s.dropping ≡ true → OnTheWay s now all j t head rest → now < t.drop_next → Ends s now all j head false rest t
OnTheWay_waits s now all j t head rest dropping way waits =
    subst (λ (u : CodelState). Ends s now all j head false rest u) (sym way.state)
    (subst (λ (a : ℕ). Ends s now all j head false rest (record s { count = count_after s j; drop_next = moment s j; first_above_time = a })) (above_late s now head rest way.late)
    (Ends_at s now all j head rest false true dropping count way.place not_due way.late)) where
      not_yet : now < moment s j
      not_yet = let e : t.drop_next ≡ moment s j = ap (λ (u : CodelState). u.drop_next) way.state in omega arith

      count : drops s now all ≡ j
      count = drops_is s now all j dropping (drop_within all j head rest way.place) way.passed (stops_waiting s now all j not_yet)

      not_due : marks_at s now (head ∷ rest) j ≡ false
      not_due =
          ap (λ (b : Bool). b && nat_le (moment s j) now && is_markable s (head ∷ rest)) way.late
          ∙ ap (λ (b : Bool). b && is_markable s (head ∷ rest)) (lt-leb (moment s j) now not_yet)

-- head j is due and markable
pub OnTheWay_marks : (s : CodelState) (now : ℕ) (all : List Stamped) (j : ℕ) (t : CodelState) (head : Stamped) (rest : List Stamped)
    → s.dropping ≡ true → OnTheWay s now all j t head rest → t.drop_next ≤ now → (s.ecn && is_capable head.packet.ecn) ≡ true
    → Ends s now all j head true rest (record s { count = count_after s (suc j); drop_next = moment s (suc j) })
OnTheWay_marks s now all j t head rest dropping way is_due markable =
    subst (λ (a : ℕ). Ends s now all j head true rest (record s { count = count_after s (suc j); drop_next = moment s (suc j); first_above_time = a })) (above_late s now head rest way.late)
    (Ends_at s now all j head rest true true dropping count way.place mark way.late) where
      due : moment s j ≤ now
      due = let e : t.drop_next ≡ moment s j = ap (λ (u : CodelState). u.drop_next) way.state in omega arith

      markable_there : is_markable s (drop j all) ≡ true
      markable_there = ap (is_markable s) way.place ∙ markable

      count : drops s now all ≡ j
      count = drops_is s now all j dropping (drop_within all j head rest way.place) way.passed (stops_markable s now all j markable_there)

      mark : marks_at s now (head ∷ rest) j ≡ true
      mark =
          ap (λ (b : Bool). b && nat_le (moment s j) now && is_markable s (head ∷ rest)) way.late
          ∙ ap (λ (b : Bool). b && is_markable s (head ∷ rest)) (le-leb (moment s j) now due)
          ∙ markable

-- head j goes, and the next one is late too
pub OnTheWay_more : (s : CodelState) (now : ℕ) (all : List Stamped) (j : ℕ) (t : CodelState) (head next : Stamped) (rest behind : List Stamped)
    → OnTheWay s now all j t head rest → t.drop_next ≤ now → (s.ecn && is_capable head.packet.ecn) ≡ false → rest ≡ next ∷ behind
    → is_late s now (next ∷ behind) ≡ true
    → OnTheWay s now all (suc j) (record s { count = count_after s (suc j); drop_next = moment s (suc j) }) next behind
OnTheWay_more s now all j t head next rest behind way is_due plain behind_is late = record {
  place = sym (drop_behind all j head rest way.place) ∙ behind_is;
  late = late;
  state = refl;
  passed = below_suc (λ i. stops s now all i ≡ false) j way.passed (stops_not s now all j head rest way.place way.late due plain);
} where
  due : moment s j ≤ now
  due = let e : t.drop_next ≡ moment s j = ap (λ (u : CodelState). u.drop_next) way.state in omega arith

-- head j goes, and the next one is not late
pub OnTheWay_ends : (s : CodelState) (now : ℕ) (all : List Stamped) (j : ℕ) (t : CodelState) (head next : Stamped) (rest behind : List Stamped)
    → s.dropping ≡ true → OnTheWay s now all j t head rest → t.drop_next ≤ now → (s.ecn && is_capable head.packet.ecn) ≡ false → rest ≡ next ∷ behind
    → is_late s now (next ∷ behind) ≡ false
    → Ends s now all (suc j) next false behind
    (record s { count = count_after s (suc j); drop_next = moment s j; dropping = false; first_above_time = above_after s now (next ∷ behind) })
OnTheWay_ends s now all j t head next rest behind dropping way is_due plain behind_is early =
    subst (λ (n : ℕ). Ends s now all (suc j) next false behind
    (record s { count = count_after s (suc j); drop_next = moment s n; dropping = false; first_above_time = above_after s now (next ∷ behind) }))
    before
    (Ends_at s now all (suc j) next behind false false dropping count place unmarked early) where
      due : moment s j ≤ now
      due = let e : t.drop_next ≡ moment s j = ap (λ (u : CodelState). u.drop_next) way.state in omega arith

      before : suc j - 1 ≡ j
      before = omega arith

      place : drop (suc j) all ≡ next ∷ behind
      place = sym (drop_behind all j head rest way.place) ∙ behind_is

      passed : (i : ℕ) → i < suc j → stops s now all i ≡ false
      passed = below_suc (λ i. stops s now all i ≡ false) j way.passed (stops_not s now all j head rest way.place way.late due plain)

      count : drops s now all ≡ suc j
      count = drops_is s now all (suc j) dropping (drop_within all (suc j) next behind place) passed (stops_early s now all (suc j) (ap (is_late s now) place ∙ early))

      unmarked : marks_at s now (next ∷ behind) (suc j) ≡ false
      unmarked = ap (λ (b : Bool). b && nat_le (moment s (suc j)) now && is_markable s (next ∷ behind)) early

-- The ways on from a late head, in what the code holds: the settings p and the state u, the next count m, the next gap g,
-- and, where one more head was looked at, the state x after that.
pub turn_waits : (s : CodelState) (now : ℕ) (all : List Stamped) (j : ℕ) (t : CodelState) (head : Stamped) (rest : List Stamped) (p : CodelParams)
    (u : CodelVars)
    → s.dropping ≡ true → OnTheWay s now all j t head rest → joined p u ≡ t → now < u.drop_next → Ends s now all j head false rest t
turn_waits s now all j t head rest p u dropping way same waits =
    OnTheWay_waits s now all j t head rest dropping way (subst (λ (x : CodelState). now < x.drop_next) same waits)

module _ (s : CodelState) (now : ℕ) (all : List Stamped) (j : ℕ) (t : CodelState) (head : Stamped) (rest : List Stamped) (p : CodelParams)
    (u : CodelVars) (m : ℕ) (way : OnTheWay s now all j t head rest) (same : joined p u ≡ t) (due : u.drop_next ≤ now)
    (counted : m ≡ min (u.count + 1) (2 ^ 32 - 1)) where
  held : joined p u ≡ record s { count = count_after s j; drop_next = moment s j }
  held = same ∙ way.state

  is_due : t.drop_next ≤ now
  is_due = subst (λ (x : CodelState). x.drop_next ≤ now) same due

  next_count : m ≡ count_after s (suc j)
  next_count = let c : u.count ≡ count_after s j = ap (λ (x : CodelState). x.count) held in omega arith

  same_ecn : (b : Bool) → (p.ecn && is_capable head.packet.ecn) ≡ b → (s.ecn && is_capable head.packet.ecn) ≡ b
  same_ecn b e = sym (ap (λ (x : CodelState). x.ecn && is_capable head.packet.ecn) held) ∙ e

  same_late : (next : Stamped) (behind : List Stamped) → is_late s now (next ∷ behind) ≡ is_late (joined p u) now (next ∷ behind)
  same_late next behind = sym (ap (λ (x : CodelState). is_late x now (next ∷ behind)) held)

  -- one drop or mark more, in the state
  next_state : (g : ℕ) → g ≡ gap_of p.interval m → joined p (record u { drop_next = u.drop_next + g; count = m }) ≡ record s { count = count_after s (suc j); drop_next = moment s (suc j) }
  next_state g length =
      ap (λ (d : ℕ). joined p (record u { drop_next = u.drop_next + d; count = m })) length
      ∙ ap (λ (x : CodelState). record x { drop_next = x.drop_next + gap_of x.interval m; count = m }) held
      ∙ ap (λ (c : ℕ). record s { drop_next = moment s j + gap_of s.interval c; count = c }) next_count

  pub turn_marks : (g : ℕ) → s.dropping ≡ true → (p.ecn && is_capable head.packet.ecn) ≡ true → g ≡ gap_of p.interval m
      → Ends s now all j head true rest (joined p (record u { drop_next = u.drop_next + g; count = m }))
  turn_marks g dropping markable length =
      subst (λ (x : CodelState). Ends s now all j head true rest x) (sym (next_state g length))
      (OnTheWay_marks s now all j t head rest dropping way is_due (same_ecn true markable))

  module _ (x : CodelVars) (next : Stamped) (behind : List Stamped) (plain : (p.ecn && is_capable head.packet.ecn) ≡ false)
      (behind_is : rest ≡ next ∷ behind) (noted : x ≡ record u { count = m; first_above_time = above_after (joined p u) now (next ∷ behind) }) where
    pub turn_ends : s.dropping ≡ true → is_late (joined p u) now (next ∷ behind) ≡ false → Ends s now all (suc j) next false behind (joined p (record x { dropping = false }))
    turn_ends dropping early =
        subst (λ (y : CodelState). Ends s now all (suc j) next false behind y) (sym last_state)
        (OnTheWay_ends s now all j t head next rest behind dropping way is_due (same_ecn false plain) behind_is (same_late next behind ∙ early)) where
          last_state : joined p (record x { dropping = false }) ≡ record s
              { count = count_after s (suc j); drop_next = moment s j; dropping = false; first_above_time = above_after s now (next ∷ behind) }
          last_state =
              ap (λ (y : CodelVars). joined p (record y { dropping = false })) noted
              ∙ ap (λ (y : CodelState). record y { count = m; dropping = false; first_above_time = above_after y now (next ∷ behind) }) held
              ∙ ap (λ (c : ℕ). record s { count = c; drop_next = moment s j; dropping = false; first_above_time = above_after s now (next ∷ behind) }) next_count

    pub turn_goes_on : (g : ℕ) → g ≡ gap_of p.interval x.count → is_late (joined p u) now (next ∷ behind) ≡ true
        → OnTheWay s now all (suc j) (joined p (record x { drop_next = x.drop_next + g })) next behind
    turn_goes_on g length late =
        subst (λ (y : CodelState). OnTheWay s now all (suc j) y next behind) (sym more_state)
        (OnTheWay_more s now all j t head next rest behind way is_due (same_ecn false plain) behind_is (same_late next behind ∙ late)) where
          unmoved : x ≡ record u { count = m }
          unmoved = noted ∙ ap (λ (a : ℕ). record u { count = m; first_above_time = a }) (above_late (joined p u) now next behind late)

          more_state : joined p (record x { drop_next = x.drop_next + g }) ≡ record s { count = count_after s (suc j); drop_next = moment s (suc j) }
          more_state =
              ap (λ (y : CodelVars). joined p (record y { drop_next = y.drop_next + g })) unmoved
              ∙ next_state g (length ∙ ap (λ (y : CodelVars). gap_of p.interval y.count) unmoved)

-- one loss more
pub losses_more : (cause : Cause) (all : List Stamped) (j : ℕ) (old now later : SinkState) (head : Stamped) (rest : List Stamped) → drop j all ≡ head ∷ rest
    → AreLost cause (take j all) old now → AreLost cause (head ∷ []) now later → AreLost cause (take (suc j) all) old later
losses_more cause all j old now later head rest place are one = lost_next cause all j head old now later (ap (λ (q : List Stamped). slice_get q 0) place) are one

-- losses told by the number that the definition gives
pub lost_at : (cause : Cause) (all : List Stamped) (j n : ℕ) (old now : SinkState) → n ≡ j → AreLost cause (take j all) old now → AreLost cause (take n all) old now
lost_at cause all j n old now e are = subst (λ (k : ℕ). AreLost cause (take k all) old now) (sym e) are

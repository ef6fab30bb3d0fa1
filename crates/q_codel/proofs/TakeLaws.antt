-- How a take divides a queue, and what state it leaves, from the definition.
use Rattle.std.proofs.Common.{◌≡◌, ℕ, zero, suc, ◌+◌, ◌-◌, ◌*◌, ◌<◌, ◌≤◌, Bool, true, false, not, ◌&&◌, ◌||◌, nat_lt, nat_le, List, [], ◌∷◌, ◌++◌, length, take, drop, arith, refl, sym, ap, ◌∙◌, subst, inl, inr}
use Rattle.std.specs.Prelude.{if◌then◌else◌, slice_get, option_to_list}
use Rattle.std.proofs.lemmas.Bool.{cases_lt, true≢false, lt-ltb, le-ltb, and_from, and_left, and_right, or_from, not_from_true, not_from_false, cond-true, cond-false}
use Rattle.q_packet.proofs.LeastLemmas.{least_holds}
use Rattle.q_packet.specs.Least.{least}
use Rattle.q_packet.specs.Totals.{size}
use Rattle.q_packet.specs.declared.stamped.Stamped.{Stamped}
use Rattle.q_codel.specs.Gap.{gap_of}
use Rattle.q_codel.specs.Codel.{CodelState, rested, count_after, is_standing, is_late, is_markable, moment, stops, drops, marks, gone_on, begun, control_after, after}
use Rattle.q_codel.specs.Laws.{EmptyQueueRests, QueueIsDivided, OneDropBegins, DueHeadsGo, OneMtuLeft, CountIsResumed}

pub empty_queue_rests_holds : EmptyQueueRests
empty_queue_rests_holds s now range = by_dropping s.dropping where
  same : count_after s 0 ≡ s.count
  same = omega arith

  by_dropping : (b : Bool) → after (record s { dropping = b }) now [] ≡ rested (record s { dropping = b })
  by_dropping true = ap (λ (n : ℕ). record s { first_above_time = 0; dropping = false; count = n }) same
  by_dropping false = refl

-- a list, cut before and behind any place
cut : (n : ℕ) (queue : List Stamped) → take n queue ++ (option_to_list (slice_get queue n) ++ drop (suc n) queue) ≡ queue
cut zero [] = refl
cut (suc n) [] = refl
cut zero (x ∷ queue) = refl
cut (suc n) (x ∷ queue) = ap (λ (l : List Stamped). x ∷ l) (cut n queue)

pub queue_is_divided_holds : QueueIsDivided
queue_is_divided_holds s now queue = cut (drops s now queue) queue

pub one_drop_begins_holds : OneDropBegins
one_drop_begins_holds s now queue resting =
    subst (λ (n : ℕ). n ≤ 1) (sym (cond-false s.dropping _ _ resting)) (one_or_none (is_late s now queue && not (is_markable s queue))) where
      one_or_none : (b : Bool) → (if b then 1 else 0) ≤ 1
      one_or_none true = omega arith
      one_or_none false = omega arith

-- behind the last packet nothing is late
late_within : (s : CodelState) (now : ℕ) (queue : List Stamped) (i : ℕ) → is_late s now (drop i queue) ≡ true → i < length queue
late_within s now [] zero late = cc
late_within s now [] (suc i) late = cc
late_within s now (x ∷ queue) zero late = omega arith
late_within s now (x ∷ queue) (suc i) late = let h = late_within s now queue i late in omega arith

-- while dropping, a take does not cease at a head that is due
goes_past : (s : CodelState) (now : ℕ) (queue : List Stamped) (i : ℕ) → s.dropping ≡ true → i ≤ drops s now queue
    → is_late s now (drop i queue) ≡ true → moment s i ≤ now → is_markable s (drop i queue) ≡ false → i < drops s now queue
goes_past s now queue i dropping reached late due plain = elim (cases_lt i (drops s now queue)) [
  | inl below ↦ below
  | inr above ↦
      let count : drops s now queue ≡ least_stop = cond-true s.dropping _ _ dropping in
      let here : least_stop ≡ i = omega arith in
      let within : least_stop < length queue = let w = late_within s now queue i late in omega arith in
      let stops_there : stops s now queue i ≡ true = subst (λ (k : ℕ). stops s now queue k ≡ true) here (least_holds (stops s now queue) (length queue) within) in
      absurd (true≢false (sym stops_there ∙ goes))
] where
  least_stop : ℕ
  least_stop = least (stops s now queue) (length queue)

  goes : stops s now queue i ≡ false
  goes = or_from (not (is_late s now (drop i queue)) || nat_lt now (moment s i)) (is_markable s (drop i queue))
      (or_from (not (is_late s now (drop i queue))) (nat_lt now (moment s i)) (not_from_true (is_late s now (drop i queue)) late) (le-ltb now (moment s i) due))
      plain

pub due_heads_go_holds : DueHeadsGo
due_heads_go_holds s now queue = record {
  begins = λ resting late plain.
      cond-false s.dropping _ _ resting
      ∙ cond-true (is_late s now queue && not (is_markable s queue)) 1 0 (and_from (is_late s now queue) (not (is_markable s queue)) late (not_from_false (is_markable s queue) plain));
  goes_on = λ dropping i reached late due plain. goes_past s now queue i dropping reached late due plain;
}

-- no queue stands with one mtu or less behind its head
not_standing : (s : CodelState) (now : ℕ) (queue : List Stamped) (j : ℕ) → size (drop (suc j) queue) ≤ s.mtu → is_standing s now (drop j queue) ≡ false
not_standing s now [] zero small = refl
not_standing s now [] (suc j) small = refl
not_standing s now (head ∷ rest) zero small = and_right (nat_le s.target (now - head.at)) (nat_lt s.mtu (size rest)) (le-ltb s.mtu (size rest) small)
not_standing s now (head ∷ rest) (suc j) small = not_standing s now rest j small

-- nor is it late
not_late : (s : CodelState) (now : ℕ) (queue : List Stamped) → is_standing s now queue ≡ false → is_late s now queue ≡ false
not_late s now queue e = and_left _ (nat_le s.first_above_time now) (and_left (is_standing s now queue) (nat_lt 0 s.first_above_time) e)

pub one_mtu_left_holds : OneMtuLeft
one_mtu_left_holds s now queue small = record {
  begins_anew = cond-false (is_standing s now behind) _ 0 standing;
  ends = λ dropping.
      let marked : marks s now queue ≡ false =
      cond-true s.dropping _ _ dropping ∙ and_left _ (is_markable s behind)
      (and_left (is_late s now behind) (nat_le (moment s (drops s now queue)) now) early) in
      let control : control_after s now queue ≡ gone_on s (drops s now queue) false false =
      cond-true s.dropping _ _ dropping ∙ ap (λ (m : Bool). gone_on s (drops s now queue) m (is_late s now behind)) marked ∙ ap (λ (l : Bool). gone_on s (drops s now queue) false l) early in
      ap (λ (t : CodelState). t.dropping) control;
  does_not_begin = λ resting none.
      let first : is_late s now queue ≡ false = subst (λ (n : ℕ). is_late s now (drop n queue) ≡ false) none early in
      let control : control_after s now queue ≡ s = cond-false s.dropping _ _ resting ∙ cond-false (is_late s now queue) _ _ first in
      ap (λ (t : CodelState). t.dropping) control ∙ resting;
} where
  behind : List Stamped
  behind = drop (drops s now queue) queue

  standing : is_standing s now behind ≡ false
  standing = not_standing s now queue (drops s now queue) small

  early : is_late s now behind ≡ false
  early = not_late s now behind standing

pub count_is_resumed_holds : CountIsResumed
count_is_resumed_holds s now queue resting late = record {
  begins = ap (λ (t : CodelState). t.dropping) control;
  resumed = λ recent grown.
      ap (λ (t : CodelState). t.count) control
      ∙ cond-true (nat_lt 1 delta && nat_lt now end) delta 1 (and_from (nat_lt 1 delta) (nat_lt now end) (lt-ltb 1 delta (omega arith)) (lt-ltb now end recent));
  long_ago = λ past.
      ap (λ (t : CodelState). t.count) control ∙ cond-false (nat_lt 1 delta && nat_lt now end) delta 1 (and_right (nat_lt 1 delta) (nat_lt now end) (le-ltb now end past));
  hardly_grown = λ small.
      ap (λ (t : CodelState). t.count) control ∙ cond-false (nat_lt 1 delta && nat_lt now end) delta 1 (and_left (nat_lt 1 delta) (nat_lt now end) (le-ltb 1 delta (omega arith)));
  noted = ap (λ (t : CodelState). t.lastcount) control ∙ sym (ap (λ (t : CodelState). t.count) control);
  first_gap = ap (λ (t : CodelState). t.drop_next) control ∙ ap (λ (c : ℕ). now + gap_of s.interval c) (sym (ap (λ (t : CodelState). t.count) control));
} where
  control : control_after s now queue ≡ begun s now
  control = cond-false s.dropping _ _ resting ∙ cond-true (is_late s now queue) (begun s now) s late

  delta : ℕ
  delta = s.count - s.lastcount

  end : ℕ
  end = s.drop_next + 16 * s.interval

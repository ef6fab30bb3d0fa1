-- What is chosen without a drop, by a first drop, and by going on, in what the code holds: the settings p, the state u, and
-- the state v after a look at the head.
use Rattle.std.proofs.Common.{◌≡◌, ℕ, ◌-◌, ◌^◌, ◌<◌, Bool, true, false, not, ◌&&◌, nat_lt, nat_le, List, [], ◌∷◌, length, arith, refl, sym, ap, ◌∙◌, subst, inl, inr}
use Rattle.std.specs.Prelude.{if◌then◌else◌}
use Rattle.std.proofs.lemmas.Bool.{cases_Bool, cond-false, and_parts, ltb-true}
use Rattle.q_packet.specs.Totals.{size}
use Rattle.q_packet.specs.declared.stamped.Stamped.{Stamped}
use Rattle.q_codel.specs.Chosen.{HasChosen}
use Rattle.q_codel.specs.Codel.{CodelState, CodelParams, CodelVars, joined, is_standing, is_late, is_capable, is_markable, moment, begun, above_after, count_after}
use Rattle.q_codel.specs.Losses.{SinkState}
use Rattle.q_codel.proofs.Law.{drops_is, stops_early, marks_at, Ends, Ends_of, Ends_at, above_late}

-- a late head has a packet behind it
pub late_has_two : (s : CodelState) (now : ℕ) (head : Stamped) (rest : List Stamped) → is_late s now (head ∷ rest) ≡ true → 0 < length rest
late_has_two s now head [] late =
    let standing = (and_parts (is_standing s now (head ∷ []) && nat_lt 0 s.first_above_time) (nat_le s.first_above_time now) late).0 in
    let parts = and_parts (is_standing s now (head ∷ [])) (nat_lt 0 s.first_above_time) standing in
    let behind = and_parts (nat_le s.target (now - head.at)) (nat_lt s.mtu (size [])) parts.0 in
    let more : s.mtu < 0 = ltb-true s.mtu 0 behind.1 in
    absurd (omega arith)
late_has_two s now head (x ∷ rest) late = omega arith

-- a look at a late head leaves the state as it is
pub unmoved : (p : CodelParams) (u v : CodelVars) (now : ℕ) (head : Stamped) (rest : List Stamped) → is_late (joined p u) now (head ∷ rest) ≡ true
    → v ≡ record u { first_above_time = above_after (joined p u) now (head ∷ rest) } → v ≡ u
unmoved p u v now head rest late noted = noted ∙ ap (λ (a : ℕ). record u { first_above_time = a }) (above_late (joined p u) now head rest late)

-- a head that is not late goes, and dropping ends
module _ (p : CodelParams) (u v : CodelVars) (now : ℕ) (head : Stamped) (rest : List Stamped) (counted : u.count < 2 ^ 32)
    (early : is_late (joined p u) now (head ∷ rest) ≡ false)
    (noted : v ≡ record u { first_above_time = above_after (joined p u) now (head ∷ rest) }) where
  s : CodelState
  s = joined p u

  all : List Stamped
  all = head ∷ rest

  ended : CodelState
  ended = joined p (record u { first_above_time = above_after s now all; dropping = false })

  unmarked : marks_at s now all 0 ≡ false
  unfolding s all
  unmarked = ap (λ (b : Bool). b && nat_le (moment s 0) now && is_markable s all) early

  while_dropping : u.dropping ≡ true → Ends s now all 0 head false rest ended
  unfolding s all ended
  while_dropping dropping =
      let same : count_after s 0 ≡ u.count = omega arith in
      subst (λ (n : ℕ). Ends s now all 0 head false rest (record s { count = n; dropping = false; first_above_time = above_after s now all })) same
      (Ends_at s now all 0 head rest false false dropping
      (drops_is s now all 0 dropping (omega arith) (λ i below. absurd (omega arith)) (stops_early s now all 0 early))
      refl unmarked early)

  at_rest : u.dropping ≡ false → Ends s now all 0 head false rest ended
  unfolding s all ended
  at_rest resting =
      subst (λ (d : Bool). Ends s now all 0 head false rest (record s { first_above_time = above_after s now all; dropping = d })) resting
      (Ends_of s now all 0 head rest false s
      (cond-false s.dropping _ _ resting ∙ ap (λ (b : Bool). if b && not (is_markable s all) then 1 else 0) early)
      refl
      (cond-false s.dropping _ _ resting ∙ ap (λ (b : Bool). b && is_markable s all) early)
      (cond-false s.dropping _ _ resting ∙ ap (λ (b : Bool). if b then begun s now else s) early))

  pub chosen_early : Ends (joined p u) now (head ∷ rest) 0 head false rest (joined p (record v { dropping = false }))
  unfolding s all ended
  chosen_early =
      subst (λ (w : CodelVars). Ends s now all 0 head false rest (joined p (record w { dropping = false }))) (sym noted)
      (elim (cases_Bool u.dropping) [ inl dropping ↦ while_dropping dropping | inr resting ↦ at_rest resting ])

-- a late head that is not markable is dropped, where none was being dropped, and the next one goes
pub chosen_behind : (p : CodelParams) (u v w x : CodelVars) (now : ℕ) (head : Stamped) (rest : List Stamped) (next : Stamped) (behind : List Stamped)
    → u.dropping ≡ false → is_late (joined p u) now (head ∷ rest) ≡ true → v ≡ u → (p.ecn && is_capable head.packet.ecn) ≡ false
    → joined p w ≡ begun (joined p v) now → rest ≡ next ∷ behind → x ≡ record w { first_above_time = above_after (joined p w) now (next ∷ behind) }
    → Ends (joined p u) now (head ∷ rest) 1 next false behind (joined p x)
chosen_behind p u v w x now head rest next behind resting late same plain begins rest_is noted =
    subst (λ (t : CodelState). Ends (joined p u) now (head ∷ rest) 1 next false behind t) (sym last)
    (Ends_of (joined p u) now (head ∷ rest) 1 next behind false (begun (joined p u) now)
    (cond-false u.dropping _ _ resting
    ∙ ap (λ (b : Bool). if b && not (p.ecn && is_capable head.packet.ecn) then 1 else 0) late
    ∙ ap (λ (b : Bool). if not b then 1 else 0) plain)
    rest_is
    (cond-false u.dropping _ _ resting
    ∙ ap (λ (b : Bool). b && (p.ecn && is_capable head.packet.ecn)) late
    ∙ plain)
    (cond-false u.dropping _ _ resting ∙ ap (λ (b : Bool). if b then begun (joined p u) now else joined p u) late)) where
      begun_there : joined p w ≡ begun (joined p u) now
      begun_there = begins ∙ ap (λ (y : CodelVars). begun (joined p y) now) same

      last : joined p x ≡ record (begun (joined p u) now) { first_above_time = above_after (joined p u) now (next ∷ behind) }
      last =
          ap (joined p) noted
          ∙ ap (λ (y : CodelState). record y { first_above_time = above_after y now (next ∷ behind) }) begun_there

-- what is chosen of a queue that is known by another name, and by a state that is
pub chosen_in : (s : CodelState) (now : ℕ) (whole queue : List Stamped) (j : ℕ) (head : Stamped) (marked : Bool) (rest : List Stamped) (t : CodelState)
    → whole ≡ queue → Ends s now queue j head marked rest t → Ends s now whole j head marked rest t
chosen_in s now whole queue j head marked rest t is ends = subst (λ (q : List Stamped). Ends s now q j head marked rest t) (sym is) ends

pub chosen_from : (p : CodelParams) (u v : CodelVars) (now : ℕ) (queue waiting : List Stamped) (marked : Bool) (t : CodelState) (before after : SinkState)
    (Kept SinkKept : Type 0) → v ≡ u → HasChosen (joined p v) now queue marked waiting t before after Kept SinkKept
    → HasChosen (joined p u) now queue marked waiting t before after Kept SinkKept
chosen_from p u v now queue waiting marked t before after Kept SinkKept same chosen =
    subst (λ (w : CodelVars). HasChosen (joined p w) now queue marked waiting t before after Kept SinkKept) same chosen

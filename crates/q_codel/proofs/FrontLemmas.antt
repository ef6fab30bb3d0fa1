-- What the front of a queue tells of it: the head is there, and the bytes behind it are the others.
use Rattle.std.proofs.Common.{◌≡◌, ℕ, ◌-◌, ◌^◌, ◌<◌, ◌≤◌, List, [], ◌∷◌, Bool, true, take, drop, arith, refl, sym, ap, subst, ◌∙◌}
use Rattle.std.proofs.lemmas.Option.{none-some, same_Some}
use Rattle.q_packet.proofs.TotalsLemmas.{size-cons}
use Rattle.q_packet.specs.Totals.{count, size}
use Rattle.q_packet.specs.declared.stamped.Stamped.{Stamped}
use Rattle.q_packet.specs.declared.cause.Cause.{Cause}
use Rattle.q_packet.specs.declared.cause.Cause.TheVariants.{CoDel}
use Rattle.q_codel.specs.declared.front.Front.{Front}
use Rattle.q_codel.specs.Chosen.{HasChosen}
use Rattle.q_codel.specs.Codel.{CodelState, is_late, drops, Chooses}
use Rattle.q_codel.specs.Losses.{AreLost, SinkState}
use Rattle.q_codel.proofs.Law.{OnTheWay, OnTheWay_start, Ends, lost_at}
use Rattle.q_codel.specs.Front.{front_of, IsFront}

-- a queue, split at its head
pub record Split (front : Front) (queue : List Stamped) : Type 0 where
  pub head : Stamped
  pub rest : List Stamped
  pub is : queue ≡ head ∷ rest
  pub front_is : front ≡ front_of head

pub split : (front : Front) (queue : List Stamped) → IsFront front queue → Split front queue
split front [] h = absurd (none-some front (sym h))
split front (s ∷ queue) h = record { head = s; rest = queue; is = refl; front_is = same_Some front (front_of s) h }

-- the bytes behind a head
pub behind_is : (bytes len : ℕ) (queue : List Stamped) (head : Stamped) (rest : List Stamped) → bytes ≡ size queue → queue ≡ head ∷ rest → len ≡ head.packet.len → bytes - len ≡ size rest
behind_is bytes len queue head rest b is l = omega (arith, b, ap size is, size-cons head rest, l)

pub len_within : (bytes len : ℕ) (queue : List Stamped) (head : Stamped) (rest : List Stamped) → bytes ≡ size queue → queue ≡ head ∷ rest → len ≡ head.packet.len → len ≤ bytes
len_within bytes len queue head rest b is l = omega (arith, b, ap size is, size-cons head rest, l)

-- what is in front once the head has gone
pub record Next (front : Front) (queue rest : List Stamped) : Type 0 where
  pub head : Stamped
  pub behind : List Stamped
  pub here : queue ≡ head ∷ behind
  pub rest_is : rest ≡ head ∷ behind
  pub front_is : front ≡ front_of head

pub next : (front : Front) (before after : List Stamped) (head : Stamped) (rest : List Stamped) → before ≡ head ∷ rest → after ≡ drop 1 before → IsFront front after → Next front after rest
next front before after head rest is gone h =
    let s = split front after h in
    record { head = s.head; behind = s.rest; here = s.is; rest_is = sym (gone ∙ ap (drop 1) is) ∙ s.is; front_is = s.front_is }

-- the loss of a head
pub head_lost : (old new : SinkState) (cause : Cause) (queue : List Stamped) (head : Stamped) (rest : List Stamped) → queue ≡ head ∷ rest
    → AreLost cause (take 1 queue) old new → AreLost cause (head ∷ []) old new
head_lost old new cause queue head rest is e = subst (λ (q : List Stamped). AreLost cause (take 1 q) old new) is e

-- what is chosen, where a caller knows what waits by its head and the rest
pub chosen_at : (s : CodelState) (now : ℕ) (all : List Stamped) (j : ℕ) (head : Stamped) (marked : Bool) (rest : List Stamped) (t : CodelState) (waiting : List Stamped)
    (before after : SinkState) (Kept SinkKept : Type 0) → Ends s now all j head marked rest t → waiting ≡ head ∷ rest
    → AreLost CoDel (take j all) before after → Kept → SinkKept → HasChosen s now all marked waiting t before after Kept SinkKept
chosen_at s now all j head marked rest t waiting before after Kept SinkKept ends is lost kept sink_kept = record {
  some = omega (arith, ap count is);
  chosen = λ h r e.
      let first : head ≡ h = cc in
      let others : rest ≡ r = cc in
      subst (λ (x : Stamped). Chooses s now all x marked r t) first (subst (λ (x : List Stamped). Chooses s now all head marked x t) others ends.chosen);
  lost = lost_at CoDel all j (drops s now all) before after ends.count lost;
  kept = kept;
  sink_kept = sink_kept;
}

-- dropping goes on from the head of a queue that is late
pub way_from : (s : CodelState) (now : ℕ) (queue : List Stamped) (head : Stamped) (rest : List Stamped) → queue ≡ head ∷ rest → s.count < 2 ^ 32
    → is_late s now queue ≡ true → OnTheWay s now queue 0 s head rest
way_from s now queue head rest is counted late =
    subst (λ (q : List Stamped). OnTheWay s now q 0 s head rest) (sym is) (OnTheWay_start s now head rest counted (sym (ap (is_late s now) is) ∙ late))

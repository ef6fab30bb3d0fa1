-- What a sink is told, one loss after the other.
use Rattle.std.proofs.Common.{◌≡◌, ℕ, zero, suc, ◌+◌, List, [], ◌∷◌, ◌++◌, take, drop, Some, sym, ap, ◌∙◌, subst, arith, append_assoc, append-nil, length-append}
use Rattle.std.specs.Prelude.{slice_get}
use Rattle.std.proofs.lemmas.List.{map-append, length-map}
use Rattle.q_packet.specs.Totals.{count}
use Rattle.q_packet.specs.declared.cause.Cause.{Cause}
use Rattle.q_packet.specs.declared.stamped.Stamped.{Stamped}
use Rattle.q_codel.specs.declared.loss.Loss.{Loss}
use Rattle.q_codel.specs.Losses.{AreLost, IsTold, SinkState, losses_of}

pub told_nothing : (s : SinkState) → IsTold [] s s
told_nothing s = record { lost = sym (append-nil s.losses); room = omega arith }

-- of some losses, and then of others
pub told_both : (xs ys : List Loss) (s t u : SinkState) → IsTold xs s t → IsTold ys t u → IsTold (xs ++ ys) s u
told_both xs ys s t u a b = record {
  lost = b.lost ∙ ap (λ (l : List Loss). l ++ ys) a.lost ∙ append_assoc s.losses xs ys;
  room = omega (arith, a.room, b.room, length-append xs ys);
}

-- some packets are lost, and then others
pub lost_both : (cause : Cause) (xs ys : List Stamped) (s t u : SinkState) → AreLost cause xs s t → AreLost cause ys t u → AreLost cause (xs ++ ys) s u
lost_both cause xs ys s t u a b =
    subst (λ (l : List Loss). IsTold l s u) (sym (map-append (λ (x : Stamped). record { packet = x.packet; cause = cause }) xs ys))
    (told_both (losses_of cause xs) (losses_of cause ys) s t u a b)

-- each packet that is lost takes the room of one
pub room_lost : (cause : Cause) (queue : List Stamped) (s t : SinkState) → AreLost cause queue s t → t.room + count queue ≡ s.room
room_lost cause queue s t lost = omega (arith, lost.room, length-map {B = Loss} queue (λ (x : Stamped). record { packet = x.packet; cause = cause }))

-- a queue up to its packet in this place
taken_more : (q : List Stamped) (i : ℕ) (x : Stamped) → slice_get (drop i q) 0 ≡ Some x → take (suc i) q ≡ take i q ++ x ∷ []
taken_more [] zero x h = absurd cc
taken_more [] (suc i) x h = absurd cc
taken_more (y ∷ ys) zero x h = let e : y ≡ x = cc in ap (λ (z : Stamped). z ∷ []) e
taken_more (y ∷ ys) (suc i) x h = ap (λ (l : List Stamped). y ∷ l) (taken_more ys i x h)

-- the first packets of a queue are lost, and one more
pub lost_next : (cause : Cause) (q : List Stamped) (i : ℕ) (x : Stamped) (s t u : SinkState) → slice_get (drop i q) 0 ≡ Some x → AreLost cause (take i q) s t → AreLost cause (x ∷ []) t u
    → AreLost cause (take (suc i) q) s u
lost_next cause q i x s t u read before one =
    subst (λ (l : List Stamped). AreLost cause l s u) (sym (taken_more q i x read)) (lost_both cause (take i q) (x ∷ []) s t u before one)

-- the head of a queue is lost
pub lost_head : (cause : Cause) (q : List Stamped) (x : Stamped) (s t : SinkState) → slice_get q 0 ≡ Some x → AreLost cause (x ∷ []) s t → AreLost cause (take 1 q) s t
lost_head cause q x s t read one = lost_next cause q 0 x s s t read (told_nothing s) one

-- and then the rest of it
pub lost_rest : (cause : Cause) (q : List Stamped) (x : Stamped) (s t u : SinkState) → slice_get q 0 ≡ Some x → AreLost cause (x ∷ []) s t → AreLost cause (drop 1 q) t u → AreLost cause q s u
lost_rest cause [] x s t u read one rest = absurd cc
lost_rest cause (y ∷ q) x s t u read one rest = let e : x ≡ y = cc in subst (λ (z : Stamped). AreLost cause (z ∷ q) s u) e (lost_both cause (x ∷ []) q s t u one rest)

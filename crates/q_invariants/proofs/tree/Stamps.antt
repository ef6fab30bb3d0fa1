-- A queue whose packets were stamped in order: what is left of it, and what it is with one more.
use Rattle.std.proofs.Common.{◌≡◌, ℕ, zero, suc, ◌≤◌, List, [], ◌∷◌, ◌++◌, drop, arith}
use Rattle.std.specs.Prelude.{All}
use Rattle.std.proofs.lemmas.List.Elements.{All-head, All-tail, All-nil, All-push, All-drop, All-weaker}
use Rattle.q_packet.specs.declared.stamped.Stamped.{Stamped}
use Rattle.q_model.specs.Lawful.{AreInOrder, IsStampedBy}

-- no packet
pub stamped-nil : (clock : ℕ) → IsStampedBy clock []
stamped-nil clock = record { past = All-nil (λ (s : Stamped). s.at ≤ clock); in_order = tt }

-- without those in front
order-drop : (n : ℕ) (queue : List Stamped) → AreInOrder queue → AreInOrder (drop n queue)
order-drop zero queue h = h
order-drop (suc n) [] h = tt
order-drop (suc n) (s ∷ queue) h = order-drop n queue h.1

pub stamped-drop : (clock n : ℕ) (queue : List Stamped) → IsStampedBy clock queue → IsStampedBy clock (drop n queue)
stamped-drop clock n queue h = record { past = All-drop (λ (s : Stamped). s.at ≤ clock) n queue h.past; in_order = order-drop n queue h.in_order }

-- with one more, stamped at the clock
order-push : (x : Stamped) (queue : List Stamped) → All (λ (s : Stamped). s.at ≤ x.at) queue → AreInOrder queue → AreInOrder (queue ++ x ∷ [])
order-push x [] past h = (All-nil (λ (s : Stamped). x.at ≤ s.at), tt)
order-push x (s ∷ queue) past h = (
  All-push (λ (behind : Stamped). s.at ≤ behind.at) queue x h.0 (All-head (λ (s : Stamped). s.at ≤ x.at) s queue past),
  order-push x queue (All-tail (λ (s : Stamped). s.at ≤ x.at) s queue past) h.1,
)

pub stamped-push : (x : Stamped) (queue : List Stamped) → IsStampedBy x.at queue → IsStampedBy x.at (queue ++ x ∷ [])
stamped-push x queue h = record {
  past = All-push (λ (s : Stamped). s.at ≤ x.at) queue x h.past (omega arith);
  in_order = order-push x queue h.past h.in_order;
}

-- The bytes of a queue of short packets are bounded by their number, so that 64 bits hold them.
use Rattle.std.proofs.Common.{◌≡◌, ℕ, ◌+◌, ◌-◌, ◌*◌, ◌^◌, ◌<◌, ◌≤◌, List, [], ◌∷◌, length, drop, arith, ap, sym, ◌∙◌}
use Rattle.std.specs.Prelude.{slice_get, Some}
use Rattle.std.proofs.lemmas.Option.{none-some, same_Some}
use Rattle.std.specs.List.{All}
use Rattle.std.proofs.lemmas.List.Elements.{All-drop}
use Rattle.q_packet.proofs.TotalsLemmas.{size-cons, size_within}
use Rattle.q_packet.specs.Totals.{size}
use Rattle.q_packet.specs.declared.stamped.Stamped.{Stamped}
use Rattle.q_codel.specs.FifoState.{IsCounted}

pub size_bound : (queue : List Stamped) → All (λ s. s.packet.len < 2 ^ 16) queue → size queue ≤ length queue * 65535
size_bound queue h = size_within 65535 queue (λ k d below. let short = h k d below in omega arith)

-- one more length still fits
pub one_more : (bytes : ℕ) (queue : List Stamped) (len : ℕ) → IsCounted bytes queue → len < 2 ^ 16 → bytes + len < 2 ^ 64
one_more bytes queue len h short = let bound = size_bound queue h.short in let sum = h.summed in let few = h.few in omega arith

-- the front leaves with its bytes
pub IsCounted_front : (bytes : ℕ) (front : Stamped) (queue : List Stamped) → IsCounted bytes (front ∷ queue) → IsCounted (bytes - front.packet.len) queue
IsCounted_front bytes front queue h = record {
  summed = let sum = h.summed in omega (arith, size-cons front queue);
  short = All-drop (λ s. s.packet.len < 2 ^ 16) 1 (front ∷ queue) h.short;
  few = let few = h.few in omega arith;
}

-- and so does what is read in front, before it is taken
pub IsCounted_dropped : (bytes : ℕ) (queue : List Stamped) (front : Stamped) (rest : List Stamped) (len : ℕ)
    → IsCounted bytes queue → slice_get queue 0 ≡ Some front → rest ≡ drop 1 queue → len ≡ front.packet.len → IsCounted (bytes - len) rest
IsCounted_dropped bytes [] front rest len h at rest_is same = absurd (none-some front at)
IsCounted_dropped bytes (s ∷ queue) front rest len h at rest_is same =
    rw rest_is (rw (same ∙ sym (ap (λ (s : Stamped). s.packet.len) (same_Some s front at))) (IsCounted_front bytes s queue h))

-- How many bytes a queue has with one packet more, and at most.
use Rattle.std.proofs.Common.{◌≡◌, ℕ, ◌+◌, ◌*◌, ◌≤◌, List, [], ◌∷◌, ◌++◌}
use Rattle.std.specs.Prelude.{All}
use Rattle.std.proofs.lemmas.List.Sums.{sum_by-cons, sum_by_push, sum_by-le}
use Rattle.q_packet.specs.declared.stamped.Stamped.{Stamped}
use Rattle.q_packet.specs.Totals.{count, size}

pub size-cons : (s : Stamped) (queue : List Stamped) → size (s ∷ queue) ≡ s.packet.len + size queue
size-cons s queue = sum_by-cons (λ (x : Stamped). x.packet.len) s queue

pub size_push : (queue : List Stamped) (s : Stamped) → size (queue ++ s ∷ []) ≡ size queue + s.packet.len
size_push queue s = sum_by_push (λ (x : Stamped). x.packet.len) queue s

-- a queue of packets of at most m bytes each
pub size_within : (m : ℕ) (queue : List Stamped) → All (λ (x : Stamped). x.packet.len ≤ m) queue → size queue ≤ count queue * m
size_within m queue short = sum_by-le (λ (x : Stamped). x.packet.len) m queue short

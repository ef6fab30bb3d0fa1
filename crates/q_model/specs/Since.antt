-- When the packet arrived that a node has at hand without being asked: the one that it holds, a fifo's head, and for a prio that
-- of its first band which has one. It is the packet that specs/Pop.antt hands out (tc-prio(8)).
use Rattle.std.specs.Prelude.{ℕ, List, Option, Some, None, is_some, option_map, option_and_then, slice_get}
use Rattle.std.specs.List.{position_or_len}
use Rattle.std.specs.Option.{option_map_or}
use Rattle.q_packet.specs.Descriptor.{Descriptor}
use Rattle.q_packet.specs.declared.stamped.Stamped.{Stamped}
use Rattle.q_model.specs.Node.{Discipline, Fifo, Prio, Tbf, Drr, FqCodel, Own, Node, from_below}

-- this time where there is a packet, else 0
abbrev pub since_of : Option Descriptor → ℕ → ℕ
since_of None at = 0
since_of (Some p) at = at

-- the first of these times that is there
abbrev pub first_since : List (Option ℕ) → Option ℕ
first_since times =
    option_and_then (λ (o : Option ℕ). o) (slice_get times (position_or_len (λ (o : Option ℕ). is_some o) times))

-- where this is so of each child
abbrev pub since_in : List (Option ℕ) → Discipline → Option ℕ
since_in below (Fifo limit queue) = option_map (λ (s : Stamped). s.at) (slice_get queue 0)
since_in below (Prio priomap) = first_since below
since_in below (Tbf bucket limit) = None
since_in below (Drr s) = None
since_in below (FqCodel s) = None

abbrev pub since_own : Own → List (Option ℕ) → Option ℕ
since_own own below = option_map_or (λ (p : Descriptor). Some own.since) own.held (since_in below own.discipline)

abbrev pub at_hand_since : {M : Type 0} → Node M → Option ℕ
at_hand_since n = from_below since_own n

-- When packets arrived: the earliest of some times, and when the packets in front of flows did.
-- A packet's sojourn time is counted from its arrival (RFC 8289, section 3.1).
use Rattle.std.specs.Prelude.{ℕ, min, List, [], ◌∷◌, Option, Some, None, option_map, slice_get}
use Rattle.std.specs.List.{flat_map}
use Rattle.std.specs.Option.{option_to_list}
use Rattle.q_packet.specs.declared.stamped.Stamped.{Stamped}
use Rattle.q_fqcodel.specs.FqState.{Flow}

-- the earlier of two times, each of which may not be there
abbrev pub earlier : Option ℕ → Option ℕ → Option ℕ
earlier None b = b
earlier (Some x) None = Some x
earlier (Some x) (Some y) = Some (min x y)

-- the earliest of all these times; None of none
abbrev pub earliest : List ℕ → Option ℕ
earliest [] = None
earliest (t ∷ ts) = earlier (Some t) (earliest ts)

-- when the first packet of a queue arrived
abbrev pub first_arrival : List Stamped → Option ℕ
first_arrival queue = option_map (λ (s : Stamped). s.at) (slice_get queue 0)

-- the same of each flow that is not empty
abbrev pub first_arrivals : List Flow → List ℕ
first_arrivals flows = flat_map (λ (f : Flow). option_to_list (first_arrival f.queue)) flows

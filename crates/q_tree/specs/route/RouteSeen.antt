-- What a contract sees of a route of the code: the path that the packet goes, and its length, which the counters need to know.
-- Nothing here is of a standard.
use Rattle.std.specs.Prelude.{ℕ, List, [], Option, Some, None}
use Rattle.q_packet.specs.Descriptor.{Descriptor}
use Rattle.q_model.specs.Node.{Node}
use Rattle.q_model.specs.Route.{Route, device_route}
use Rattle.q_packet.specs.declared.cause.Cause.{Cause}
use Rattle.q_packet.specs.declared.cause.Cause.TheVariants.{TooLong}

pub record RouteSeen : Type 0 where
  pub len : ℕ
  pub route : Option Route

-- the route of a packet
abbrev pub route_seen : {M : Type 0} → Descriptor → ℕ → Node M → RouteSeen
route_seen p mtu root = record { len = p.len; route = device_route p mtu root }

-- the place of the child at each node on the path; one that is longer than the mtu goes nowhere
abbrev pub path_seen : Option Route → List ℕ
path_seen None = []
path_seen (Some route) = route.path

-- why the packet is refused, if it is
abbrev pub refusal_seen : Option Route → Option Cause
refusal_seen None = Some TooLong
refusal_seen (Some route) = route.refusal

-- Where a packet that arrives at a node goes, as the node's discipline decides it, and the path that follows from it.
-- tc-prio(8), tc-drr(8), tc-tbf(8), tc-pfifo(8), tc-fq_codel(8).
use Rattle.std.specs.Prelude.{ℕ, nat_lt, if◌then◌else◌, List, Option, Some, None}
use Rattle.q_packet.specs.declared.cause.Cause.TheVariants.{NoClass}
use Rattle.q_model.specs.Route.{Route, ends, refused, through}
use Rattle.q_tree.specs.declared.route.choice.Choice.{Choice}
use Rattle.q_tree.specs.declared.route.choice.Choice.TheVariants.{Here, Child, Refused}

-- the path from the node, given that from each of its children
abbrev pub along : List Route → Choice → Route
along below Here = ends
along below (Child i) = through below i
along below (Refused cause) = refused cause

-- the child in this place, of so many: a packet for which there is none is refused
abbrev pub child_of : ℕ → ℕ → Choice
child_of count i = if nat_lt i count then Child i else Refused NoClass

-- the class in the place that was found, of so many, or none
abbrev pub drr_choice : ℕ → Option ℕ → Choice
drr_choice count None = Refused NoClass
drr_choice count (Some i) = child_of count i

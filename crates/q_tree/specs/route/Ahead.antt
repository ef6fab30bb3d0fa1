-- A route that goes on from where another one ends, and what nodes side by side have of routes and depths.
-- Routes are those of tc's filters and classes (tc(8)), as specs/Route.antt of q_model has them.
use Rattle.std.specs.Prelude.{ℕ, List, ◌++◌, map}
use Rattle.q_packet.specs.Descriptor.{Descriptor}
use Rattle.q_model.specs.Find.{depth}
use Rattle.q_model.specs.Node.{Node}
use Rattle.q_model.specs.Route.{Route, route}

abbrev pub ahead : List ℕ → Route → Route
ahead path r = record { path = path ++ r.path; refusal = r.refusal }

-- the routes from each of these nodes, and their depths
abbrev pub ways : {M : Type 0} → Descriptor → List (Node M) → List Route
ways p ns = map (route p) ns

abbrev pub depths : {M : Type 0} → List (Node M) → List ℕ
depths ns = map depth ns

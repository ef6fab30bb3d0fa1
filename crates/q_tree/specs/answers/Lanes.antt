-- A fifo whose packets no other packet passes, in a tree with a tbf at the root or none: at the root, in the child of that tbf, or in the
-- first band of a prio that is such a place itself. tc-pfifo(8) and tc-bfifo(8) have the limits, and tc-prio(8) says that a band goes
-- before those behind it.
use Rattle.std.specs.Prelude.{ℕ, Bool, true, false, ◌&&◌, ◌==◌, if◌then◌else◌, List, [], ◌∷◌, Option, Some, None, option_map, option_and_then, slice_get}
use Rattle.q_bucket.specs.Level.{level_at}
use Rattle.q_codel.specs.declared.limit.Limit.{Limit}
use Rattle.q_model.specs.declared.place.Place.{Place}
use Rattle.q_model.specs.Find.{place_path}
use Rattle.q_model.specs.Node.{Discipline, Fifo, Prio, Tbf, Drr, FqCodel, Node, children}
use Rattle.q_tree.specs.declared.answers.lanes.Lane.{Lane}
use Rattle.q_tree.specs.declared.answers.ways.Link.{Link}
use Rattle.q_tree.specs.answers.Ways.{has_tbf}

abbrev pub is_prio : Discipline → Bool
is_prio (Prio priomap) = true
is_prio (Fifo limit queue) = false
is_prio (Tbf bucket limit) = false
is_prio (Drr s) = false
is_prio (FqCodel s) = false

-- the limit of a fifo
abbrev pub limit_of : Discipline → Option Limit
limit_of (Fifo limit queue) = Some limit
limit_of (Prio priomap) = None
limit_of (Tbf bucket most) = None
limit_of (Drr s) = None
limit_of (FqCodel s) = None

-- that of the fifo at the end of a path down, if that leads through first bands alone
abbrev pub limit_along : {M : Type 0} → List ℕ → Node M → Option Limit
limit_along [] n = limit_of n.own.discipline
limit_along (i ∷ path) n = if i == 0 && is_prio n.own.discipline then option_and_then (limit_along path) (slice_get (children n) i) else None

-- from a node down that no tbf is to be below
abbrev pub lane_below : {M : Type 0} → Option Link → List ℕ → Node M → Option Lane
lane_below link path n = if has_tbf n then None else option_map (λ limit. record { link = link; limit = limit }) (limit_along path n)

abbrev pub lane_from : {M : Type 0} → List ℕ → Node M → Discipline → Option Lane
lane_from [] n (Tbf b limit) = None
lane_from (i ∷ path) n (Tbf b limit) =
    option_and_then (λ handle. option_and_then (lane_below (Some (record { handle = handle; rate = b.rate; burst = b.burst })) path) (slice_get (children n) i)) n.own.handle
lane_from path n (Fifo limit queue) = lane_below None path n
lane_from path n (Prio priomap) = lane_below None path n
lane_from path n (Drr s) = lane_below None path n
lane_from path n (FqCodel s) = lane_below None path n

-- the fifo in this place, if its packets are passed by no other
abbrev pub lane_to : {M : Type 0} → Place → Node M → Option Lane
lane_to place n = option_and_then (λ path. lane_from path n n.own.discipline) (place_path place n)

-- the level at this time of the bucket of a tbf
abbrev pub level_of : ℕ → Discipline → Option ℕ
level_of now (Tbf bucket limit) = Some (level_at bucket now)
level_of now (Fifo limit queue) = None
level_of now (Prio priomap) = None
level_of now (Drr s) = None
level_of now (FqCodel s) = None

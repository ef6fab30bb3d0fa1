-- What the arrival of a packet comes to at one node: a place is made where its route ends, if it is queued there, and the packet is
-- put along that route. tc-prio(8), tc-drr(8), tc-tbf(8), tc-pfifo(8), tc-fq_codel(8).
use Rattle.std.specs.Prelude.{◌≡◌, ℕ, ◌<◌, ◌≤◌, true, length, List, [], ◌∷◌, map, slice_get, Option, Some, None, IfSome, IfOk, IsOk, OnErr, Result, if◌then◌else◌}
use Rattle.std.specs.declared.alloc.AllocError.{AllocError}
use Rattle.q_packet.specs.Descriptor.{Descriptor}
use Rattle.q_packet.specs.declared.cause.Cause.{Cause}
use Rattle.q_packet.specs.declared.cause.Cause.TheVariants.{FatFlow}
use Rattle.q_codel.specs.FifoState.{takes}
use Rattle.q_codel.specs.Losses.{AreLost, SinkState}
use Rattle.q_fqcodel.specs.FqState.{FqState}
use Rattle.q_fqcodel.specs.Put.{after_put, is_lost_itself, lost_by_put}
use Rattle.q_model.specs.declared.filter.Filter.{Filter}
use Rattle.q_model.specs.Beneath.{packets_of, totals_in}
use Rattle.q_model.specs.Node as spec
use Rattle.q_model.specs.Node.{shape}
use Rattle.q_model.specs.Numbers.{IsWithin}
use Rattle.q_model.specs.Put.{put_along}
use Rattle.q_model.specs.Route.{Route, route, way}
use Rattle.q_model.specs.Tally.{Note, with_packet, no_totals}
use Rattle.q_model.specs.TreeState.{loss_at_end, loss_on, put_on}
use Rattle.q_model.specs.Work.{booked}
use Rattle.q_invariants.specs.Kept.{IsLawfulRoot}
use Rattle.q_tree.specs.arrival.Arrivals.{CanCount, CanPut, HasPlace, HasPlaceIn, IsOutcome}
use Rattle.q_tree.specs.arrival.Places.{unplaced, places_at, places_under, HasPlaceAt}
use Rattle.q_tree.specs.arrival.PutSteps.{CanFlow, IsQueued, IsPutInto, rises_here}
use Rattle.q_tree.specs.departure.AskSteps.{IsToldOf, own_of}
use Rattle.q_tree.specs.Kept.{Kept, kept}
use Rattle.q_tree.specs.route.Ahead.{ways}
use Rattle.q_tree.specs.Seen.{discipline_seen, children_seen, places_seen}
use Rattle.q_tree.specs.TreeSeen.{IsArrived}
use Rattle.q_tree.specs.declared.node.Discipline.{Discipline}
use Rattle.q_tree.specs.declared.arrival.outcome.Outcome.{Outcome}

-- nothing was lost for a packet
abbrev pub nothing_lost : Outcome
nothing_lost = record { loss = None; refused = no_totals; dropped = no_totals }

-- A packet that was put into its flow of an fq_codel: what the flows hold then, what is counted of it, and which losses the sink got.
-- Over the limit it may be lost itself, or packets of the fattest flow are; it is never refused.
pub record IsPutInFlow (now : ℕ) (p : Descriptor) (old new : FqState) (o : Outcome) (sink sink_after : SinkState) : Type 0 where
  pub after : new ≡ after_put old p now
  pub loss : o.loss ≡ (if is_lost_itself old p now then Some FatFlow else None)
  pub refused : o.refused ≡ no_totals
  pub dropped : o.dropped ≡ totals_in (packets_of (lost_by_put old p now))
  pub told : AreLost FatFlow (lost_by_put old p now) sink sink_after

-- a packet can arrive at the node: the tree is lawful at `now`, where no packet is longer than some mtu, and the counters have room
pub record CanCome (now : ℕ) (p : Descriptor) (n : spec.Node Kept) : Type 0 where
  pub mtu : ℕ
  pub fits : IsWithin 1 mtu p.len
  pub lawful : IsLawfulRoot mtu now n
  pub counts : CanCount n.memory.counts.arrived p

-- a fifo takes a packet of this length, and has a place for it
abbrev pub CanKeepIn : ℕ → ℕ → spec.Discipline → Type 0
CanKeepIn len places (spec.Fifo limit packets) = (takes limit packets len ≡ true) × (length packets < places)
CanKeepIn len places (spec.FqCodel s) = ⊥
CanKeepIn len places (spec.Prio priomap) = ⊥
CanKeepIn len places (spec.Tbf bucket limit) = ⊥
CanKeepIn len places (spec.Drr s) = ⊥

abbrev pub CanKeep : ℕ → spec.Node Kept → Type 0
CanKeep len n = CanKeepIn len n.memory.places n.own.discipline

-- and at a discipline: its own fq_codel, or each of its children, can take the packet
pub record CanComeIn (now : ℕ) (p : Descriptor) (d : Discipline) : Type 0 where
  pub flow : (s : FqState) → discipline_seen d ≡ spec.FqCodel s → CanFlow p s
  pub child : (i : ℕ) (c : spec.Node Kept) → slice_get (children_seen d) i ≡ Some c → CanCome now p c

-- places were made, and nothing else has changed: in a node, and in a discipline with its children
pub record IsPlaced (before after : spec.Node Kept) : Type 0 where
  pub same : unplaced after ≡ unplaced before
  pub grows : (way : List ℕ) → places_at way before ≤ places_at way after

pub record IsPlacedIn (before after : Discipline) : Type 0 where
  pub discipline : discipline_seen after ≡ discipline_seen before
  pub children : map unplaced (children_seen after) ≡ map unplaced (children_seen before)
  pub places : places_seen before ≤ places_seen after
  pub grows : (way : List ℕ) (i : ℕ) → places_under way i (children_seen before) ≤ places_under way i (children_seen after)

-- what is reported of the packet's losses above the node
abbrev pub rises_along : ℕ → Descriptor → spec.Node Kept → List Note
rises_along now p n = (put_along now p (route p n).refusal (route p n).path (shape n)).rises

-- what a step of an arrival comes to: the packet came, and this is lost for it; or no place could be made, and nothing is lost
pub record HasArrived (result : Result Outcome AllocError) (Came : Outcome → Type 0) (Placed HasRoom : Type 0) (lost : Outcome) (sink sink_after : SinkState) : Type 0 where
  pub after : IfOk result Came
  pub same : OnErr result Placed
  pub not_lost : OnErr result (sink_after ≡ sink)
  pub succeeds : HasRoom → IsOk result
  pub lost_is : IfOk result (λ outcome. lost ≡ outcome)

-- the packet came to the node: once its place was made, it was put along its route; where the place was there, nothing was made
pub record HasCome (now : ℕ) (p : Descriptor) (before after : spec.Node Kept) (o : Outcome) : Type 0 where
  pub placed : spec.Node Kept
  pub is_placed : IsPlaced before placed
  pub can : CanPut now p (route p before).path (route p before).refusal placed
  pub becomes : after ≡ booked kept placed (put_along now p (route p before).refusal (route p before).path (shape placed)).node
  pub arrived : after.memory.counts.arrived ≡ with_packet placed.memory.counts.arrived p
  pub outcome : IsOutcome (loss_at_end now p (shape placed) (route p before)) (put_along now p (route p before).refusal (route p before).path (shape placed)).rises o
  pub in_place : ((route p before).refusal ≡ None → HasPlace (route p before).path before) → placed ≡ before

-- the path from a discipline that has these filters
abbrev pub way_in : Descriptor → List Filter → Discipline → Route
way_in p filters d = way p (own_of None filters (discipline_seen d)) (ways p (children_seen d)) (discipline_seen d)

-- there is a place at the end of a path from a discipline
abbrev pub HasPlaceOn : List ℕ → Discipline → Type 0
HasPlaceOn [] d = HasPlaceIn (places_seen d) (discipline_seen d)
HasPlaceOn (i ∷ rest) d = HasPlaceAt rest i (children_seen d)

-- the path ends in a discipline: the packet is queued in its own list, or refused
pub record HasEnded (now : ℕ) (p : Descriptor) (refusal : Option Cause) (placed after : Discipline) (o : Outcome) (notes : List Note) : Type 0 where
  pub place : refusal ≡ None → HasPlaceIn (places_seen placed) (discipline_seen placed)
  pub queued : IsQueued now p refusal placed after o
  pub notes_are : notes ≡ rises_here now p refusal (discipline_seen placed)

-- or it goes on: the packet was put into the child
pub record HasGone (now : ℕ) (p : Descriptor) (refusal : Option Cause) (i : ℕ) (rest : List ℕ) (placed after : Discipline) (o : Outcome) (notes : List Note) : Type 0 where
  pub child : spec.Node Kept
  pub there : slice_get (children_seen placed) i ≡ Some child
  pub place : refusal ≡ None → HasPlace rest child
  pub put : IsPutInto now p refusal rest i placed after child o
  pub notes_are : notes ≡ (put_along now p refusal rest (shape child)).rises

abbrev pub IsPutOn : ℕ → Descriptor → Option Cause → List ℕ → Discipline → Discipline → Outcome → List Note → Type 0
IsPutOn now p refusal [] placed after o notes = HasEnded now p refusal placed after o notes
IsPutOn now p refusal (i ∷ rest) placed after o notes = HasGone now p refusal i rest placed after o notes

-- no place was made in a discipline
pub record IsAsPlaced (before after : Discipline) : Type 0 where
  pub children : children_seen after ≡ children_seen before
  pub places : places_seen after ≡ places_seen before

-- the packet came to a discipline, and a sink got its losses
pub record HasComeIn (now : ℕ) (p : Descriptor) (filters : List Filter) (before after : Discipline) (o : Outcome) (sink sink_after : SinkState) : Type 0 where
  pub placed : Discipline
  pub is_placed : IsPlacedIn before placed
  pub notes : List Note
  pub put : IsPutOn now p (way_in p filters before).refusal (way_in p filters before).path placed after o notes
  pub told : IsToldOf notes sink sink_after
  pub in_place : ((way_in p filters before).refusal ≡ None → HasPlaceOn (way_in p filters before).path before) → IsAsPlaced before placed

-- the packet came to the root, or was refused above it
pub record HasComeBelow (now : ℕ) (p : Descriptor) (r : Option Route) (before after : spec.Node Kept) (o : Outcome) : Type 0 where
  pub placed : spec.Node Kept
  pub is_placed : IsPlaced before placed
  pub place : IfSome r (λ (x : Route). x.refusal ≡ None → HasPlace x.path placed)
  pub becomes : after ≡ booked kept placed (put_on now p r (shape placed)).node
  pub arrived : IsArrived p placed after
  pub outcome : IsOutcome (loss_on now p r (shape placed)) (put_on now p r (shape placed)).rises o
  pub in_place : IfSome r (λ (x : Route). x.refusal ≡ None → HasPlace x.path before) → placed ≡ before

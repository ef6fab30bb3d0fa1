-- What an arrival comes to that is kept with nothing lost and no place made, at one node and in its discipline.
-- tc-prio(8), tc-tbf(8), tc-drr(8), tc-pfifo(8).
use Rattle.std.specs.Prelude.{◌≡◌, ℕ, ◌<◌, ◌+◌, ◌*◌, ◌^◌, List, [], ◌∷◌, Option, None, Some, option_and_then, slice_get}
use Rattle.q_packet.specs.Descriptor.{Descriptor}
use Rattle.q_codel.specs.Losses.{SinkState}
use Rattle.q_model.specs.declared.filter.Filter.{Filter}
use Rattle.q_model.specs.Find.{node_at}
use Rattle.q_model.specs.Node as spec
use Rattle.q_model.specs.Route.{route}
use Rattle.q_tree.specs.arrival.Arrivals.{HasPlace}
use Rattle.q_tree.specs.arrival.ArriveSteps.{CanKeep, HasCome, HasComeIn, HasPlaceOn, nothing_lost, rises_along, way_in}
use Rattle.q_tree.specs.Bursts.{with_arrivals}
use Rattle.q_tree.specs.departure.AskSteps.{IsToldOf}
use Rattle.q_tree.specs.Kept.{Kept}
use Rattle.q_tree.specs.Seen.{IsKept, children_seen, seen}
use Rattle.q_tree.specs.declared.node.Node.TheInside.{Inside}
use Rattle.q_invariants.specs.Kept.{IsLawfulRoot}
use Rattle.q_model.specs.Beneath.{totals_in}
use Rattle.q_tree.specs.declared.node.Discipline.{Discipline}

-- a sink that takes no loss: what is told to it is nothing
abbrev pub no_sink : SinkState
no_sink = record { losses = []; room = 0 }

-- the packet came to the node, whose route ends in a queue with a place for it
pub record IsKeptAlong (now : ℕ) (p : Descriptor) (before after : spec.Node Kept) : Type 0 where
  pub come : HasCome now p before after nothing_lost
  pub told : IsToldOf (rises_along now p before) no_sink no_sink
  pub passes : (route p before).refusal ≡ None
  pub place : HasPlace (route p before).path before

-- and to a discipline with these filters
pub record IsKeptIn (now : ℕ) (p : Descriptor) (filters : List Filter) (before after : Discipline) : Type 0 where
  pub come : HasComeIn now p filters before after nothing_lost no_sink no_sink
  pub passes : (way_in p filters before).refusal ≡ None
  pub place : HasPlaceOn (way_in p filters before).path before

-- So it comes wherever the route of the packet ends in a fifo that takes it and has a place for it: at the node or below,
pub record CanBeKept (p : Descriptor) (n : spec.Node Kept) : Type 0 where
  pub passes : (route p n).refusal ≡ None
  pub end : spec.Node Kept
  pub there : node_at (route p n).path n ≡ Some end
  pub fifo : CanKeep p.len end

-- or below alone,
abbrev pub node_below : List ℕ → spec.Node Kept → Option (spec.Node Kept)
node_below [] n = None
node_below (i ∷ rest) n = node_at (i ∷ rest) n

pub record CanBeKeptBelow (p : Descriptor) (n : spec.Node Kept) : Type 0 where
  pub passes : (route p n).refusal ≡ None
  pub end : spec.Node Kept
  pub there : node_below (route p n).path n ≡ Some end
  pub fifo : CanKeep p.len end

-- and below a discipline with these filters.
abbrev pub node_under : List ℕ → Discipline → Option (spec.Node Kept)
node_under [] d = None
node_under (i ∷ rest) d = option_and_then (node_at rest) (slice_get (children_seen d) i)

pub record CanBeKeptIn (p : Descriptor) (filters : List Filter) (d : Discipline) : Type 0 where
  pub passes : (way_in p filters d).refusal ≡ None
  pub end : spec.Node Kept
  pub there : node_under (way_in p filters d).path d ≡ Some end
  pub fifo : CanKeep p.len end

-- such packets came one after another
abbrev pub AreKeptAlong : ℕ → List Descriptor → spec.Node Kept → spec.Node Kept → Type 0
AreKeptAlong now [] before after = after ≡ before
AreKeptAlong now (p ∷ ps) before after = (mid : spec.Node Kept) × IsKeptAlong now p before mid × AreKeptAlong now ps mid after

-- so many packets, none longer than the mtu, can come to the node: the tree is lawful at `now`, and the counters have room
pub record CanComeMany (now mtu count : ℕ) (n : spec.Node Kept) : Type 0 where
  pub lawful : IsLawfulRoot mtu now n
  pub packets : n.memory.counts.arrived.packets + count < 2 ^ 64
  pub bytes : n.memory.counts.arrived.bytes + count * 65535 < 2 ^ 64

-- A node of which the discipline has kept these packets, and which has not counted them yet: counted together, they came one after another.
pub record AreKeptBelow (now mtu : ℕ) (ps : List Descriptor) (a : Inside) (d : Discipline) : Type 0 where
  pub lawful : IsLawfulRoot mtu now (seen (record a { row = with_arrivals (totals_in ps) a.row; discipline = d }))
  pub kept : IsKept (record a { row = with_arrivals (totals_in ps) a.row; discipline = d })
  pub along : AreKeptAlong now ps (seen a) (seen (record a { row = with_arrivals (totals_in ps) a.row; discipline = d }))

-- this is the node of the discipline
pub record IsKeeping (now mtu count : ℕ) (filters : List Filter) (d : Discipline) (a : Inside) : Type 0 where
  pub can : CanComeMany now mtu count (seen a)
  pub kept : IsKept a
  pub discipline : a.discipline ≡ d
  pub filters_are : a.filters ≡ filters

-- there is such a node
pub record CanKeepEach (now mtu count : ℕ) (filters : List Filter) (d : Discipline) : Type 0 where
  pub node : Inside
  pub is : IsKeeping now mtu count filters d node

-- What asking a node for its packet comes to: what it shows and what is counted for that, and what its discipline and its
-- children are then. tc-prio(8), tc-tbf(8), tc-drr(8), tc-fq_codel(8).
use Rattle.std.specs.Prelude.{◌≡◌, ℕ, ◌<◌, ◌≤◌, ◌^◌, ◌+◌, ◌++◌, length, List, map, set, Option, None}
use Rattle.std.specs.List.{All}
use Rattle.q_packet.specs.Descriptor.{Descriptor}
use Rattle.q_codel.specs.Losses.{IsTold, SinkState}
use Rattle.q_model.specs.declared.filter.Filter.{Filter}
use Rattle.q_model.specs.declared.row.Row.{Row}
use Rattle.q_model.specs.declared.totals.Totals.{Totals}
use Rattle.q_model.specs.Ask.{Asked, ask, ask_discipline}
use Rattle.q_model.specs.Beneath.{beneath, is_empty, packets_in, totals_in}
use Rattle.q_model.specs.Lawful.{IsLawfulDiscipline}
use Rattle.q_model.specs.Node as spec
use Rattle.q_model.specs.Node.{Own, shape, side_by_side}
use Rattle.q_model.specs.Pop.{pop}
use Rattle.q_model.specs.Step.{losses_in}
use Rattle.q_model.specs.Tally.{Note, counts_in, no_totals}
use Rattle.q_model.specs.Work.{booked, each_booked, settled_class}
use Rattle.q_drr.specs.Schedule as drr
use Rattle.q_drr.specs.Schedule.{Schedule}
use Rattle.q_invariants.specs.Kept.{AreLawful, IsLawfulRoot}
use Rattle.q_tree.specs.arrival.Arrivals.{plus, minus}
use Rattle.q_tree.specs.arrival.PutSteps.{packets_beneath}
use Rattle.q_tree.specs.Kept.{Kept, kept}
use Rattle.q_tree.specs.Seen.{discipline_seen, children_seen, places_seen, IsCountedWithin}
use Rattle.q_tree.specs.declared.node.Discipline.{Discipline}
use Rattle.q_tree.specs.departure.Shown.{Shown}
use Rattle.q_tree.specs.declared.departure.signals.Signals.{Signals}

-- a node that can be asked: the tree is lawful at `now`, where no packet is longer than some mtu
pub record CanAsk (now : ℕ) (n : spec.Node Kept) : Type 0 where
  pub mtu : ℕ
  pub least : 1 ≤ mtu
  pub moment : now ≤ 2 ^ 62
  pub lawful : IsLawfulRoot mtu now n

-- Nodes side by side that can be asked: what is queued there fits the counters.
pub record CanAskEach (now : ℕ) (ns : List (spec.Node Kept)) : Type 0 where
  pub mtu : ℕ
  pub least : 1 ≤ mtu
  pub moment : now ≤ 2 ^ 62
  pub lawful : AreLawful mtu now ns
  pub packets : length (packets_beneath ns) < 2 ^ 64
  pub bytes : (totals_in (packets_beneath ns)).bytes < 2 ^ 64

-- the classes of a drr with this schedule, one node for each
pub record CanServe (now : ℕ) (s : Schedule) (ns : List (spec.Node Kept)) : Type 0 where
  pub each : CanAskEach now ns
  pub schedule : drr.IsLawful s
  pub longest : s.max_len ≡ each.mtu
  pub same : length ns ≡ length s.classes

-- what is queued in a discipline's own lists and below it
abbrev pub packets_within : Discipline → List Descriptor
packets_within d = packets_in (discipline_seen d) ++ packets_beneath (children_seen d)

pub record CanAskIn (now : ℕ) (d : Discipline) : Type 0 where
  pub mtu : ℕ
  pub least : 1 ≤ mtu
  pub moment : now ≤ 2 ^ 62
  pub own : IsLawfulDiscipline mtu now (map beneath (children_seen d)) (discipline_seen d)
  pub lawful : AreLawful mtu now (children_seen d)
  pub packets : length (packets_within d) < 2 ^ 64
  pub bytes : (totals_in (packets_within d)).bytes < 2 ^ 64

abbrev pub answers : ℕ → List (spec.Node Kept) → List Asked
answers now ns = map (λ (n : spec.Node Kept). ask now (shape n)) ns

-- what an answer shows and counts
pub record IsShown (a : Asked) (s : Shown) : Type 0 where
  pub packet : s.packet ≡ a.shown
  pub dropped : s.dropped ≡ (counts_in a.rises).dropped
  pub marked : s.marked ≡ (counts_in a.rises).marked

-- a sink that was told of the losses among these notes
abbrev pub IsToldOf : List Note → SinkState → SinkState → Type 0
IsToldOf rises = IsTold (losses_in rises)

-- children that were asked by this answer, what it came to, and what the sink was told
pub record AreAsked (a : Asked) (before after : List (spec.Node Kept)) (s : Shown) (sink sink_after : SinkState) : Type 0 where
  pub long : length after ≡ length before
  pub nodes : side_by_side after ≡ each_booked kept (side_by_side before) a.peeked.below
  pub within : (t : Totals) → All (λ (child : spec.Node Kept). IsCountedWithin child.memory.counts.arrived t) before
      → All (λ (child : spec.Node Kept). IsCountedWithin child.memory.counts.arrived t) after
  pub shown : IsShown a s
  pub told : IsToldOf a.rises sink sink_after

-- a node that holds no packet
abbrev pub own_of : Option ℕ → List Filter → spec.Discipline → Own
own_of handle filters d = record { handle = handle; discipline = d; held = None; since = 0; filters = filters }

-- what such a node answers, from its discipline
abbrev pub answer_of : ℕ → Option ℕ → List Filter → Discipline → Asked
answer_of now handle filters d = ask_discipline now (own_of handle filters (discipline_seen d)) (answers now (children_seen d)) (discipline_seen d)

pub record IsAskedIn (a : Asked) (before after : Discipline) (s : Shown) (sink sink_after : SinkState) : Type 0 where
  pub discipline : discipline_seen after ≡ a.peeked.own.discipline
  pub children : AreAsked a (children_seen before) (children_seen after) s sink sink_after
  pub places : places_seen after ≡ places_seen before

-- the packet that a node with this discipline holds where it shows this one: those that can hold a packet have dequeued it
abbrev pub held_in : spec.Discipline → Option Descriptor → Option Descriptor
held_in (spec.Fifo limit queue) shown = None
held_in (spec.Prio priomap) shown = None
held_in (spec.Tbf bucket limit) shown = shown
held_in (spec.Drr s) shown = shown
held_in (spec.FqCodel s) shown = shown

-- A node that is asked after others, of which so much was counted: it can be asked, the sink has room, and the counts fit.
pub record CanAskOnce (now : ℕ) (n : spec.Node Kept) (so_far : Shown) (room : ℕ) : Type 0 where
  pub ready : CanAsk now n
  pub sink : length (beneath n) ≤ room
  pub dropped_packets : so_far.dropped.packets + length (beneath n) < 2 ^ 64
  pub dropped_bytes : so_far.dropped.bytes + (totals_in (beneath n)).bytes < 2 ^ 64
  pub marked_packets : so_far.marked.packets + length (beneath n) < 2 ^ 64
  pub marked_bytes : so_far.marked.bytes + (totals_in (beneath n)).bytes < 2 ^ 64

pub record IsAskedOnce (now : ℕ) (before after : spec.Node Kept) (so_far s : Shown) (sink sink_after : SinkState) : Type 0 where
  pub peeked : after ≡ booked kept before (ask now (shape before)).peeked
  pub arrived : after.memory.counts.arrived ≡ before.memory.counts.arrived
  pub packet : s.packet ≡ (ask now (shape before)).shown
  pub dropped : s.dropped ≡ plus so_far.dropped (counts_in (ask now (shape before)).rises).dropped
  pub marked : s.marked ≡ plus so_far.marked (counts_in (ask now (shape before)).rises).marked
  pub told : IsToldOf (ask now (shape before)).rises sink sink_after

-- a class that hands out its packet, and the schedule then
pub record IsGivenBy (place : ℕ) (c : spec.Node Kept) (before after : Schedule) (ns ms : List (spec.Node Kept)) : Type 0 where
  pub classes : ms ≡ set ns place (booked kept c (pop c).after)
  pub schedule : after ≡ settled_class place (is_empty (booked kept c (pop c).after)) before
  pub arrived : (booked kept c (pop c).after).memory.counts.arrived ≡ c.memory.counts.arrived

-- a row once a node was asked
abbrev pub with_shown : Shown → Row → Row
with_shown s r = record r { dropped = plus r.dropped s.dropped; marked = plus r.marked s.marked; queued = minus r.queued s.dropped }

-- what was dropped had been queued, and the counters hold
pub record CanShow (s : Shown) (r : Row) : Type 0 where
  pub arrived_packets : r.arrived.packets < 2 ^ 64
  pub arrived_bytes : r.arrived.bytes < 2 ^ 64
  pub packets : s.dropped.packets ≤ r.queued.packets
  pub bytes : s.dropped.bytes ≤ r.queued.bytes
  pub marked_packets : r.marked.packets + s.marked.packets < 2 ^ 64
  pub marked_bytes : r.marked.bytes + s.marked.bytes < 2 ^ 64

-- nothing was dropped, and nothing was marked
abbrev pub no_signals : Signals
no_signals = record { dropped = no_totals; marked = no_totals }

-- what was dropped and marked where nodes were asked
abbrev pub signals_of : Shown → Signals
signals_of s = record { dropped = s.dropped; marked = s.marked }

-- what is to be asked is ready, the sink has room for what is queued there, and nothing is counted yet
pub record CanBegin (Ready : Type 0) (queued room : ℕ) (counted : Signals) : Type 0 where
  pub ready : Ready
  pub sink : queued ≤ room
  pub clean : counted ≡ no_signals

-- A node that was asked for its packet: what the node is then, what is in the caller's place for the counts, what was shown, and what
-- the sink was told.
pub record IsPeeked (now : ℕ) (old new : spec.Node Kept) (counted : Signals) (s : Shown) (sink sink_after : SinkState) : Type 0 where
  pub after : new ≡ booked kept old (ask now (shape old)).peeked
  pub arrived : new.memory.counts.arrived ≡ old.memory.counts.arrived
  pub shown : IsShown (ask now (shape old)) s
  pub signals : counted ≡ signals_of s
  pub told : IsToldOf (ask now (shape old)).rises sink sink_after

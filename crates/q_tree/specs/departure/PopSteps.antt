-- What popping comes to at one node: what its bands, its discipline and its row are then.
-- tc-prio(8); the counters are those of `tc -s qdisc show` (tc(8)).
use Rattle.std.specs.Prelude.{◌≡◌, ◌<◌, ◌≤◌, List, [], map, length, None}
use Rattle.std.specs.List.{All}
use Rattle.q_packet.specs.Descriptor.{Descriptor}
use Rattle.q_model.specs.declared.row.Row.{Row}
use Rattle.q_model.specs.declared.totals.Totals.{Totals}
use Rattle.q_model.specs.Node as spec
use Rattle.q_model.specs.Node.{side_by_side}
use Rattle.q_model.specs.Pop.{Popping, first_ready, popped_at, pop_discipline, pop}
use Rattle.q_model.specs.Tally.{with_packet, no_totals}
use Rattle.q_model.specs.Work.{each_booked}
use Rattle.q_tree.specs.arrival.Arrivals.{minus}
use Rattle.q_tree.specs.departure.AskSteps.{own_of}
use Rattle.q_tree.specs.Kept.{Kept, kept}
use Rattle.q_tree.specs.Seen.{discipline_seen, children_seen, places_seen, IsCountedWithin}
use Rattle.q_tree.specs.declared.node.Discipline.{Discipline}

-- the bands of a prio, of which the first that had a packet at hand has handed it out
pub record ArePopped (before after : List (spec.Node Kept)) : Type 0 where
  pub long : length after ≡ length before
  pub nodes : side_by_side after ≡ each_booked kept (side_by_side before) (side_by_side (popped_at (first_ready (map pop before)) (map pop before)))
  pub within : (t : Totals) → All (λ (child : spec.Node Kept). IsCountedWithin child.memory.counts.arrived t) before
      → All (λ (child : spec.Node Kept). IsCountedWithin child.memory.counts.arrived t) after

-- what a node with this discipline has at hand that holds no packet, and what is left of it
abbrev pub popping_of : Discipline → Popping
popping_of d = pop_discipline (own_of None [] (discipline_seen d)) (map pop (children_seen d)) (discipline_seen d)

-- a fifo that has a packet, and holds none
abbrev pub HasHeadIn : spec.Discipline → Type 0
HasHeadIn (spec.Fifo limit packets) = 0 < length packets
HasHeadIn (spec.FqCodel s) = ⊥
HasHeadIn (spec.Prio priomap) = ⊥
HasHeadIn (spec.Tbf bucket limit) = ⊥
HasHeadIn (spec.Drr s) = ⊥

pub record HasHead (n : spec.Node Kept) : Type 0 where
  pub free : n.own.held ≡ None
  pub head : HasHeadIn n.own.discipline
  pub alone : n.below ≡ spec.none

pub record IsPoppedIn (before after : Discipline) : Type 0 where
  pub discipline : discipline_seen after ≡ (popping_of before).after.own.discipline
  pub children : side_by_side (children_seen after) ≡ each_booked kept (side_by_side (children_seen before)) (popping_of before).after.below
  pub within : (t : Totals) → All (λ (child : spec.Node Kept). IsCountedWithin child.memory.counts.arrived t) (children_seen before)
      → All (λ (child : spec.Node Kept). IsCountedWithin child.memory.counts.arrived t) (children_seen after)
  pub places : places_seen after ≡ places_seen before

-- a row once the packet was sent
abbrev pub with_sent : Descriptor → Row → Row
with_sent p r = record r { sent = with_packet r.sent p; queued = minus r.queued (with_packet no_totals p) }

-- the packet is among those that are queued
pub record IsAmong (p : Descriptor) (queued : Totals) : Type 0 where
  pub packets : 1 ≤ queued.packets
  pub bytes : p.len ≤ queued.bytes

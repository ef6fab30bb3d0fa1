-- What a node has to be so that a packet can be put into it, and what putting it comes to.
-- The counters are those of `tc -s qdisc show` (tc(8)); that they fit 64 bits is asked of the one node whose are greatest.
use Rattle.std.specs.Prelude.{◌≡◌, ℕ, ◌<◌, ◌≤◌, ◌^◌, ◌+◌, ◌-◌, List, length, Option, None}
use Rattle.std.specs.Prelude.{IfSome}
use Rattle.q_packet.specs.Descriptor.{Descriptor}
use Rattle.q_packet.specs.declared.cause.Cause.{Cause}
use Rattle.q_fqcodel.specs.FqState.{packets_of}
use Rattle.q_model.specs.declared.row.Row.{Row}
use Rattle.q_model.specs.declared.totals.Totals.{Totals}
use Rattle.q_model.specs.Find.{node_at}
use Rattle.q_model.specs.Node as spec
use Rattle.q_model.specs.Numbers.{IsWithin}
use Rattle.q_model.specs.Route.{route}
use Rattle.q_model.specs.Tally.{Note, with_packet, counts_in}
use Rattle.q_invariants.specs.Kept.{IsLawfulRoot}
use Rattle.q_tree.specs.Kept.{Kept}
use Rattle.q_tree.specs.declared.arrival.outcome.Outcome.{Outcome}

-- the packet still fits the counters
pub record CanCount (t : Totals) (p : Descriptor) : Type 0 where
  pub packets : t.packets + 1 < 2 ^ 64
  pub bytes : t.bytes + p.len < 2 ^ 64

-- a queue of its own has a place for one packet more
abbrev pub HasPlaceIn : ℕ → spec.Discipline → Type 0
HasPlaceIn places (spec.Fifo limit queue) = length queue < places
HasPlaceIn places (spec.FqCodel s) = packets_of s.flows < places
HasPlaceIn places (spec.Prio priomap) = Unit {0}
HasPlaceIn places (spec.Tbf bucket limit) = Unit {0}
HasPlaceIn places (spec.Drr s) = Unit {0}

-- and so has the queue where the path ends
abbrev pub HasPlace : List ℕ → spec.Node Kept → Type 0
HasPlace path n = IfSome (node_at path n) (λ (end : spec.Node Kept). HasPlaceIn end.memory.places end.own.discipline)

-- a packet can be put along this path: it is the packet's path, the tree is lawful at `now`, the place is there where it is
-- not refused, and the counters do not overflow
pub record CanPut (now : ℕ) (p : Descriptor) (path : List ℕ) (refusal : Option Cause) (n : spec.Node Kept) : Type 0 where
  pub mtu : ℕ
  pub fits : IsWithin 1 mtu p.len
  pub lawful : IsLawfulRoot mtu now n
  pub way : route p n ≡ record { path = path; refusal = refusal }
  pub place : refusal ≡ None → HasPlace path n
  pub counts : CanCount n.memory.counts.arrived p

-- what was lost, among these notes
pub record IsOutcome (cause : Option Cause) (notes : List Note) (o : Outcome) : Type 0 where
  pub loss : o.loss ≡ cause
  pub refused : o.refused ≡ (counts_in notes).refused
  pub dropped : o.dropped ≡ (counts_in notes).dropped

abbrev pub plus : Totals → Totals → Totals
plus t u = record { packets = t.packets + u.packets; bytes = t.bytes + u.bytes }

abbrev pub minus : Totals → Totals → Totals
minus t u = record { packets = t.packets - u.packets; bytes = t.bytes - u.bytes }

-- no more was lost than waited, and the packet that came
pub record IsLostOf (p : Descriptor) (o : Outcome) (queued : Totals) : Type 0 where
  pub packets : o.refused.packets + o.dropped.packets ≤ queued.packets + 1
  pub bytes : o.refused.bytes + o.dropped.bytes ≤ queued.bytes + p.len

-- a row once the packet has arrived
abbrev pub with_arrival : Descriptor → Outcome → Row → Row
with_arrival p o r = record {
  arrived = with_packet r.arrived p;
  sent = r.sent;
  refused = plus r.refused o.refused;
  dropped = plus r.dropped o.dropped;
  queued = minus (with_packet r.queued p) (plus o.refused o.dropped);
  marked = r.marked;
}

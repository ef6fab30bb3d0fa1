-- What putting a packet comes to at one node of its path: in its own queue where the path ends, else in one of its children.
-- tc-pfifo(8), tc-drr(8), tc-fq_codel(8).
use Rattle.std.specs.Prelude.{◌≡◌, ℕ, ◌<◌, length, List, [], map, set, slice_get, Option, Some, None}
use Rattle.std.specs.List.{flat_map}
use Rattle.q_packet.specs.Descriptor.{Descriptor}
use Rattle.q_packet.specs.declared.cause.Cause.{Cause}
use Rattle.q_fqcodel.specs.FqState.{FqState, packets_of, bytes_of}
use Rattle.q_fqcodel.specs.Put.{flow_of}
use Rattle.q_model.specs.Beneath.{beneath, is_empty}
use Rattle.q_model.specs.Make.{node_of}
use Rattle.q_model.specs.Node as spec
use Rattle.q_model.specs.Node.{shape}
use Rattle.q_model.specs.Put.{put_here, put_along}
use Rattle.q_model.specs.Tally.{Note, with_packet}
use Rattle.q_model.specs.TreeState.{loss_at_end}
use Rattle.q_model.specs.Work.{booked, settled_in}
use Rattle.q_tree.specs.arrival.Arrivals.{CanCount, CanPut, IsOutcome}
use Rattle.q_tree.specs.Kept.{Kept, kept}
use Rattle.q_tree.specs.Seen.{discipline_seen, children_seen, places_seen}
use Rattle.q_tree.specs.declared.node.Discipline.{Discipline}
use Rattle.q_tree.specs.declared.arrival.outcome.Outcome.{Outcome}

-- an fq_codel can take the packet: it has the packet's flow, and its counters have room
pub record CanFlow (p : Descriptor) (s : FqState) : Type 0 where
  pub flow : flow_of s p < length s.flows
  pub counts : CanCount (record { packets = packets_of s.flows; bytes = bytes_of s.flows }) p

-- what putting it comes to at a node with this discipline where the path ends: what is reported, what is left, and the packet's own loss
abbrev pub rises_here : ℕ → Descriptor → Option Cause → spec.Discipline → List Note
rises_here now p refusal d = (put_here now p refusal (node_of None d [])).rises

abbrev pub after_here : ℕ → Descriptor → Option Cause → spec.Discipline → spec.Discipline
after_here now p refusal d = (put_here now p refusal (node_of None d [])).node.own.discipline

abbrev pub loss_here : ℕ → Descriptor → Option Cause → spec.Discipline → Option Cause
loss_here now p refusal d = loss_at_end now p (node_of None d []) (record { path = []; refusal = refusal })

pub record IsQueued (now : ℕ) (p : Descriptor) (refusal : Option Cause) (before after : Discipline) (o : Outcome) : Type 0 where
  pub discipline : discipline_seen after ≡ after_here now p refusal (discipline_seen before)
  pub children : children_seen after ≡ children_seen before
  pub places : places_seen after ≡ places_seen before
  pub outcome : IsOutcome (loss_here now p refusal (discipline_seen before)) (rises_here now p refusal (discipline_seen before)) o

-- the path goes on: the child is there, and the packet can be put into it
pub record CanPutInto (now : ℕ) (p : Descriptor) (refusal : Option Cause) (rest : List ℕ) (place : ℕ) (children : List (spec.Node Kept)) : Type 0 where
  pub child : spec.Node Kept
  pub there : slice_get children place ≡ Some child
  pub can : CanPut now p rest refusal child

-- the child has the packet then, and a class of a drr is active while its child has something queued
pub record IsPutInto (now : ℕ) (p : Descriptor) (refusal : Option Cause) (rest : List ℕ) (place : ℕ) (before after : Discipline) (c : spec.Node Kept) (o : Outcome) : Type 0 where
  pub children : children_seen after ≡ set (children_seen before) place (booked kept c (put_along now p refusal rest (shape c)).node)
  pub discipline : discipline_seen after ≡ settled_in place (is_empty (put_along now p refusal rest (shape c)).node) (discipline_seen before)
  pub arrived : (booked kept c (put_along now p refusal rest (shape c)).node).memory.counts.arrived ≡ with_packet c.memory.counts.arrived p
  pub places : places_seen after ≡ places_seen before
  pub outcome : IsOutcome (loss_at_end now p (shape c) (record { path = rest; refusal = refusal })) (put_along now p refusal rest (shape c)).rises o

abbrev pub packets_beneath : List (spec.Node Kept) → List Descriptor
packets_beneath children = flat_map (λ packets. packets) (map beneath children)

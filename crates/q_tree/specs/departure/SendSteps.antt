-- What asking a node and taking the packet that it shows come to, in one walk: what its discipline and its children are then.
-- tc-prio(8), tc-tbf(8), tc-drr(8), tc-fq_codel(8).
use Rattle.std.specs.Prelude.{◌≡◌, ℕ, Bool, List, All, length, is_some, unwrap_or, if◌then◌else◌}
use Rattle.q_packet.specs.Descriptor.{Descriptor}
use Rattle.q_codel.specs.Losses.{SinkState}
use Rattle.q_model.specs.declared.totals.Totals.{Totals}
use Rattle.q_model.specs.Ask.{Asked, ask, take_from}
use Rattle.q_model.specs.Node as spec
use Rattle.q_model.specs.Node.{shape, side_by_side}
use Rattle.q_model.specs.Step.{DeviceState}
use Rattle.q_model.specs.TreeState.{given, noted_by_take, take_packet}
use Rattle.q_model.specs.Work.{Worked, booked, each_booked}
use Rattle.q_tree.specs.departure.AskSteps.{IsShown, IsToldOf, signals_of}
use Rattle.q_tree.specs.departure.Shown.{Shown}
use Rattle.q_tree.specs.Kept.{Kept, kept}
use Rattle.q_tree.specs.Seen.{discipline_seen, children_seen, places_seen, IsCountedWithin}
use Rattle.q_tree.specs.declared.node.Discipline.{Discipline}
use Rattle.q_tree.specs.declared.departure.signals.Signals.{Signals}

-- a node with this answer, once the packet that it shows was taken, if it shows one
abbrev pub left_of : Asked → Worked
left_of a = if is_some a.shown then a.taken else a.peeked

-- children of which a packet was sent
pub record AreSent (a : Asked) (before after : List (spec.Node Kept)) (s : Shown) (sink sink_after : SinkState) : Type 0 where
  pub long : length after ≡ length before
  pub nodes : side_by_side after ≡ each_booked kept (side_by_side before) (left_of a).below
  pub within : (t : Totals) → All (λ (child : spec.Node Kept). IsCountedWithin child.memory.counts.arrived t) before
      → All (λ (child : spec.Node Kept). IsCountedWithin child.memory.counts.arrived t) after
  pub shown : IsShown a s
  pub told : IsToldOf a.rises sink sink_after

pub record IsSentIn (a : Asked) (before after : Discipline) (s : Shown) (sink sink_after : SinkState) : Type 0 where
  pub discipline : discipline_seen after ≡ (left_of a).own.discipline
  pub children : AreSent a (children_seen before) (children_seen after) s sink sink_after
  pub places : places_seen after ≡ places_seen before

-- A node that was asked for its packet and handed it out: what the node is then, what is in the caller's two places, and what was shown.
pub record IsDequeued (now : ℕ) (old new : spec.Node Kept) (out out_new : Descriptor) (counted : Signals) (s : Shown) (sink sink_after : SinkState) : Type 0 where
  -- the packet that it shows is taken, and what was dropped and marked for it is booked
  pub after : new ≡ booked kept old (take_from now (shape old)).node
  pub arrived : new.memory.counts.arrived ≡ old.memory.counts.arrived
  pub shown : IsShown (ask now (shape old)) s
  -- where it shows none, the place of the packet stays as it is
  pub packet : out_new ≡ unwrap_or s.packet out
  -- the other place has the counts that are shown
  pub signals : counted ≡ signals_of s
  -- and the sink was told of what was dropped
  pub told : IsToldOf (ask now (shape old)).rises sink sink_after

-- A tree that was asked for its packet and gave it: whether there was one, what is in the caller's place, what the tree is then, and what
-- the sink was told.
pub record HasSent (now : ℕ) (old new : DeviceState Kept) (sent : Bool) (out out_new : Descriptor) (sink sink_after : SinkState) : Type 0 where
  pub some : sent ≡ is_some (given now old.tree)
  pub packet : out_new ≡ unwrap_or (given now old.tree) out
  pub after : new ≡ record { clock = now; tree = take_packet kept now old.tree }
  pub lost : IsToldOf (noted_by_take now old.tree) sink sink_after

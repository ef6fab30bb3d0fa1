-- A class of a drr that is met in turn, and the child of a tbf whose bucket has paid, before they hand out their packet: what comes of it
-- once they do (tc-drr(8), tc-tbf(8)).
use Rattle.std.specs.Prelude.{◌≡◌, ℕ, ◌<◌, List, [], ◌∷◌, IsSome, None, Some, length, slice_get, unwrap_or}
use Rattle.q_drr.specs.Schedule.{Schedule}
use Rattle.q_packet.specs.Descriptor.{Descriptor}
use Rattle.q_codel.specs.Losses.{SinkState}
use Rattle.q_bucket.specs.Level.{TokenBucket}
use Rattle.q_model.specs.Ask.{ask_drr, ask_tbf}
use Rattle.q_model.specs.Node as spec
use Rattle.q_model.specs.Node.{Own}
use Rattle.q_model.specs.Pop.{pop}
use Rattle.q_model.specs.Since.{at_hand_since, since_of}
use Rattle.q_tree.specs.departure.AskSteps.{AreAsked, IsGivenBy, IsToldOf, answers}
use Rattle.q_model.specs.Work.{booked}
use Rattle.q_tree.specs.departure.Shown.{Shown}
use Rattle.q_tree.specs.Kept.{Kept, kept}

-- what a drr that was asked came to: its schedule and its classes then, and what the sink was told
pub record HasServed (own : Own) (now : ℕ) (before after : Schedule) (ns ms : List (spec.Node Kept)) (s : Shown) (sink sink_after : SinkState) : Type 0 where
  pub schedule : spec.Drr after ≡ (ask_drr own (answers now ns) before).peeked.own.discipline
  pub asked : AreAsked (ask_drr own (answers now ns) before) ns ms s sink sink_after

-- the class in this place can send the packet that is shown, and has it at hand
pub record IsMet (now place : ℕ) (before after : Schedule) (ns ms : List (spec.Node Kept)) (s : Shown) (sink sink_after : SinkState) : Type 0 where
  pub inside : place < length ms
  pub some : IsSome s.packet
  pub shown : (c : spec.Node Kept) → slice_get ms place ≡ Some c → (pop c).shown ≡ s.packet
  pub since : (c : spec.Node Kept) → slice_get ms place ≡ Some c
      → (own : Own) → since_of s.packet (unwrap_or (at_hand_since c) 0) ≡ (ask_drr own (answers now ns) before).peeked.own.since
  pub told : (own : Own) → IsToldOf (ask_drr own (answers now ns) before).rises sink sink_after
  -- once it has handed that out
  pub served : (given : Schedule) (ks : List (spec.Node Kept)) → ((c : spec.Node Kept) → slice_get ms place ≡ Some c → IsGivenBy place c after given ms ks)
      → (own : Own) → HasServed own now before given ns ks s sink sink_after

-- no class is met that can send, so that nothing is shown
pub record AreUnserved (now : ℕ) (before after : Schedule) (ns ms : List (spec.Node Kept)) (s : Shown) (sink sink_after : SinkState) : Type 0 where
  pub empty : s.packet ≡ None
  pub since : (own : Own) → 0 ≡ (ask_drr own (answers now ns) before).peeked.own.since
  pub served : (own : Own) → HasServed own now before after ns ms s sink sink_after

-- the bucket of a tbf has paid for the packet that its child shows, and still has at hand: what comes of it once the child hands it out
pub record IsAllowed (now : ℕ) (p : Descriptor) (b : TokenBucket) (n m : spec.Node Kept) (s : Shown) (sink sink_after : SinkState) : Type 0 where
  pub shown : (pop m).shown ≡ Some p
  pub since : (own : Own) (limit : ℕ) → unwrap_or (at_hand_since m) 0 ≡ (ask_tbf now own (answers now (n ∷ [])) b limit).peeked.own.since
  pub asked : (c : spec.Node Kept) → c ≡ booked kept m (pop m).after → c.memory.counts.arrived ≡ m.memory.counts.arrived
      → (own : Own) (limit : ℕ) → AreAsked (ask_tbf now own (answers now (n ∷ [])) b limit) (n ∷ []) (c ∷ []) s sink sink_after

-- the child shows none, or the bucket does not allow it
pub record IsWaiting (now : ℕ) (own : Own) (limit : ℕ) (b : TokenBucket) (n m : spec.Node Kept) (s : Shown) (sink sink_after : SinkState) : Type 0 where
  pub since : 0 ≡ (ask_tbf now own (answers now (n ∷ [])) b limit).peeked.own.since
  pub asked : AreAsked (ask_tbf now own (answers now (n ∷ [])) b limit) (n ∷ []) (m ∷ []) s sink sink_after

-- What a choice of CoDel's leaves of a queue: the heads that go have gone, and a sink was told of them. RFC 8289, section 5.5.
use Rattle.std.specs.Prelude.{◌≡◌, ℕ, ◌<◌, Bool, List, ◌∷◌, take}
use Rattle.q_packet.specs.Totals.{count}
use Rattle.q_packet.specs.declared.cause.Cause.TheVariants.{CoDel}
use Rattle.q_packet.specs.declared.stamped.Stamped.{Stamped}
use Rattle.q_codel.specs.Codel.{Chooses, CodelState, drops}
use Rattle.q_codel.specs.Losses.{AreLost, SinkState}

-- One head to be sent is in front of what waits, to be marked or not, and this is the state. What queue and sink keep is their own.
pub record HasChosen (s : CodelState) (now : ℕ) (queue : List Stamped) (marked : Bool) (waiting : List Stamped) (t : CodelState)
    (sink_before sink_after : SinkState) (Kept SinkKept : Type 0) : Type 0 where
  pub some : 0 < count waiting
  pub chosen : (head : Stamped) (rest : List Stamped) → waiting ≡ head ∷ rest → Chooses s now queue head marked rest t
  pub lost : AreLost CoDel (take (drops s now queue) queue) sink_before sink_after
  pub kept : Kept
  pub sink_kept : SinkKept

-- Losses: the packets that a scheduler gave up, each with the reason, in the order in which they were lost.
-- A device that drops reports this to its caller, packet by packet; nothing here is from a standard.
use Rattle.std.specs.Prelude.{◌≡◌, ℕ, ◌+◌, List, ◌++◌, length, map}
use Rattle.q_packet.specs.declared.cause.Cause.{Cause}
use Rattle.q_packet.specs.declared.stamped.Stamped.{Stamped}
pub use Rattle.q_codel.specs.declared.loss.Loss.{Loss}

-- the losses that wait, oldest first, and how many there are places for
pub record LossList : Type 0 where
  pub waiting : List Loss
  pub places : ℕ

-- the packets of a queue, front first, all lost for one reason
abbrev pub losses_of : Cause → List Stamped → List Loss
losses_of cause queue = map (λ s. record { packet = s.packet; cause = cause }) queue

-- what a sink has taken, in the order in which it was lost, and how many more it can take
pub record SinkState : Type 0 where
  pub losses : List Loss
  pub room : ℕ

-- a sink that was told of these losses
pub record IsTold (told : List Loss) (before after : SinkState) : Type 0 where
  pub lost : after.losses ≡ before.losses ++ told
  pub room : after.room + length told ≡ before.room

-- the packets of a queue are lost, front first, all for one reason
abbrev pub AreLost : Cause → List Stamped → SinkState → SinkState → Type 0
AreLost cause queue = IsTold (losses_of cause queue)

-- A device whose nodes keep totals in place of histories, as the program does.
-- The replay with histories says all that happened; the one with totals is what the program has of it.
use Rattle.std.specs.Prelude.{◌≡◌, List}
use Rattle.q_model.specs.Tally.{Note, Counts}
use Rattle.q_model.specs.Shrink as tree
use Rattle.q_model.specs.Step.{DeviceState, Step}
use Rattle.q_model.specs.Replay.{Replay}

abbrev pub shrunk : DeviceState (List Note) → DeviceState Counts
shrunk d = record { clock = d.clock; tree = tree.shrunk d.tree }

-- the second step is the first one on a shrunk device: with equal reply and losses
pub record IsShrunkStep (s : Step (List Note)) (r : Step Counts) : Type 0 where
  pub device : shrunk s.device ≡ r.device
  pub reply : s.reply ≡ r.reply
  pub losses : s.losses ≡ r.losses

pub record IsShrunkReplay (s : Replay (List Note)) (r : Replay Counts) : Type 0 where
  pub device : shrunk s.device ≡ r.device
  pub replies : s.replies ≡ r.replies
  pub losses : s.losses ≡ r.losses

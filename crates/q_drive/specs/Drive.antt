-- The settings of a drive, and their ranges, which are this project's own.
use Rattle.std.specs.Prelude.{ℕ, ◌≤◌, Bool}
use Rattle.q_script.specs.Settings.{Settings}

-- The device. So many senders, each with a load of so many packets of so many bytes, and a ring of so many places. Whether the
-- device is drained when the senders have ended, and whether the qdiscs are shown at the end.
pub record Drive : Type 0 where
  pub device : Settings
  pub senders : ℕ
  pub count : ℕ
  pub len : ℕ
  pub ring : ℕ
  pub until_idle : Bool
  pub show : Bool

pub record IsInRange (d : Drive) : Type 0 where
  pub senders : (1 ≤ d.senders) × (d.senders ≤ 64)
  pub count : d.count ≤ 1000000
  pub len : (1 ≤ d.len) × (d.len ≤ 65535)
  pub ring : (1 ≤ d.ring) × (d.ring ≤ 65536)

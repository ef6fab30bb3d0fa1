-- When a device next gives a packet, as it is reported to C.
-- The time is that of q_tree's specs/answers/ReadyAt.antt, and the numbers this project's own.
use Rattle.std.specs.Prelude.{◌≡◌, ◌≢◌, ℕ, ◌<◌, ◌≤◌, ◌^◌, None, unwrap_or}
use Rattle.q_device.specs.device.DeviceSeen.{DeviceSeen}
use Rattle.q_model.specs.TreeState.{given}
use Rattle.q_tree.specs.answers.ReadyAt.{ready_at}
use Rattle.qtree_c.specs.device.Calls.{found_number}

-- The time before which no poll gives a packet (0); or no poll ever will, as things are (32), and the time stays.
pub record IsReady (code before after : ℕ) (d n : DeviceSeen) : Type 0 where
  pub same : n ≡ d
  pub answer : code ≡ found_number (ready_at d.device.clock d.device.tree.root)
  pub moment : after ≡ unwrap_or (ready_at d.device.clock d.device.tree.root) before
  pub early : code ≡ 0 → (t : ℕ) → d.device.clock ≤ t → t < after → given t d.device.tree ≡ None
  pub never : code ≢ 0 → (t : ℕ) → d.device.clock ≤ t → t ≤ 2 ^ 62 → given t d.device.tree ≡ None

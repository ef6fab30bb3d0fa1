-- How many packets a device can hold, as it is reported to C.
-- The number is that of q_tree's specs/answers/MostPackets.antt.
use Rattle.std.specs.Prelude.{◌≡◌, ℕ, ◌-◌, ◌^◌, min}
use Rattle.q_device.specs.device.DeviceSeen.{DeviceSeen}
use Rattle.q_tree.specs.answers.MostPackets.{most_packets}

-- an open device always answers
pub record IsMost (code after : ℕ) (d n : DeviceSeen) : Type 0 where
  pub same : n ≡ d
  pub answer : code ≡ 0
  pub most : after ≡ min (most_packets d.device.tree.root) (2 ^ 64 - 1)

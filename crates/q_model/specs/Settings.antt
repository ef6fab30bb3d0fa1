-- The settings of a device, and their ranges.
-- The mtu and the queue's length are those of a network device (ip-link(8)); the recorder is this project's own.
use Rattle.std.specs.Prelude.{ℕ, ◌≤◌, ◌<◌, ◌^◌}

pub record DeviceSettings : Type 0 where
  pub mtu : ℕ
  pub txqueuelen : ℕ
  pub recorder : ℕ

pub record IsInRange (s : DeviceSettings) : Type 0 where
  pub mtu : 1 ≤ s.mtu
  pub most_mtu : s.mtu < 2 ^ 16
  pub recorder : s.recorder ≤ 1000000

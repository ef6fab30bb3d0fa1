-- The settings of a run: the options of `qtree play`, with the ranges and defaults that this project gives them.
-- The mtu and the queue's length are those of a network device (ip-link(8)).
use Rattle.std.specs.Prelude.{ℕ, ◌≤◌}

pub record Settings : Type 0 where
  pub mtu : ℕ
  pub txqueuelen : ℕ
  pub seed : ℕ
  pub recorder : ℕ

-- the mtu is at least 1 byte, and the recorder keeps at most 1,000,000 events
pub record IsInRange (s : Settings) : Type 0 where
  pub mtu : 1 ≤ s.mtu
  pub recorder : s.recorder ≤ 1000000

abbrev pub default_settings : Settings
default_settings = record { mtu = 1514; txqueuelen = 1000; seed = 0; recorder = 4096 }

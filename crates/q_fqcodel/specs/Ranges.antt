-- The ranges of an fq_codel's settings, which the options of a command and the grammar of a line refer to.
-- tc-fq_codel(8) names the settings; the ranges are this project's choice.
use Rattle.std.specs.Prelude.{ℕ, ◌-◌, ◌≤◌, ◌^◌}
use Rattle.q_fqcodel.specs.FqState.{FqSettings}

-- the greatest limit, in packets, and quantum, in bytes
abbrev pub most : ℕ
most = 2 ^ 32 - 1

abbrev pub most_flows : ℕ
most_flows = 65536

abbrev pub most_batch : ℕ
most_batch = 65536

-- the longest target and interval, 1000 s, and the shortest interval, 1 us
abbrev pub longest : ℕ
longest = 10 ^ 12

abbrev pub shortest_interval : ℕ
shortest_interval = 1000

pub record IsInRange (s : FqSettings) : Type 0 where
  pub limit_low : 1 ≤ s.limit
  pub limit_high : s.limit ≤ most
  pub flows_low : 1 ≤ s.flows
  pub flows_high : s.flows ≤ most_flows
  pub quantum_low : 1 ≤ s.quantum
  pub quantum_high : s.quantum ≤ most
  pub target_high : s.target ≤ longest
  pub interval_low : shortest_interval ≤ s.interval
  pub interval_high : s.interval ≤ longest
  pub batch_low : 1 ≤ s.drop_batch
  pub batch_high : s.drop_batch ≤ most_batch
  pub mtu_low : 1 ≤ s.mtu

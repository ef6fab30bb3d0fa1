-- The options of a prio and of an fq_codel, and addresses that begin alike, with their ranges.
-- tc-prio(8), tc-fq_codel(8) and tc-flower(8); where they give no range, this project's choice.
use Rattle.std.specs.Prelude.{◌≡◌, ℕ, ◌<◌, ◌≤◌, ◌^◌, Bool, List, All, length, Option, IfSome}
use Rattle.q_model.specs.declared.ip_version.IpVersion.{IpVersion}
use Rattle.q_model.specs.declared.ip_version.IpVersion.TheVariants.{V4, V6}
use Rattle.q_fqcodel.specs.Ranges as ranges
use Rattle.q_model.specs.Numbers.{IsWithin}

-- how many bands a prio has, and the band, from 0, of each priority
pub record PrioSettings : Type 0 where
  pub bands : ℕ
  pub priomap : List ℕ

pub record IsPrio (s : PrioSettings) : Type 0 where
  pub few : IsWithin 2 16 s.bands
  pub each : length s.priomap ≡ 16
  pub there : All (λ band. band < s.bands) s.priomap

-- what a line gives of the settings of an fq_codel; times are in nanoseconds
pub record FqOptions : Type 0 where
  pub limit : Option ℕ
  pub flows : Option ℕ
  pub quantum : Option ℕ
  pub target : Option ℕ
  pub interval : Option ℕ
  pub ecn : Option Bool
  pub drop_batch : Option ℕ

-- the options with these values, in the order of the fields
abbrev pub options_of : Option ℕ → Option ℕ → Option ℕ → Option ℕ → Option ℕ → Option Bool → Option ℕ → FqOptions
options_of limit flows quantum target interval ecn drop_batch = record {
  limit = limit;
  flows = flows;
  quantum = quantum;
  target = target;
  interval = interval;
  ecn = ecn;
  drop_batch = drop_batch;
}

-- each option that is given is in the range of its setting
pub record IsFqCodelOptions (o : FqOptions) : Type 0 where
  pub limit : IfSome o.limit (IsWithin 1 ranges.most)
  pub flows : IfSome o.flows (IsWithin 1 ranges.most_flows)
  pub quantum : IfSome o.quantum (IsWithin 1 ranges.most)
  pub target : IfSome o.target (IsWithin 0 ranges.longest)
  pub interval : IfSome o.interval (IsWithin ranges.shortest_interval ranges.longest)
  pub drop_batch : IfSome o.drop_batch (IsWithin 1 ranges.most_batch)

-- an address, and how many of its bits are compared
pub record Prefix : Type 0 where
  pub version : IpVersion
  pub address : ℕ
  pub len : ℕ

-- the bits of an address
abbrev pub bits_of : IpVersion → ℕ
bits_of V4 = 32
bits_of V6 = 128

pub record IsPrefix (p : Prefix) : Type 0 where
  pub address : p.address < 2 ^ bits_of p.version
  pub len : p.len ≤ bits_of p.version

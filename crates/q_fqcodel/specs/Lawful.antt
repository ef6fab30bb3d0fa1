-- What holds of every fq_codel between two calls: its two lists hold each flow at most once, and every flow with packets.
-- RFC 8290, section 4: a flow is in the new list, in the old one, or in neither.
use Rattle.std.specs.Prelude.{◌≡◌, ℕ, ◌+◌, ◌<◌, ◌≤◌, ◌^◌, false, ◌==◌, List, ◌++◌, length, count_by}
use Rattle.q_fqcodel.specs.FqState.{FqState, is_idle, packets_of}
use Rattle.q_fqcodel.specs.Entry.{Entry}

-- how often a flow is in a list
abbrev pub times : ℕ → List Entry → ℕ
times n es = count_by (λ (e : Entry). e.flow == n) es

pub record IsLawful (s : FqState) : Type 0 where
  pub each_flow : length s.flows ≡ s.settings.flows
  pub in_range : (n : ℕ) → s.settings.flows ≤ n → times n (s.new_flows ++ s.old_flows) ≡ 0
  pub within : length s.new_flows + length s.old_flows ≤ s.settings.flows
  pub once : (n : ℕ) → times n (s.new_flows ++ s.old_flows) ≤ 1
  pub busy : (n : ℕ) → is_idle s.flows n ≡ false → 1 ≤ times n (s.new_flows ++ s.old_flows)
  pub few : packets_of s.flows < 2 ^ 32

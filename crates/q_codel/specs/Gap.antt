-- The gap of CoDel's control law: the interval over the square root of the count, in whole nanoseconds, rounded down.
-- RFC 8289, section 5.6 (`control_law`; section 3.3 says why), by whole numbers alone in place of its floating-point root.
use Rattle.std.specs.Prelude.{ℕ, ◌+◌, ◌*◌, ◌<◌, ◌≤◌, nat_lt}
use Rattle.q_packet.specs.Least.{least}

-- the least d whose successor is too great: (d + 1)² count exceeds interval²
unfoldable pub gap_of : ℕ → ℕ → ℕ
gap_of interval count = least (λ d. nat_lt (interval * interval) ((d + 1) * (d + 1) * count)) interval

-- d is the greatest whole number with d² count at most interval²
pub record IsGap (interval count d : ℕ) : Type 0 where
  pub holds : d * d * count ≤ interval * interval
  pub next_fails : interval * interval < (d + 1) * (d + 1) * count

-- The level of a token bucket, what it lets through, and what a spend and a change leave.
-- From tc-tbf(8): a token stands for a byte, tokens come at the rate until the bucket is full, and a new bucket is full.
-- What a change leaves is this project's own choice. One bit a second brings 1/(8*10^9) byte in a nanosecond, and that is
-- the unit of a level.
use Rattle.std.specs.Prelude.{ℕ, ◌+◌, ◌-◌, ◌*◌, ◌^◌, ◌≤◌, Bool, nat_le, min, if◌then◌else◌}

-- a bucket: its rate in bits a second, its burst in bytes, and the level in units that it had at the time `last`
pub record TokenBucket : Type 0 where
  pub rate : ℕ
  pub burst : ℕ
  pub level : ℕ
  pub last : ℕ

-- how many units make a byte
abbrev pub units_in_byte : ℕ
units_in_byte = 8 * 10 ^ 9

-- the level of a full bucket
abbrev pub capacity : TokenBucket → ℕ
capacity b = b.burst * units_in_byte

-- the rates and bursts that a bucket takes; it never holds more than its burst
pub record IsInRange (b : TokenBucket) : Type 0 where
  pub rate_from : 1 ≤ b.rate
  pub rate_to : b.rate ≤ 10 ^ 12
  pub burst_from : 1 ≤ b.burst
  pub burst_to : b.burst ≤ 2 ^ 32 - 1
  pub within_burst : b.level ≤ capacity b

-- a bucket begins full
abbrev pub full : ℕ → ℕ → ℕ → TokenBucket
full rate burst now = record { rate = rate; burst = burst; level = burst * units_in_byte; last = now }

-- the level at a time, from `last` on
abbrev pub level_at : TokenBucket → ℕ → ℕ
level_at b now = min (capacity b) (b.level + b.rate * (now - b.last))

-- may a packet of `len` bytes go?
abbrev pub allows : TokenBucket → ℕ → ℕ → Bool
allows b now len = nat_le (len * units_in_byte) (level_at b now)

-- a packet that may go takes its length; one that may not leaves the bucket as it was
abbrev pub after_spend : TokenBucket → ℕ → ℕ → TokenBucket
after_spend b now len =
    if allows b now len then record b { level = level_at b now - len * units_in_byte; last = now } else b

-- the bucket fills at its old rate up to `now`; what the new burst cannot hold is lost
abbrev pub after_change : TokenBucket → ℕ → ℕ → ℕ → TokenBucket
after_change b rate burst now = record {
  rate = rate;
  burst = burst;
  level = min (burst * units_in_byte) (level_at b now);
  last = now;
}

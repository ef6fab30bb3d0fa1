-- What holds of a bucket over whole lists of spends, and of one that is left alone.
-- From RFC 2211: what a token bucket of rate r and burst b lets through in any period T is at most rT + b.
use Rattle.std.specs.Prelude.{◌≡◌, ℕ, ◌+◌, ◌-◌, ◌*◌, ◌≤◌, Bool, nat_le, ◌&&◌, if◌then◌else◌, List, [], ◌∷◌, filter, sum_by}
use Rattle.std.specs.Int.{div_ceil}
use Rattle.q_bucket.specs.Level.{TokenBucket, units_in_byte, capacity, level_at, allows, after_spend}

-- a call of `spend`: the time, and the length in bytes
pub record Spend : Type 0 where
  pub at : ℕ
  pub len : ℕ

-- times do not fall, from `last` on
abbrev pub InOrder : ℕ → List Spend → Type 0
InOrder last [] = Unit {0}
InOrder last (s ∷ rest) = (last ≤ s.at) × InOrder s.at rest

-- those of the spends that are true, in their order
abbrev pub true_spends : TokenBucket → List Spend → List Spend
true_spends b [] = []
true_spends b (s ∷ rest) =
    let later = true_spends (after_spend b s.at s.len) rest in
    if allows b s.at s.len then s ∷ later else later

-- is a spend within the times `from` to `to`, both included?
abbrev pub is_within : ℕ → ℕ → Spend → Bool
is_within from to s = nat_le from s.at && nat_le s.at to

-- the bytes of the spends within those times
abbrev pub bytes_within : ℕ → ℕ → List Spend → ℕ
bytes_within from to spends = sum_by (λ s. s.len) (filter (is_within from to) spends)

-- whatever is asked of a bucket, the bytes that go in an interval are at most its burst and what its rate brings then
abbrev pub StretchIsBounded : Type 0
StretchIsBounded =
    (b : TokenBucket) (spends : List Spend) (from to : ℕ) → b.level ≤ capacity b → InOrder b.last spends
    → bytes_within from to (true_spends b spends) * units_in_byte ≤ capacity b + b.rate * (to - from)

-- no bucket is fuller than full
abbrev pub NeverOverBurst : Type 0
NeverOverBurst = (b : TokenBucket) (now : ℕ) → level_at b now ≤ capacity b

-- time never lowers a level, so what may go at one time may go at each later one
abbrev pub LevelRises : Type 0
LevelRises = (b : TokenBucket) (s t : ℕ) → s ≤ t → level_at b s ≤ level_at b t

-- a full bucket that is left alone is full
abbrev pub FullStaysFull : Type 0
FullStaysFull = (b : TokenBucket) (now : ℕ) → b.level ≡ capacity b → level_at b now ≡ capacity b

-- a bucket that is left alone for as long as its rate takes to bring its burst is full again
abbrev pub FullAgain : Type 0
FullAgain =
    (b : TokenBucket) (now : ℕ) → 1 ≤ b.rate → b.last + div_ceil (capacity b) b.rate ≤ now
    → level_at b now ≡ capacity b

-- a bucket that is brought up to a time in between has the same level later: no rounding loses anything
abbrev pub NothingIsLost : Type 0
NothingIsLost =
    (b : TokenBucket) (s t : ℕ) → b.last ≤ s → s ≤ t
    → level_at (record b { level = level_at b s; last = s }) t ≡ level_at b t

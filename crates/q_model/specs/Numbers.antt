-- The ranges of a command's numbers, one by one.
-- tc(8), "NAMING", for handles and class ids; the pages of the disciplines; where they give no range, this project's choice.
use Rattle.std.specs.Prelude.{ℕ, ◌≤◌, ◌^◌, ◌-◌}

-- a number from the first to the second, both included
abbrev pub IsWithin : ℕ → ℕ → ℕ → Type 0
IsWithin least most n = (least ≤ n) × (n ≤ most)

-- packets, and the bytes of a quantum, a burst or a limit, fit 32 bits
abbrev pub most_u32 : ℕ
most_u32 = 2 ^ 32 - 1

-- a handle's major number; ffff is the root's in tc(8)
abbrev pub IsHandle : ℕ → Type 0
IsHandle major = IsWithin 1 0xfffe major

-- a class's minor number
abbrev pub IsMinor : ℕ → Type 0
IsMinor minor = IsWithin 1 0xffff minor

-- the bytes of a grant
abbrev pub IsQuantum : ℕ → Type 0
IsQuantum bytes = IsWithin 1 most_u32 bytes

-- a tbf's rate in bits a second, its burst in bytes, and its latency in nanoseconds, at most 1000 s
abbrev pub IsRate : ℕ → Type 0
IsRate bits = IsWithin 1 (10 ^ 12) bits

abbrev pub IsBurst : ℕ → Type 0
IsBurst bytes = IsWithin 1 most_u32 bytes

abbrev pub IsLatency : ℕ → Type 0
IsLatency ns = ns ≤ 10 ^ 12

-- a filter's priority
abbrev pub IsFilterPrio : ℕ → Type 0
IsFilterPrio prio = IsWithin 1 0xffff prio

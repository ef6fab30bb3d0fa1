-- A listed flow: its index, and its credits.
-- RFC 8290, section 4.2, has a list of new and one of old flows, and calls the credits a queue's byte credits.
use Rattle.std.specs.Prelude.{ℕ, ℤ}

-- `credits` are the bytes that the flow may still send before it waits for a quantum: with none, or fewer, it waits.
pub record Entry : Type 0 where
  pub flow : ℕ
  pub credits : ℤ

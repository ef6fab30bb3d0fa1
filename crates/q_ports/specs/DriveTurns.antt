-- The turns that driving takes, one after the other, and the board that they leave.
-- Nothing here is of a standard.
use Rattle.std.specs.Prelude.{◌≡◌, ℕ, ◌+◌, ◌*◌, ◌^◌, ◌<◌, min, List, [], ◌∷◌}
use Rattle.q_ports.specs.Rows.{BoardSeen}
use Rattle.q_ports.specs.Turned.{DrainSeen, TurnedSome}
use Rattle.q_ports.specs.declared.turn.Turn.{Turn}

-- the most packets that a turn of driving takes
abbrev pub most : ℕ
most = 64

-- Turn `nth`, so many steps after the time `start`, or at the latest time: what a turn of the drain does to some device and its
-- board.
pub record DrivesOnce (start step nth : ℕ) (before after : DrainSeen) : Type 0 where
  pub turn : Turn
  pub turned : TurnedSome (min (start + nth * step) (2 ^ 62)) most before after turn

-- Turns of numbers below `count`, each of a number and the drain that it began with, the newest first. Their numbers rise: one that
-- is left out is a turn that was refused.
abbrev pub AreTurns : ℕ → ℕ → ℕ → DrainSeen → List (ℕ × DrainSeen) → DrainSeen → Type 0
AreTurns start step count first [] last = last ≡ first
AreTurns start step count first (d ∷ drains) last = (d.0 < count) × DrivesOnce start step d.0 d.1 last × AreTurns start step d.0 first drains d.1

-- some turns of numbers below `count` made of one drain another, and nothing else did
pub record TurnsBelow (start step count : ℕ) (before after : DrainSeen) : Type 0 where
  pub drains : List (ℕ × DrainSeen)
  pub turns : AreTurns start step count before drains after

-- some turns, of numbers that rise, made of one drain another, and nothing else did
pub record HasTurned (start step : ℕ) (before after : DrainSeen) : Type 0 where
  pub count : ℕ
  pub turned : TurnsBelow start step count before after

-- the board is as some turns left it
pub record ShowsTurns (start step : ℕ) (before : DrainSeen) (board : BoardSeen) : Type 0 where
  pub last : DrainSeen
  pub turned : HasTurned start step before last
  pub shown : board ≡ last.board

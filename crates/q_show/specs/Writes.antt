-- What the writes of a target came to, and when no further one is made.
-- That 16,777,216 writes of a text may be interrupted is this project's own.
use Rattle.std.specs.Prelude.{◌≡◌, ◌⊎◌, ℕ, ◌+◌, ◌≤◌, None, Some}
use Rattle.std.specs.declared.io.ErrorKind.{ErrorKind}
use Rattle.std.specs.declared.io.ErrorKind.TheVariants.{Interrupted}
use Rattle.q_show.specs.declared.target.Writes.{Writes}

abbrev pub no_writes : Writes
no_writes = record { taken = 0; interrupted = 0; failure = None }

-- a write that took so many bytes
abbrev pub after_bytes : Writes → ℕ → Writes
after_bytes w n = record w { taken = w.taken + n }

abbrev pub after_interruption : Writes → Writes
after_interruption w = record w { interrupted = w.interrupted + 1 }

abbrev pub after_failure : Writes → ErrorKind → Writes
after_failure w kind = record w { failure = Some kind }

-- no write failed, and so another may be made
pub record MayWrite (w : Writes) : Type 0 where
  pub sound : w.failure ≡ None
  pub few : w.interrupted ≤ 16777216

-- one write more was interrupted than may be, and none failed
pub record IsWrittenTooOften (w : Writes) : Type 0 where
  pub many : w.interrupted ≡ 16777217
  pub sound : w.failure ≡ None

-- the last write failed in this way, or was one interruption too many
abbrev pub WriteFailed : Writes → ErrorKind → Type 0
WriteFailed w kind = (w.failure ≡ Some kind) ⊎ ((kind ≡ Interrupted) × IsWrittenTooOften w)

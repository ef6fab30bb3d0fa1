-- What the reads of a source came to, and when no further one is made.
-- That a script may take 16,777,218 reads is this project's own.
use Rattle.std.specs.Prelude.{◌≡◌, ◌⊎◌, ◌<◌, ◌+◌, None, Some, true, false}
use Rattle.std.specs.declared.io.ErrorKind.{ErrorKind}
use Rattle.std.specs.declared.io.ErrorKind.TheVariants.{Interrupted}
use Rattle.q_script.specs.declared.source.Reads.{Reads}

abbrev pub no_reads : Reads
no_reads = record { count = 0; interrupted = 0; ended = false; failure = None }

-- a read that brought bytes
abbrev pub after_bytes : Reads → Reads
after_bytes r = record r { count = r.count + 1 }

-- a read that brought no byte
abbrev pub after_end : Reads → Reads
after_end r = record r { count = r.count + 1; ended = true }

abbrev pub after_interruption : Reads → Reads
after_interruption r = record r { count = r.count + 1; interrupted = r.interrupted + 1 }

abbrev pub after_failure : Reads → ErrorKind → Reads
after_failure r kind = record r { count = r.count + 1; failure = Some kind }

-- no read came to the end, none failed, and so another may be made
pub record MayRead (r : Reads) : Type 0 where
  pub going : r.ended ≡ false
  pub sound : r.failure ≡ None

-- the last read came to the end, and none failed
pub record IsReadWhole (r : Reads) : Type 0 where
  pub whole : r.ended ≡ true
  pub sound : r.failure ≡ None

-- all the reads were made that may be; some were interrupted, and none came to the end or failed
pub record IsReadTooOften (r : Reads) : Type 0 where
  pub all : r.count ≡ 16777218
  pub some : 0 < r.interrupted
  pub going : MayRead r

-- the last read failed in this way, or there was one interruption too many
abbrev pub ReadFailed : Reads → ErrorKind → Type 0
ReadFailed r kind = (r.failure ≡ Some kind) ⊎ ((kind ≡ Interrupted) × IsReadTooOften r)

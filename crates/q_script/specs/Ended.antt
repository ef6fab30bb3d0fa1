-- What the reads and writes of a run came to where it ends, and how it answers.
-- The faults and their order are this project's own.
use Rattle.std.specs.Prelude.{◌≡◌, ◌≤◌, Result, OnOk, None, Some, Err}
use Rattle.std.specs.declared.io.ErrorKind.{ErrorKind}
use Rattle.q_show.specs.Writes.{MayWrite, WriteFailed}
use Rattle.q_show.specs.declared.target.Writes.{Writes}
use Rattle.q_script.specs.Reads.{MayRead, IsReadWhole, ReadFailed}
use Rattle.q_script.specs.declared.outcome.Outcome.{Outcome}
use Rattle.q_script.specs.declared.source.Reads.{Reads}
use Rattle.q_script.specs.declared.run_fault.RunFault.{RunFault}
use Rattle.q_script.specs.declared.run_fault.RunFault.TheVariants as fault

pub record Ended (result : Result Outcome RunFault) (reads : Reads) (writes : Writes) : Type 0 where
  pub few_reads : reads.count ≤ 16777218
  -- a run with an outcome has read its script to the end, and no read or write of it failed
  pub ok_read : OnOk result (IsReadWhole reads)
  pub ok_written : OnOk result (MayWrite writes)
  -- each fault has its cause
  pub read : (kind : ErrorKind) → result ≡ Err (fault.Read kind) → ReadFailed reads kind
  pub too_long : result ≡ Err fault.TooLong → MayRead reads
  pub memory : result ≡ Err fault.Memory → reads.failure ≡ None
  pub write : (kind : ErrorKind) → result ≡ Err (fault.Write kind) → WriteFailed writes kind
  pub write_read : (kind : ErrorKind) → result ≡ Err (fault.Write kind) → IsReadWhole reads
  -- no failure is reported as something else
  pub failed_read : (kind : ErrorKind) → reads.failure ≡ Some kind → result ≡ Err (fault.Read kind)
  pub failed_write : (kind : ErrorKind) → WriteFailed writes kind → result ≡ Err (fault.Write kind)

-- What a writer holds of a show text that was written whole, or not.
-- The faults are this project's own.
use Rattle.std.specs.Prelude.{◌≡◌, ℕ, List, Option, Result, OnOk, Err}
use Rattle.std.specs.Io.KnownBytes.{Appends, Keeps}
use Rattle.std.specs.declared.io.ErrorKind.{ErrorKind}
use Rattle.q_show.specs.Written.{AppendsFront}
use Rattle.q_session.specs.declared.show.ShowFault.{ShowFault}
use Rattle.q_session.specs.declared.show.ShowFault.TheVariants as fault

-- old and new are the bytes of the writer, before and after
pub record IsShown (result : Result (Unit {0}) ShowFault) (old new : Option (List ℕ)) (text : List ℕ) : Type 0 where
  pub whole : OnOk result (Appends old new text)
  pub part : (kind : ErrorKind) → result ≡ Err (fault.Write kind) → AppendsFront old new text
  pub nothing : result ≡ Err fault.Memory → Keeps old new

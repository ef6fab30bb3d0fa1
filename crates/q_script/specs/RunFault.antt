-- The faults of a run: their numbers and words, and how a run answers that its script was not read whole.
-- The numbers and words are this project's own.
use Rattle.std.specs.Prelude.{ℕ, List, Option, Some, None, codes}
use Rattle.std.specs.declared.io.ErrorKind.{ErrorKind}
use Rattle.q_script.specs.declared.run_fault.RunFault.{RunFault}
use Rattle.q_script.specs.declared.run_fault.RunFault.TheVariants as run
use Rattle.q_script.specs.declared.script_fault.ScriptFault.{ScriptFault}
use Rattle.q_script.specs.declared.script_fault.ScriptFault.TheVariants as script

abbrev pub fault_number : RunFault → ℕ
fault_number (run.Read kind) = 1
fault_number run.TooLong = 2
fault_number (run.Write kind) = 3
fault_number run.Memory = 90

-- what could not be done
abbrev pub fault_text : RunFault → List ℕ
fault_text (run.Read kind) = codes "the script cannot be read"
fault_text run.TooLong = codes "the script is longer than 16777216 bytes"
fault_text (run.Write kind) = codes "the report cannot be written"
fault_text run.Memory = codes "memory is refused"

-- the kind of the read or the write that failed
abbrev pub fault_kind : RunFault → Option ErrorKind
fault_kind (run.Read kind) = Some kind
fault_kind run.TooLong = None
fault_kind (run.Write kind) = Some kind
fault_kind run.Memory = None

abbrev pub run_fault_of : ScriptFault → RunFault
run_fault_of (script.Read kind) = run.Read kind
run_fault_of script.TooLong = run.TooLong
run_fault_of script.Memory = run.Memory

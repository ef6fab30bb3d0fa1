-- What the program answers: its exit status, the report on its output and one line on its error output, or what explains lines there.
-- The statuses and the words are this project's own.
use Rattle.std.specs.Prelude.{◌≡◌, ℕ, ◌<◌, Bool, false, ◌⊎◌, List, [], ◌∷◌, ◌++◌, Option, Some, None, IfSome, Ok, Err, codes, decimal, take, min, length, option_map, string_bytes}
use Rattle.std.specs.Io.KnownBytes.{Appends, Keeps}
use Rattle.std.specs.declared.io.ErrorKind.{ErrorKind}
use Rattle.q_drive.specs.Drive.{Drive}
use Rattle.q_drive.specs.Reported.{IsDrivenOf, IsPartlyDriven}
use Rattle.q_options.specs.declared.fault.Fault.{Fault}
use Rattle.q_options.specs.declared.fault.Fault.TheVariants.{Argument, Help, Run}
use Rattle.q_options.specs.declared.play_options.PlayOptions.{PlayOptions}
use Rattle.clap.specs.Words.{Text}
use Rattle.clap.specs.declared.error.kind.ErrorKind.{ErrorKind as Kind}
use Rattle.clap.specs.declared.error.kind.ErrorKind.TheVariants.{DisplayHelp, DisplayVersion}
use Rattle.q_options.specs.CommandLine.{IsRefused}
use Rattle.q_script.specs.Ended.{Ended}
use Rattle.q_script.specs.declared.source.Reads.{Reads}
use Rattle.q_script.specs.declared.run_fault.RunFault.{RunFault}
use Rattle.q_script.specs.declared.run_fault.RunFault.TheVariants.{Read, TooLong, Write, Memory}
use Rattle.q_script.specs.RunFault.{fault_kind, fault_text}
use Rattle.q_script.specs.Settings.{Settings}
use Rattle.q_script.specs.declared.outcome.Outcome.{Outcome}
use Rattle.q_script.specs.declared.outcome.Outcome.TheVariants.{Clean, Refused}
use Rattle.q_session.specs.Reported.{IsPartlyReported, IsReportedOf}
use Rattle.q_show.specs.Writes.{WriteFailed}
use Rattle.q_show.specs.Written.{AppendsFront}
use Rattle.q_show.specs.declared.target.Writes.{Writes}

-- what could not be done, and the kind of the read or the write that failed
abbrev pub text_of : Fault → List ℕ
text_of Argument = codes "an argument is not UTF-8"
text_of (Help kind) = codes "help cannot be written"
text_of (Run fault) = fault_text fault

abbrev pub kind_of : Fault → Option ErrorKind
kind_of Argument = None
kind_of (Help kind) = Some kind
kind_of (Run fault) = fault_kind fault

-- the words for a kind are behind a colon
abbrev pub caused : Option ErrorKind → List ℕ → List ℕ → List ℕ
caused None words front = front
caused (Some kind) words front = front ++ codes ": " ++ words

-- what is before it where the script is a file's: the first bytes of its path
abbrev pub named : Option Text → List ℕ
named None = []
named (Some path) = take (min (length path) 512) path ++ codes ": "

-- the line that reports a fault, with some words for its kind
abbrev pub line_with : List ℕ → Fault → List ℕ → List ℕ
line_with name fault words = caused (kind_of fault) words (codes "qtree: " ++ name ++ text_of fault) ++ (10 ∷ [])

-- the error output has that line and nothing else, or a front of it where it could not be written
abbrev pub IsToldOf : Option Text → Fault → Option (List ℕ) → Option (List ℕ) → Type 0
IsToldOf file fault old new = (words : List ℕ) × (Appends old new (line_with (named file) fault words) ⊎ AppendsFront old new (line_with (named file) fault words))

abbrev pub IsTold : Fault → Option (List ℕ) → Option (List ℕ) → Type 0
IsTold fault old new = IsToldOf None fault old new

-- what the output has after a fault: a front of a report where that could not be written, else nothing new
abbrev pub Leaves : (List ℕ → Type 0) → RunFault → Option (List ℕ) → Option (List ℕ) → Option (List ℕ) → Type 0
Leaves partly (Read kind) script old new = Keeps old new
Leaves partly TooLong script old new = Keeps old new
Leaves partly (Write kind) script old new = IfSome script partly
Leaves partly Memory script old new = Keeps old new

-- the line that says how many lines were not done, and names the option that explains them
abbrev pub counted_line : ℕ → List ℕ
counted_line lines = codes "qtree: lines that were not done: " ++ decimal lines ++ codes "; --explain says why\n"

-- The error output has that line and nothing else, or a front of it where it could not be written. Where no line is counted, it has
-- nothing: a drive is refused too if an allocation fails for its senders.
pub record IsCounted (lines : ℕ) (old new : Option (List ℕ)) : Type 0 where
  pub none : lines ≡ 0 → Keeps old new
  pub some : 0 < lines → Appends old new (counted_line lines) ⊎ AppendsFront old new (counted_line lines)

-- Standard input or a file was read: what the output and the error output had before and have now, what the reads and writes came
-- to, and the status. So many lines had a fault or were refused. What is reported whole of a script, with its outcome and that number,
-- and what in part, is the command's own. Where these lines are explained, the error output says of them what it will.
pub record IsAnswered (explained : Bool) (lines : ℕ) (file : Option Text) (whole : Outcome → ℕ → List ℕ → Type 0) (partly : List ℕ → Type 0)
    (script old new errors_old errors_new : Option (List ℕ)) (reads : Reads) (writes : Writes) (status : ℕ) : Type 0 where
  -- the whole report, in which nothing had a fault or was refused
  pub clean : status ≡ 0 → IfSome script (whole Clean lines) × Ended (Ok Clean) reads writes
  -- the whole report, in which something had a fault or was refused
  pub refused : status ≡ 1 → IfSome script (whole Refused lines) × Ended (Ok Refused) reads writes
  -- without explanations nothing is reported of lines that were done, and the number of those that were not
  pub silent : explained ≡ false → status ≡ 0 → Keeps errors_old errors_new
  pub counted : explained ≡ false → status ≡ 1 → IsCounted lines errors_old errors_new
  -- not the whole report, and a line that says why
  pub fault : status ≡ 2 → (fault : RunFault) × IsToldOf file (Run fault) errors_old errors_new × Leaves partly fault script old new × Ended (Err fault) reads writes

-- a script of a file or of standard input was played, of which so many lines were not done
abbrev pub IsPlayedWith : Bool → ℕ → Option Text → Settings → Option (List ℕ) → Option (List ℕ) → Option (List ℕ) → Option (List ℕ) → Option (List ℕ) → Reads → Writes → ℕ → Type 0
IsPlayedWith explained lines file settings script old new errors_old errors_new reads writes status =
    IsAnswered explained lines file (λ told lines all. IsReportedOf settings all told lines old new) (λ all. IsPartlyReported settings all old new)
    script old new errors_old errors_new reads writes status

abbrev pub IsPlayedOf : Bool → Option Text → Settings → Option (List ℕ) → Option (List ℕ) → Option (List ℕ) → Option (List ℕ) → Option (List ℕ) → Reads → Writes → ℕ → Type 0
IsPlayedOf explained file settings script old new errors_old errors_new reads writes status =
    (lines : ℕ) × IsPlayedWith explained lines file settings script old new errors_old errors_new reads writes status

abbrev pub IsPlayed : Settings → Option (List ℕ) → Option (List ℕ) → Option (List ℕ) → Option (List ℕ) → Option (List ℕ) → Reads → Writes → ℕ → Type 0
IsPlayed settings script old new errors_old errors_new reads writes status = IsPlayedOf false None settings script old new errors_old errors_new reads writes status

-- a file could not be opened, which is reported with its name; nothing was written
pub record IsUnopened {T : Type 0} (path : Text) (target target_new : T) (errors_old errors_new : Option (List ℕ)) (status : ℕ) : Type 0 where
  pub status_is : status ≡ 2
  pub unwritten : target_new ≡ target
  pub told : (kind : ErrorKind) × IsToldOf (Some path) (Run (Read kind)) errors_old errors_new

-- The script of the file that is named was played, of which `remaining` says what it had, and the source was not read; or the
-- script of the source, where no file is named.
pub record IsPlayedFrom {F S T : Type 0} (remaining : F → Option (List ℕ)) (options : PlayOptions) (source source_new : S) (target target_new : T)
    (input old new errors_old errors_new : Option (List ℕ)) (reads : Reads) (writes : Writes) (status : ℕ) : Type 0 where
  pub of_input : option_map string_bytes options.file ≡ None → IsPlayedOf options.explain None options.settings input old new errors_old errors_new reads writes status
  pub unread : (path : Text) → option_map string_bytes options.file ≡ Some path → source_new ≡ source
  pub of_file : (path : Text) → option_map string_bytes options.file ≡ Some path
      → IsUnopened path target target_new errors_old errors_new status
      ⊎ ((file : F) × (file_reads : Reads) × IsPlayedOf options.explain (Some path) options.settings (remaining file) old new errors_old errors_new file_reads writes status)

-- a device was set up by lines, of which so many were not done, and driven
abbrev pub IsDriveAnsweredWith : Bool → ℕ → Drive → Option (List ℕ) → Option (List ℕ) → Option (List ℕ) → Option (List ℕ) → Option (List ℕ) → Reads → Writes → ℕ → Type 0
IsDriveAnsweredWith explained lines settings script old new errors_old errors_new reads writes status =
    IsAnswered explained lines None (λ told lines all. IsDrivenOf settings all told lines old new) (λ all. IsPartlyDriven settings all old new) script old new errors_old errors_new reads writes status

abbrev pub IsDriveAnsweredOf : Bool → Drive → Option (List ℕ) → Option (List ℕ) → Option (List ℕ) → Option (List ℕ) → Option (List ℕ) → Reads → Writes → ℕ → Type 0
IsDriveAnsweredOf explained settings script old new errors_old errors_new reads writes status =
    (lines : ℕ) × IsDriveAnsweredWith explained lines settings script old new errors_old errors_new reads writes status

abbrev pub IsDriveAnswered : Drive → Option (List ℕ) → Option (List ℕ) → Option (List ℕ) → Option (List ℕ) → Option (List ℕ) → Reads → Writes → ℕ → Type 0
IsDriveAnswered settings script old new errors_old errors_new reads writes status = IsDriveAnsweredOf false settings script old new errors_old errors_new reads writes status

-- No read was made: help or the version was shown, or the command line was refused. Where the output was written to and the status
-- is 2, a write failed.
pub record IsShown {S T : Type 0} (source source_new : S) (target target_new : T) (errors_old errors_new : Option (List ℕ)) (writes : Writes) (status : ℕ) : Type 0 where
  pub unread : source_new ≡ source
  pub shown_or_refused : (status ≡ 0) ⊎ (status ≡ 2)
  pub silent : status ≡ 0 → Keeps errors_old errors_new
  pub kept : status ≡ 2 → (target_new ≡ target) ⊎ ((kind : ErrorKind) × IsTold (Help kind) errors_old errors_new × WriteFailed writes kind)

-- The words ask for no run: by clap's kind they ask for help or the version, or have a fault, or an allocation failed. The status is 0
-- for help and the version alone.
abbrev pub IsTurnedDown : List Text → ℕ → Type 0
IsTurnedDown words status = (kind : Kind) × IsRefused words kind × (status ≡ 0 → (kind ≡ DisplayHelp) ⊎ (kind ≡ DisplayVersion))

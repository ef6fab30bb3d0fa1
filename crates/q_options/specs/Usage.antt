-- What the error output has on wrong usage: one line that says what is wrong, and whose help says how the words are used. That it names what is
-- wrong before `; try` is this project's own; what is wrong is in clap's words.
use Rattle.std.specs.Prelude.{◌≡◌, ◌≢◌, ℕ, ◌≤◌, ◌⊎◌, List, [], ◌∷◌, ◌++◌, Option, All, codes, if◌then◌else◌}
use Rattle.std.specs.Io.KnownBytes.{Appends}
use Rattle.std.specs.Str.{bytes_eq}
use Rattle.std.specs.declared.io.ErrorKind.{ErrorKind}
use Rattle.clap.specs.Words.{Text}
use Rattle.clap.specs.declared.error.kind.ErrorKind.{ErrorKind as Kind}
use Rattle.clap.specs.declared.error.kind.ErrorKind.TheVariants.{DisplayHelp, DisplayVersion, OutOfMemory}
use Rattle.q_options.specs.Answer.{IsTold}
use Rattle.q_options.specs.CommandLine.{IsAsked, IsRefused}
use Rattle.q_options.specs.declared.fault.Fault.TheVariants.{Help, Run}
use Rattle.q_options.specs.declared.program_options.Options.{Options}
use Rattle.q_script.specs.declared.run_fault.RunFault.TheVariants.{Memory}
use Rattle.q_show.specs.Writes.{WriteFailed}
use Rattle.q_show.specs.Written.{AppendsFront}
use Rattle.q_show.specs.declared.target.Writes.{Writes}

-- the command that the words name behind the program, or the program alone
abbrev pub named_command : List Text → Text
named_command [] = codes "qtree"
named_command (program ∷ []) = codes "qtree"
named_command (program ∷ command ∷ more) =
    if bytes_eq command (codes "play") then codes "qtree play" else (if bytes_eq command (codes "drive") then codes "qtree drive" else codes "qtree")

-- a byte that ends no line, and is no control character of a terminal
abbrev pub IsPrintable : ℕ → Type 0
IsPrintable byte = (32 ≤ byte) × (byte ≢ 127)

-- the line, in which these words say what is wrong
abbrev pub usage_line : List Text → List ℕ → List ℕ
usage_line words wrong = codes "qtree: " ++ (wrong ++ (codes "; try '" ++ (named_command words ++ codes " --help'\n")))

-- the error output has that line and nothing else, or a front of it where it could not be written
abbrev pub IsUsageTold : List Text → Option (List ℕ) → Option (List ℕ) → Type 0
IsUsageTold words old new =
    (wrong : List ℕ) × All IsPrintable wrong × (Appends old new (usage_line words wrong) ⊎ AppendsFront old new (usage_line words wrong))

-- what is told where the help or the version is not written: memory for it was refused, or a write failed
abbrev pub IsHelpFailed : Writes → Option (List ℕ) → Option (List ℕ) → Type 0
IsHelpFailed writes old new = IsTold (Run Memory) old new ⊎ ((kind : ErrorKind) × IsTold (Help kind) old new × WriteFailed writes kind)

-- What is told where the words ask for no run and the status is 2, by clap's kind: that memory was refused, that the help or the version is
-- not written, or else the line on wrong usage.
abbrev pub IsToldBy : List Text → Kind → Writes → Option (List ℕ) → Option (List ℕ) → Type 0
IsToldBy words kind writes old new =
    ((kind ≡ OutOfMemory) × IsTold (Run Memory) old new)
    ⊎ (((kind ≡ DisplayHelp) ⊎ (kind ≡ DisplayVersion)) × IsHelpFailed writes old new)
    ⊎ IsUsageTold words old new

-- no run is asked for
abbrev pub AsksForNothing : List Text → Type 0
AsksForNothing words = (options : Options) → IsAsked words options → ⊥

-- the words are turned down with a line
abbrev pub IsTurnedDownWith : List Text → Writes → Option (List ℕ) → Option (List ℕ) → Type 0
IsTurnedDownWith words writes old new = (kind : Kind) × IsRefused words kind × IsToldBy words kind writes old new

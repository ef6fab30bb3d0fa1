-- What standard input does before the senders run: tc's lines change the device or show it, comments and blank lines do nothing,
-- and of any other line the first word is unknown.
use Rattle.std.specs.Prelude.{◌≡◌, ℕ, Bool, List, [], ◌∷◌, if◌then◌else◌, codes, Result, Ok, Err}
use Rattle.std.specs.Str.{bytes_eq, is_utf8}
use Rattle.q_line.specs.Grammar.{line_of_words}
use Rattle.q_line.specs.declared.line.Line.{Line}
use Rattle.q_line.specs.declared.line.Line.TheVariants as line
use Rattle.q_model.specs.Tally.{Counts, no_totals, totals}
use Rattle.q_script_semantics.specs.Report.{SessionState, commanded, refusing, show_text, silent}
use Rattle.q_script_semantics.specs.Report as report
use Rattle.q_script.specs.Script.{fault_line}
use Rattle.q_script.specs.Step.{Effect}
use Rattle.q_session.specs.Session.{SessionSeen, seen}
use Rattle.q_words.specs.Words.{is_blank_line, words_in}
use Rattle.q_words.specs.declared.line_fault.LineFault.{LineFault}
use Rattle.q_words.specs.declared.line_fault.LineFault.TheVariants.{BadUtf8, UnknownWord}
use Rattle.q_drive.specs.declared.set_up_line.SetUpLine.{SetUpLine}
use Rattle.q_drive.specs.declared.set_up_line.SetUpLine.TheVariants.{Blank, Show, Tc}

-- the lines that set up a device
abbrev pub narrowed : Line → Result SetUpLine LineFault
narrowed line.Blank = Ok Blank
narrowed (line.Tc command) = Ok (Tc command)
narrowed (line.Show show) = Ok (Show show)
narrowed other = Err (UnknownWord 1)

abbrev pub narrowed_line : Result Line LineFault → Result SetUpLine LineFault
narrowed_line (Ok l) = narrowed l
narrowed_line (Err fault) = Err fault

-- a first word other than `tc` is unknown, or not even UTF-8
abbrev pub by_first_word : List ℕ → Result SetUpLine LineFault → Result SetUpLine LineFault
by_first_word word read = if is_utf8 word then (if bytes_eq word (codes "tc") then read else Err (UnknownWord 1)) else Err (BadUtf8 1)

abbrev pub said_by_words : List (List ℕ) → Result SetUpLine LineFault
said_by_words [] = Ok Blank
said_by_words (word ∷ words) =
    if is_blank_line (word ∷ words) then Ok Blank else by_first_word word (narrowed_line (line_of_words (word ∷ words)))

-- what a line's bytes say, or its fault
abbrev pub said : List ℕ → Result SetUpLine LineFault
said bytes = said_by_words (words_in bytes)

-- what it writes and leaves, as the same line does in a script that is played
abbrev pub done : Bool → ℕ → Result SetUpLine LineFault → SessionState Counts → report.Effect Counts
done starved k (Err fault) s = refusing (fault_line k fault) s
done starved k (Ok Blank) s = silent s
done starved k (Ok (Tc command)) s = commanded totals starved k command s
done starved k (Ok (Show show)) s = record { text = show_text totals show s.device; session = s }

abbrev pub effect_of : Bool → ℕ → List ℕ → SessionSeen → Effect SessionSeen
effect_of starved k line s = seen s (done starved k (said line) s.state)

-- nothing has arrived at the device
abbrev pub IsUnused : SessionSeen → Type 0
IsUnused s = s.state.device.tree.top.arrived ≡ no_totals

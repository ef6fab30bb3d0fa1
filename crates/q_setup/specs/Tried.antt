-- What the lines of a file make of a new device, and which of them it does not do.
use Rattle.std.specs.Prelude.{ℕ, ◌+◌, Bool, false, ◌||◌, List, [], ◌∷◌, ◌++◌, Option, Some, None, Result, Ok, Err}
use Rattle.q_line.specs.Grammar.{line_of}
use Rattle.q_line.specs.declared.line.Line.{Line}
use Rattle.q_line.specs.declared.line.Line.TheVariants as line
use Rattle.q_model.specs.declared.command.Command.{Command}
use Rattle.q_model.specs.declared.event.Event.TheVariants as event
use Rattle.q_model.specs.declared.reply.Reply.{Reply}
use Rattle.q_model.specs.declared.reply.Reply.TheVariants as reply
use Rattle.q_model.specs.Settings.{DeviceSettings}
use Rattle.q_model.specs.Step.{DeviceState, new_device, step}
use Rattle.q_model.specs.Tally.{Counts, totals}
use Rattle.q_script.specs.Script.{lines_of}
use Rattle.q_words.specs.declared.line_fault.LineFault.{LineFault}
use Rattle.q_setup.specs.Naming.{names_chosen}
use Rattle.q_setup.specs.declared.trial.Undone.{Undone}
use Rattle.q_setup.specs.declared.trial.Why.{Why}
use Rattle.q_setup.specs.declared.trial.Why.TheVariants as why

-- what the lines so far have made of the device, how many they were, which of them it did not do, the commands of those that it
-- did, and whether one of them names a number that a device chooses
pub record Tried : Type 0 where
  pub device : DeviceState Counts
  pub lines : ℕ
  pub undone : List Undone
  pub commands : List Command
  pub names_chosen : Bool

-- why a command is not done
abbrev pub why_refused : Reply → Option Why
why_refused (reply.Done (Err refusal)) = Some (why.Refusal refusal)
why_refused (reply.Done (Ok done)) = None
why_refused (reply.Fate fate) = None
why_refused (reply.Polled polled) = None

-- why a line is not done
abbrev pub why_undone : ℕ → Result Line LineFault → DeviceState Counts → Option Why
why_undone now (Err fault) d = Some (why.Fault fault)
why_undone now (Ok line.Blank) d = None
why_undone now (Ok (line.Tc c)) d = why_refused (step totals d (event.Command c now)).reply
why_undone now (Ok other) d = Some why.NoCommand

-- the device after it: a refused command changes nothing
abbrev pub after_line : ℕ → Result Line LineFault → DeviceState Counts → DeviceState Counts
after_line now (Ok (line.Tc c)) d = (step totals d (event.Command c now)).device
after_line now (Ok other) d = d
after_line now (Err fault) d = d

abbrev pub line_names : Result Line LineFault → Bool
line_names (Ok (line.Tc c)) = names_chosen c
line_names (Ok other) = false
line_names (Err fault) = false

-- the command of a line that is done
abbrev pub done_by : Result Line LineFault → Option Why → List Command
done_by (Ok (line.Tc c)) None = c ∷ []
done_by (Ok (line.Tc c)) (Some w) = []
done_by (Ok other) w = []
done_by (Err fault) w = []

-- a line that was not done is noted by its number, from 1
abbrev pub noted : ℕ → Option Why → List Undone
noted number None = []
noted number (Some w) = record { line = number; why = w } ∷ []

abbrev pub with_read : ℕ → Tried → Result Line LineFault → Tried
with_read now t read = record {
  device = after_line now read t.device;
  lines = t.lines + 1;
  undone = t.undone ++ noted (t.lines + 1) (why_undone now read t.device);
  commands = t.commands ++ done_by read (why_undone now read t.device);
  names_chosen = t.names_chosen || line_names read;
}

abbrev pub with_line : ℕ → Tried → List ℕ → Tried
with_line now t bytes = with_read now t (line_of bytes)

-- the lines in turn
abbrev pub with_lines : ℕ → Tried → List (List ℕ) → Tried
with_lines now t [] = t
with_lines now t (l ∷ lines) = with_lines now (with_line now t l) lines

-- on a new device
abbrev pub nothing_tried : DeviceSettings → Tried
nothing_tried settings = record { device = new_device totals settings; lines = 0; undone = []; commands = []; names_chosen = false }

abbrev pub tried : DeviceSettings → List ℕ → ℕ → Tried
tried settings text now = with_lines now (nothing_tried settings) (lines_of text)

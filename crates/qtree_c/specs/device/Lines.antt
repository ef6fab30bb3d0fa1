-- What a line of tc does to an open device, and what C is answered.
-- The lines are those of the script language; what a command does is in q_model's specs/Step.antt.
use Rattle.std.specs.Prelude.{◌≡◌, ◌≢◌, ℕ, Result, Ok, Err}
use Rattle.q_device.specs.device.DeviceSeen.{DeviceSeen, IsRefusal, IsRefusedAt}
use Rattle.q_line.specs.declared.line.Line.{Line}
use Rattle.q_line.specs.declared.line.Line.TheVariants as line
use Rattle.q_model.specs.Refusal.{refusal_number}
use Rattle.q_model.specs.declared.command.Command.{Command}
use Rattle.q_model.specs.declared.event.Event.TheVariants as event
use Rattle.q_model.specs.declared.refusal.Refusal.{Refusal}
use Rattle.q_tree.specs.commands.Commanding.{MayTakeMemory}
use Rattle.q_words.specs.FaultText.{fault_number, fault_word}
use Rattle.q_words.specs.declared.line_fault.LineFault.{LineFault}
use Rattle.q_device.specs.Events.{after_event, reply_to, with_memory}
use Rattle.qtree_c.specs.abi.Codes.{reply_number}
use Rattle.qtree_c.specs.declared.abi.c_fault.CFault.{CFault}

-- a fault as C has it
abbrev pub fault_of : LineFault → CFault
fault_of f = record { word = fault_word f; number = fault_number f }

-- A command is done, and 0 is answered, as by the model; or nothing changed, and the number of its refusal is answered.
pub record IsCommand (c : Command) (now code : ℕ) (d n : DeviceSeen) : Type 0 where
  pub done : code ≡ 0 → n ≡ with_memory n.memory (after_event (event.Command c now) d)
  pub allowed : code ≡ 0 → reply_number (reply_to (event.Command c now) d) ≡ 0
  pub refused : code ≢ 0 → (refusal : Refusal) × (code ≡ refusal_number refusal) × IsRefusal (MayTakeMemory c) (reply_to (event.Command c now) d) refusal × IsRefusedAt c now d refusal
  pub same : code ≢ 0 → n ≡ d

-- a line that is none of the language
pub record IsFaulty (f : LineFault) (code : ℕ) (after : CFault) (d n : DeviceSeen) : Type 0 where
  pub answer : code ≡ 40
  pub fault : after ≡ fault_of f
  pub same : n ≡ d

-- a line of the language that changes no tree: nothing, a show line, a packet and the like
pub record IsOther (code : ℕ) (d n : DeviceSeen) : Type 0 where
  pub answer : code ≡ 41
  pub same : n ≡ d

-- what a line does, by what it says
abbrev pub IsLine : Result Line LineFault → ℕ → ℕ → CFault → DeviceSeen → DeviceSeen → Type 0
IsLine (Err f) now code after d n = IsFaulty f code after d n
IsLine (Ok (line.Tc c)) now code after d n = IsCommand c now code d n
IsLine (Ok line.Blank) now code after d n = IsOther code d n
IsLine (Ok (line.Show show)) now code after d n = IsOther code d n
IsLine (Ok (line.At moment)) now code after d n = IsOther code d n
IsLine (Ok (line.Pkt arrival)) now code after d n = IsOther code d n
IsLine (Ok (line.Frame len head)) now code after d n = IsOther code d n
IsLine (Ok (line.Poll polls)) now code after d n = IsOther code d n
IsLine (Ok line.Reap) now code after d n = IsOther code d n
IsLine (Ok line.Totals) now code after d n = IsOther code d n

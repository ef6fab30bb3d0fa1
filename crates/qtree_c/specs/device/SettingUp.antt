-- What a file of tc lines does to an open device, and what C is told of it.
-- What is done is q_setup's (SetUp.antt, Done.antt); how it is told is this project's own.
use Rattle.std.specs.Prelude.{◌≡◌, ◌≢◌, ℕ, ◌<◌, List, [], ◌++◌, drop, length, map, take, Option, None}
use Rattle.q_device.specs.device.DeviceSeen.{DeviceSeen}
use Rattle.q_device.specs.log.LastNoted.{LastNoted}
use Rattle.q_model.specs.Refusal.{refusal_number}
use Rattle.q_model.specs.declared.command.Command.{Command}
use Rattle.q_model.specs.declared.event.Event.{Event}
use Rattle.q_model.specs.declared.event.Event.TheVariants as event
use Rattle.q_model.specs.Step.{counts_at}
use Rattle.q_script.specs.Script.{lines_of}
use Rattle.q_setup.specs.declared.trial.Undone.{Undone}
use Rattle.q_setup.specs.declared.trial.Why.{Why}
use Rattle.q_setup.specs.declared.trial.Why.TheVariants as why
use Rattle.q_setup.specs.Done.{AreAccepted, after_commands}
use Rattle.q_setup.specs.Effects.{additions, changes, deletions}
use Rattle.q_setup.specs.SetUp.{HasAlready, IsSetUp, wanted}
use Rattle.q_device.specs.Events.{with_memory}
use Rattle.qtree_c.specs.device.Lines.{fault_of}
use Rattle.qtree_c.specs.events.Noting.{noting}
use Rattle.qtree_c.specs.declared.abi.c_fault.CFault.{CFault}
use Rattle.qtree_c.specs.declared.abi.c_report.CReport.{CReport}
use Rattle.qtree_c.specs.declared.abi.c_undone.CUndone.{CUndone}

-- nothing was read, and nothing done
abbrev pub no_report : CReport
no_report = record { lines = 0; added = 0; changed = 0; deleted = 0; undone = 0 }

-- a line that is not done, as C has it
abbrev pub no_fault : CFault
no_fault = record { word = 0; number = 0 }

abbrev pub fault_in : Why → CFault
fault_in (why.Fault f) = fault_of f
fault_in (why.Refusal refusal) = no_fault
fault_in why.NoCommand = no_fault

abbrev pub code_in : Why → ℕ
code_in (why.Fault f) = 40
code_in (why.Refusal refusal) = refusal_number refusal
code_in why.NoCommand = 41

abbrev pub undone_of : Undone → CUndone
undone_of u = record { fault = fault_in u.why; line = u.line; code = code_in u.why }

-- the first of them, as many as there are places
abbrev pub told_undone : List Undone → List CUndone → List CUndone
told_undone undone places = take (length places) (map undone_of undone) ++ drop (length undone) places

-- commands as events at this time
abbrev pub commands_at : ℕ → List Command → List Event
commands_at at commands = map (λ c. event.Command c at) commands

-- Some commands are done, each as an event that counts now, and noted; they are counted by what they do. 0: the tree is what the lines
-- make of a new device. 44: some lines are not done there, and nothing was done. 90: an allocation failed, before the first command or at
-- one.
pub record IsSettingUp (text : List ℕ) (now code : ℕ) (report : CReport) (before after : List CUndone) (last next : Option LastNoted) (d n : DeviceSeen) : Type 0 where
  pub commands : List Command
  pub device : n ≡ with_memory n.memory (after_commands now commands d)
  pub accepted : AreAccepted now commands d
  pub noted : next ≡ noting (commands_at (counts_at now d.device) commands) last
  pub added : report.added ≡ additions commands
  pub changed : report.changed ≡ changes commands
  pub deleted : report.deleted ≡ deletions commands
  pub codes : code ≢ 0 → code ≢ 44 → code ≡ 90
  pub done : code ≡ 0 → IsSetUp (wanted d text now) None n
  pub complete : (wanted d text now).undone ≡ [] → code ≢ 90 → code ≡ 0
  pub again : HasAlready (wanted d text now) d → commands ≡ []
  pub kept : HasAlready (wanted d text now) d → code ≢ 90 → code ≡ 0
  pub refused : code ≡ 44 → n ≡ d
  pub faulty : code ≡ 44 → 0 < length (wanted d text now).undone
  pub lines : code ≢ 90 → report.lines ≡ length (lines_of text)
  pub undone : code ≢ 90 → report.undone ≡ length (wanted d text now).undone
  pub told : code ≢ 90 → after ≡ told_undone (wanted d text now).undone before

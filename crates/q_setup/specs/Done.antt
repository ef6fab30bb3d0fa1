-- What commands in turn make of a device, each at the same time.
use Rattle.std.specs.Prelude.{◌≡◌, ℕ, List, [], ◌∷◌, ◌++◌, Option, Some, None, Ok}
use Rattle.q_model.specs.declared.command.Command.{Command}
use Rattle.q_model.specs.declared.event.Event.TheVariants as event
use Rattle.q_model.specs.declared.refusal.Refusal.{Refusal}
use Rattle.q_model.specs.declared.reply.Reply.TheVariants as reply
use Rattle.q_model.specs.Step.{step}
use Rattle.q_model.specs.Tally.{totals}
use Rattle.q_tree.specs.commands.Commanding.{MayTakeMemory}
use Rattle.q_device.specs.device.DeviceSeen.{DeviceSeen, IsRefusal, with_event}

-- the device after events that are commands: its tree and losses as the model's step leaves them, recorded and counted
abbrev pub after_commands : ℕ → List Command → DeviceSeen → DeviceSeen
after_commands now [] d = d
after_commands now (c ∷ commands) d = after_commands now commands (with_event (event.Command c now) d)

-- the model does the command
abbrev pub IsAccepted : ℕ → Command → DeviceSeen → Type 0
IsAccepted now c d = reply.Done (Ok (record {})) ≡ (step totals d.device (event.Command c now)).reply

-- each of them is done by the device that those before it have left
abbrev pub AreAccepted : ℕ → List Command → DeviceSeen → Type 0
AreAccepted now [] d = Unit {0}
AreAccepted now (c ∷ commands) d =
    IsAccepted now c d × AreAccepted now commands (with_event (event.Command c now) d)

-- this command is refused so by this device, for the model's reason, or since an allocation failed
abbrev pub IsRefusedAs : ℕ → DeviceSeen → Option Command → Refusal → Type 0
IsRefusedAs now d None refusal = ⊥
IsRefusedAs now d (Some c) refusal = IsRefusal (MayTakeMemory c) (step totals d.device (event.Command c now)).reply refusal

-- some command is refused so by this device: for the model's reason, or since an allocation failed
abbrev pub IsRefusedBy : ℕ → DeviceSeen → Refusal → Type 0
IsRefusedBy now d refusal = (c : Command) × IsRefusal (MayTakeMemory c) (step totals d.device (event.Command c now)).reply refusal

-- more commands were done, to a device that those before have left
pub record GoesOn (now : ℕ) (before after : List Command) (old new : DeviceSeen) : Type 0 where
  pub more : List Command
  pub commands : after ≡ before ++ more
  pub device : new ≡ record (after_commands now more old) { memory = new.memory }
  pub accepted : AreAccepted now more old

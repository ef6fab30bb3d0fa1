-- How a tree is built anew: it is emptied, and then the lines of the file are done, as on a new device.
use Rattle.std.specs.Prelude.{◌≡◌, ℕ, Bool, if◌then◌else◌, is_some, List, [], ◌∷◌, Some, None, Ok}
use Rattle.q_model.specs.declared.command.Command.{Command}
use Rattle.q_model.specs.declared.command.Command.TheVariants.{QdiscAdd, QdiscDel}
use Rattle.q_model.specs.declared.event.Event.TheVariants as event
use Rattle.q_model.specs.declared.kind.Kind.TheVariants as kind
use Rattle.q_model.specs.declared.place.Place.TheVariants as place
use Rattle.q_model.specs.declared.reply.Reply.TheVariants as reply
use Rattle.q_model.specs.Settings.{DeviceSettings}
use Rattle.q_model.specs.Step.{DeviceState, new_device, step}
use Rattle.q_model.specs.Tally.{Counts, totals}
use Rattle.q_setup.specs.Tried.{Tried}

-- a root that can be deleted, since an implicit one cannot
abbrev pub add_root : Command
add_root = QdiscAdd place.Root None (kind.Pfifo None)

-- the implicit root comes back, empty
abbrev pub delete_root : Command
delete_root = QdiscDel (Some place.Root) None

-- what empties a tree whose root is explicit, or implicit
abbrev pub emptying : Bool → List Command → List Command
emptying explicit lines = if explicit then delete_root ∷ lines else add_root ∷ delete_root ∷ lines

-- whether the root of a device is explicit
abbrev pub has_explicit_root : DeviceState Counts → Bool
has_explicit_root d = is_some d.tree.root.own.handle

-- what commands in turn make of a device of the model, each at the same time, and that it does each of them
abbrev pub after_all : ℕ → List Command → DeviceState Counts → DeviceState Counts
after_all now [] d = d
after_all now (c ∷ commands) d = after_all now commands (step totals d (event.Command c now)).device

abbrev pub AllAreDone : ℕ → List Command → DeviceState Counts → Type 0
AllAreDone now [] d = Unit {0}
AllAreDone now (c ∷ commands) d =
    ((step totals d (event.Command c now)).reply ≡ reply.Done (Ok (record {}))) × AllAreDone now commands (step totals d (event.Command c now)).device

-- the commands of the lines that were tried at this time, on a new device, which did each of them
pub record IsTrial (settings : DeviceSettings) (now : ℕ) (t : Tried) : Type 0 where
  pub done : AllAreDone now t.commands (new_device totals settings)
  pub device : t.device ≡ after_all now t.commands (new_device totals settings)

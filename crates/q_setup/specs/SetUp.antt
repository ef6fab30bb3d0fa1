-- What a report says of a device that was set up.
use Rattle.std.specs.Prelude.{◌≡◌, ℕ, not, List, [], Option, None}
use Rattle.q_model.specs.declared.refusal.Refusal.{Refusal}
use Rattle.q_device.specs.device.DeviceSeen.{DeviceSeen}
use Rattle.q_model.specs.Step.{counts_at}
use Rattle.q_setup.specs.Alike.{AreAlike, entries}
use Rattle.q_setup.specs.Tried.{Tried, tried}

-- what the lines make of a new device with the settings of this one, at the time at which an event counts here
abbrev pub wanted : DeviceSeen → List ℕ → ℕ → Tried
wanted d text now = tried d.settings text (counts_at now d.device)

-- A new device does every line, and the tree of this one is what they make of that: a file that is read again, and has not changed.
pub record HasAlready (t : Tried) (d : DeviceSeen) : Type 0 where
  pub done : t.undone ≡ []
  pub tree : AreAlike (not t.names_chosen) (entries t.device.tree) (entries d.device.tree)

-- A new device does every line, no command was refused, and the tree is what the lines make of that new device, but for what it
-- holds and counted, for the order of a drr's classes, and for numbers that no line names.
pub record IsSetUp (t : Tried) (refusal : Option Refusal) (d : DeviceSeen) : Type 0 where
  pub done : t.undone ≡ []
  pub accepted : refusal ≡ None
  pub tree : AreAlike (not t.names_chosen) (entries t.device.tree) (entries d.device.tree)

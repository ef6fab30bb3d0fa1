-- What a device is: the replay of what happened to it.
-- q_model's specs/Replay.antt says what a list of events makes of a new device.
use Rattle.std.specs.Prelude.{◌≡◌, ◌≤◌, List, min, length, take, drop}
use Rattle.q_model.specs.declared.event.Event.{Event}
use Rattle.q_model.specs.Replay.{replay}
use Rattle.q_model.specs.Tally.{totals}
use Rattle.q_device.specs.device.DeviceSeen.{DeviceSeen, most_events}

-- The device is what these events made of a new one: its tree with totals, and its losses, the first of which were handed out
-- while the others wait. The first of the events are recorded, as many as the settings say, and all are counted.
pub record IsReplayOf (events : List Event) (d : DeviceSeen) : Type 0 where
  pub device : d.device ≡ (replay totals d.settings events).device
  pub handed_out : d.handed_out ≤ length (replay totals d.settings events).losses
  pub waiting : d.waiting ≡ drop d.handed_out (replay totals d.settings events).losses
  pub recorded : d.recorded ≡ take d.settings.recorder events
  pub counted : d.events ≡ min (length events) most_events

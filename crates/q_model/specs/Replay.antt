-- The replay of a list of events: the device that they make of a new one, what each is answered, and all that is lost.
-- A device is to be the replay of its recorded events.
use Rattle.std.specs.Prelude.{List, [], ◌∷◌, ◌++◌}
use Rattle.q_codel.specs.declared.loss.Loss.{Loss}
use Rattle.q_model.specs.Tally.{Tally}
use Rattle.q_model.specs.declared.event.Event.{Event}
use Rattle.q_model.specs.declared.reply.Reply.{Reply}
use Rattle.q_model.specs.Settings.{DeviceSettings}
use Rattle.q_model.specs.Step.{DeviceState, Step, new_device, step}

pub record Replay (M : Type 0) : Type 0 where
  pub device : DeviceState M
  pub replies : List Reply
  pub losses : List Loss

-- an event more
abbrev pub with_step : {M : Type 0} → Replay M → Step M → Replay M
with_step r s = record { device = s.device; replies = r.replies ++ s.reply ∷ []; losses = r.losses ++ s.losses }

abbrev pub replay_from : {M : Type 0} → Tally M → Replay M → List Event → Replay M
replay_from t r [] = r
replay_from t r (e ∷ events) = replay_from t (with_step r (step t r.device e)) events

-- from a new device
abbrev pub nothing_yet : {M : Type 0} → Tally M → DeviceSettings → Replay M
nothing_yet t settings = record { device = new_device t settings; replies = []; losses = [] }

abbrev pub replay : {M : Type 0} → Tally M → DeviceSettings → List Event → Replay M
replay t settings events = replay_from t (nothing_yet t settings) events

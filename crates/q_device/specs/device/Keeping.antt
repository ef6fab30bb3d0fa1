-- What a device of the code keeps, whatever happens to it.
-- Nothing here is of a standard.
use Rattle.std.specs.Prelude.{ℕ, ◌+◌, ◌*◌, ◌<◌, ◌≤◌, ◌^◌, min, if◌then◌else◌, is_some, List, All, length, vec_capacity}
use Rattle.q_model.specs.declared.event.Event.{Event}
use Rattle.q_model.specs.declared.event.Event.TheVariants as event
use Rattle.q_model.specs.Beneath.{beneath}
use Rattle.q_model.specs.Events.{IsEvent}
use Rattle.q_model.specs.Settings.{IsInRange}
use Rattle.q_model.specs.Step.{DeviceState, counts_at}
use Rattle.q_model.specs.Tally.{Counts}
use Rattle.q_model.specs.TreeState.{given}
use Rattle.q_tree.specs.TreeSeen.{numbers}
use Rattle.q_device.specs.declared.device.Device.TheInside.{Inside}
use Rattle.q_device.specs.device.DeviceSeen.{DeviceSeen, longest, most_events}
use Rattle.q_device.specs.Replayed.{IsReplayOf}

-- Each event brought a packet, sent one, or is counted by itself; the number stays at the greatest that is counted.
abbrev pub events_of : Inside → ℕ
events_of a = min (a.tree.tree.top.counts.arrived.packets + a.tree.tree.top.counts.sent.packets + a.others) most_events

-- those that are counted by themselves, after one event more
abbrev pub others_after : Event → DeviceState Counts → ℕ → ℕ
others_after (event.Arrive p moment) d others = others
others_after (event.Poll moment) d others = if is_some (given (counts_at moment d) d.tree) then others else min (others + 1) most_events
others_after (event.Command c moment) d others = min (others + 1) most_events

-- what a contract sees: of the tree the model's device is without its places, which mean nothing to the rules
abbrev pub device_seen : Inside → DeviceSeen
device_seen a = record {
  settings = a.settings;
  device = numbers a.tree;
  waiting = a.losses.waiting;
  handed_out = a.handed_out;
  recorded = a.recorded.items;
  events = events_of a;
  memory = record { tree = a.tree; losses = a.losses.places; events = vec_capacity a.recorded };
}

-- It is the replay of all that happened to it. It has one clock, that of its tree, since every event gives the tree the time at which
-- it counts: the replay has this clock too. The lost list has a place for each packet that is queued beside the losses that wait, so that
-- a poll needs no memory, and the recorder has its places. So many packets as `spare` says may arrive besides, of any lengths: the lost
-- list has places for them too, what the device counts of arrivals stays below 2^64, and the recorder is full.
pub record IsKeptDevice (a : Inside) : Type 0 where
  pub happened : List Event
  pub events : All IsEvent happened
  pub settings : IsInRange a.settings
  pub replayed : IsReplayOf happened (device_seen a)
  pub room : length (beneath a.tree.tree.root) + length a.losses.waiting + a.spare ≤ a.losses.places
  pub recorder : a.settings.recorder ≤ vec_capacity a.recorded
  pub full : 1 ≤ a.spare → a.settings.recorder ≤ length a.recorded.items
  pub packets : a.tree.tree.top.counts.arrived.packets + a.spare < 2 ^ 64
  pub bytes : a.tree.tree.top.counts.arrived.bytes + a.spare * longest < 2 ^ 64

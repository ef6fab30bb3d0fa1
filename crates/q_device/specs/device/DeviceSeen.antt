-- What a contract sees of a device of the code, and what an event and a reap make of it.
-- q_model's specs/Step.antt says what an event makes of the tree; the recorder and the lost list are this project's own.
use Rattle.std.specs.Prelude.{◌≡◌, Ok, Err, ℕ, ◌+◌, ◌-◌, ◌^◌, ◌≤◌, min, if◌then◌else◌, nat_lt, List, [], ◌∷◌, ◌++◌, length, take, drop}
use Rattle.q_packet.specs.Descriptor.{Descriptor}
use Rattle.q_codel.specs.declared.loss.Loss.{Loss}
use Rattle.q_model.specs.declared.command.Command.{Command}
use Rattle.q_model.specs.declared.event.Event.{Event}
use Rattle.q_model.specs.declared.event.Event.TheVariants as event
use Rattle.q_model.specs.declared.refusal.Refusal.{Refusal}
use Rattle.q_model.specs.declared.refusal.Refusal.TheVariants as refusals
use Rattle.q_model.specs.declared.reply.Reply.{Reply}
use Rattle.q_model.specs.declared.reply.Reply.TheVariants as reply
use Rattle.q_model.specs.Beneath.{beneath}
use Rattle.q_model.specs.Settings.{DeviceSettings}
use Rattle.q_model.specs.Step.{DeviceState, new_device, counts_at, step}
use Rattle.q_model.specs.Tally.{Counts, totals}
use Rattle.q_model.specs.TreeState.{take_packet}
use Rattle.q_tree.specs.arrival.Places.{places_at}
use Rattle.q_tree.specs.commands.Commanding.{WantsMemory}
use Rattle.q_tree.specs.commands.Commands.{IsDone, IsRefused, plan_of}
use Rattle.q_tree.specs.Kept.{Kept, kept}
use Rattle.q_tree.specs.route.RouteSeen.{route_seen}
use Rattle.q_tree.specs.TreeSeen.{CanArrive}

-- The memory of a device, which no rule reads: its tree as the code has it, whose queues have places, and the places of its
-- lost list and of its recorder.
pub record Memory : Type 0 where
  pub tree : DeviceState Kept
  pub losses : ℕ
  pub events : ℕ

-- Its settings, and its clock and tree with totals. The losses that wait, oldest first, and how many were handed out before
-- them. The events that are recorded, the first ones first, and how many there were in all. Its memory.
pub record DeviceSeen : Type 0 where
  pub settings : DeviceSettings
  pub device : DeviceState Counts
  pub waiting : List Loss
  pub handed_out : ℕ
  pub recorded : List Event
  pub events : ℕ
  pub memory : Memory

-- a device to which nothing has happened, with this memory
abbrev pub opened : DeviceSettings → Memory → DeviceSeen
opened settings memory = record { settings = settings; device = new_device totals settings; waiting = []; handed_out = 0; recorded = []; events = 0; memory = memory }

-- an event with the time at which it counts
abbrev pub as_counted : DeviceState Counts → Event → Event
as_counted d (event.Arrive p moment) = event.Arrive p (counts_at moment d)
as_counted d (event.Poll moment) = event.Poll (counts_at moment d)
as_counted d (event.Command c moment) = event.Command c (counts_at moment d)

-- one event more, while there is room
abbrev pub with_recorded : {A : Type 0} → ℕ → A → List A → List A
with_recorded most e events = if nat_lt (length events) most then events ++ e ∷ [] else events

-- the greatest number of events that is counted: there the count stays
abbrev pub most_events : ℕ
most_events = 2 ^ 64 - 1

-- the most bytes that a packet has
abbrev pub longest : ℕ
longest = 65535

-- An event is a step, whose losses wait behind the others. It is counted, and recorded as it counted.
abbrev pub with_event : Event → DeviceSeen → DeviceSeen
with_event e d =
    let s = step totals d.device e in
    record d {
      device = s.device;
      waiting = d.waiting ++ s.losses;
      recorded = with_recorded d.settings.recorder (as_counted d.device e) d.recorded;
      events = min (d.events + 1) most_events;
    }

-- the oldest of the losses that wait is handed out, where one waits
abbrev pub reaped : DeviceSeen → DeviceSeen
reaped d = record d { waiting = drop 1 d.waiting; handed_out = d.handed_out + length (take 1 d.waiting) }

-- A packet can arrive without memory: where it is not refused its queue has a place, the device can count it, and the lost list
-- has a place more than the losses that wait and the packets that are queued.
pub record HasRoomFor (p : Descriptor) (d : DeviceSeen) : Type 0 where
  pub tree : CanArrive (route_seen p d.memory.tree.tree.device.mtu d.memory.tree.tree.root) d.memory.tree
  pub losses : length d.waiting + length (beneath d.device.tree.root) + 1 ≤ d.memory.losses

-- No queue of the tree has fewer places than it had, whichever path leads to it.
abbrev pub HasNoFewerPlaces : Memory → Memory → Type 0
HasNoFewerPlaces before after = (path : List ℕ) → places_at path before.tree.tree.root ≤ places_at path after.tree.tree.root

-- The memory after a command at this time: the tree is as the command's plan says, in which a queue that stays has the places that
-- it had, and a new one none.
abbrev pub IsCommanded : Command → ℕ → Memory → Memory → Type 0
IsCommanded command now before after = IsDone now (plan_of command now before.tree) before.tree after.tree

-- A command is refused for the first reason of its plan; or, where the plan does it and takes memory, since an allocation failed.
abbrev pub IsRefusedAt : Command → ℕ → DeviceSeen → Refusal → Type 0
IsRefusedAt command now d refusal =
    let plan = plan_of command (counts_at now d.device) d.memory.tree in
    IsRefused (WantsMemory command plan) plan refusal

-- The memory after a poll at this time: the packets that it took have left the tree, and every place is still there.
abbrev pub polled_memory : ℕ → Memory → Memory
polled_memory now m = record m { tree = record { clock = now; tree = take_packet kept now m.tree.tree } }

-- The refusal of a command: the step's, or, where the step does the command, an allocation failure.
abbrev pub IsRefusal : Type 0 → Reply → Refusal → Type 0
IsRefusal memory (reply.Done (Err first)) refusal = refusal ≡ first
IsRefusal memory (reply.Done (Ok done)) refusal = (refusal ≡ refusals.Memory) × memory
IsRefusal memory (reply.Fate fate) refusal = ⊥
IsRefusal memory (reply.Polled polled) refusal = ⊥

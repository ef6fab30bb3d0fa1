-- What is true of every device that a program has, whatever happened to it.
-- The counters are those of `tc -s qdisc show` (tc(8)); the rest is this project's own.
use Rattle.std.specs.Prelude.{◌≡◌, ◌≤◌, ◌+◌, List, All, length, IfSome}
use Rattle.q_model.specs.declared.event.Event.{Event}
use Rattle.q_model.specs.declared.place.Place.{Place}
use Rattle.q_model.specs.Beneath.{beneath}
use Rattle.q_model.specs.Conserved.{IsBalanced}
use Rattle.q_model.specs.Events.{IsEvent}
use Rattle.q_model.specs.Lawful.{IsLawfulTree}
use Rattle.q_model.specs.Step.{DeviceState, step}
use Rattle.q_model.specs.Tally.{Counts, totals}
use Rattle.q_model.specs.TreeState.{stats}
use Rattle.q_device.specs.Counters.{HasNotFallen, arrived_after}
use Rattle.q_tree.specs.TreeSeen.{tree_numbers}
use Rattle.q_device.specs.device.DeviceSeen.{DeviceSeen}
use Rattle.q_device.specs.Replayed.{IsReplayOf}

-- it is the replay of some events, which happened to it
pub record IsReplayed (d : DeviceSeen) : Type 0 where
  pub happened : List Event
  pub events : All IsEvent happened
  pub replayed : IsReplayOf happened d

-- where there were no more events than the recorder keeps, it is the replay of those that are recorded
abbrev pub IsReplayOfRecorded : DeviceSeen → Type 0
IsReplayOfRecorded d = d.events ≤ d.settings.recorder → IsReplayOf d.recorded d

-- its tree is lawful, and no packet is missing in a row
pub record IsLawfulDevice (d : DeviceSeen) : Type 0 where
  pub tree : IsLawfulTree totals d.device.clock d.device.tree
  pub rows : (p : Place) → IfSome (stats totals p d.device.tree) IsBalanced

-- Each packet that was refused or dropped was handed out as a loss or waits for it; and each that arrived was sent, is queued,
-- or was lost. So no more losses wait than packets have arrived.
pub record TellsItsLosses (d : DeviceSeen) : Type 0 where
  pub lost : d.handed_out + length d.waiting ≡ d.device.tree.top.refused.packets + d.device.tree.top.dropped.packets
  pub arrived : d.device.tree.top.arrived.packets ≡ d.device.tree.top.sent.packets + d.handed_out + length d.waiting + length (beneath d.device.tree.root)

-- Its memory: the tree is that of the device, and was given no time after the clock. The lost list has a place for each loss that
-- waits and each packet that is queued, so that whatever is lost of them needs no memory; the recorder has all its places.
pub record HasItsMemory (d : DeviceSeen) : Type 0 where
  pub tree : tree_numbers d.memory.tree.tree ≡ d.device.tree
  pub clock : d.memory.tree.clock ≤ d.device.clock
  pub losses : length d.waiting + length (beneath d.device.tree.root) ≤ d.memory.losses
  pub events : d.settings.recorder ≤ d.memory.events

-- Whatever happens next, arrivals alone count as arrived.
abbrev pub ArrivesByArrivals : DeviceSeen → Type 0
ArrivesByArrivals d = (e : Event) → IsEvent e → (step totals d.device e).device.tree.top.arrived ≡ arrived_after e d.device.tree.top.arrived

-- No event lowers a counter, whatever the device.
abbrev pub CountersNeverFall : Type 0
CountersNeverFall = (d : DeviceState Counts) (e : Event) → HasNotFallen d.tree.top (step totals d e).device.tree.top

-- No counter is left out of that: of two devices neither of which has fallen below the other, both have counted the same.
abbrev pub EveryCounterIsCompared : Type 0
EveryCounterIsCompared = (a b : Counts) → HasNotFallen a b → HasNotFallen b a → a ≡ b

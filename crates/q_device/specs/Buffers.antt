-- How many buffers a device needs: while no command is accepted, no more packets are ever queued than it can hold now.
-- tc-pfifo(8), tc-bfifo(8) and tc-fq_codel(8) have limits; that these are counted so is this project's own.
use Rattle.std.specs.Prelude.{◌≢◌, ◌≤◌, List, [], ◌∷◌, ◌++◌, All, Ok, length}
use Rattle.q_model.specs.declared.event.Event.{Event}
use Rattle.q_model.specs.declared.reply.Reply.TheVariants as reply
use Rattle.q_model.specs.Beneath.{beneath}
use Rattle.q_model.specs.Events.{IsEvent}
use Rattle.q_model.specs.Settings.{DeviceSettings}
use Rattle.q_model.specs.Step.{DeviceState, step}
use Rattle.q_model.specs.Tally.{Note, history}
use Rattle.q_tree.specs.answers.MostPackets.{most_packets}
use Rattle.q_device.specs.Sharing.{device_after}

-- none of the events, from this device on, is a command that is accepted
abbrev pub AcceptsNoCommand : DeviceState (List Note) → List Event → Type 0
AcceptsNoCommand d [] = Unit {0}
AcceptsNoCommand d (e ∷ events) = let s = step history d e in (s.reply ≢ reply.Done (Ok (record {}))) × AcceptsNoCommand s.device events

-- a device, and what it has become later
pub record HoldsNoMore (before after : DeviceState (List Note)) : Type 0 where
  pub most : most_packets after.tree.root ≤ most_packets before.tree.root
  pub queued : length (beneath after.tree.root) ≤ most_packets before.tree.root

-- over every interval in which no command is accepted; a refused one changes nothing
abbrev pub NoMoreIsHeld : DeviceSettings → Type 0
NoMoreIsHeld settings =
    (before during : List Event) → All IsEvent before → All IsEvent during → AcceptsNoCommand (device_after settings before) during
    → HoldsNoMore (device_after settings before) (device_after settings (before ++ during))

-- What is true of every replay, over the definitions in specs/Step.antt and specs/Replay.antt.
-- Each law speaks of all settings and all lists of events, with whole histories and with totals.
use Rattle.std.specs.Prelude.{◌≡◌, List, [], ◌∷◌, ◌++◌, All, Option, Some, None}
use Rattle.std.specs.List.{filter_map}
use Rattle.q_packet.specs.Descriptor.{Descriptor}
use Rattle.q_model.specs.Tally.{Tally, Note, history, totals}
use Rattle.q_model.specs.declared.event.Event.{Event}
use Rattle.q_model.specs.declared.event.Event.TheVariants as event
use Rattle.q_model.specs.declared.polled.Polled.TheVariants as polled
use Rattle.q_model.specs.declared.reply.Reply.{Reply}
use Rattle.q_model.specs.declared.reply.Reply.TheVariants as reply
use Rattle.q_model.specs.Conserved.{arrival_in, sent_in}
use Rattle.q_model.specs.Events.{IsEvent}
use Rattle.q_model.specs.Lawful.{IsLawfulTree}
use Rattle.q_model.specs.Settings.{DeviceSettings}
use Rattle.q_model.specs.Sound.{IsSound}
use Rattle.q_model.specs.Step.{DeviceState, losses_in, step}
use Rattle.q_model.specs.Replay.{Replay, replay, with_step}
use Rattle.q_model.specs.ShrinkDevice.{shrunk, IsShrunkStep, IsShrunkReplay}

-- the replay of a list with an event more is the step of its replay
abbrev pub GoesOn : {M : Type 0} → Tally M → Type 0
GoesOn t = (settings : DeviceSettings) (events : List Event) (e : Event) →
    replay t settings (events ++ e ∷ []) ≡ with_step (replay t settings events) (step t (replay t settings events).device e)

-- with whole histories, and with totals
abbrev pub ReplayGoesOn : Type 0
ReplayGoesOn = GoesOn history × GoesOn totals

-- shrinking and stepping commute: whatever the device and the event, a step with totals on the shrunk device is the step
-- with histories, shrunk, and both give the same reply and the same losses
abbrev pub ShrinkCommutes : Type 0
ShrinkCommutes = (d : DeviceState (List Note)) (e : Event) → IsShrunkStep (step history d e) (step totals (shrunk d) e)

-- and so for whole replays
abbrev pub ReplayShrinks : Type 0
ReplayShrinks = (settings : DeviceSettings) (events : List Event) → IsShrunkReplay (replay history settings events) (replay totals settings events)

-- With settings in their ranges, as the type keeps them: after every list of events whose fields are in theirs no packet is made or lost at any node, the device's own included,
-- and the tree is lawful: over histories packet by packet, and over totals in sums.
abbrev pub EveryReplayIsSound : DeviceSettings → Type 0
EveryReplayIsSound settings = (events : List Event) → All IsEvent events → IsSound (replay history settings events).device

abbrev pub TotalsAreLawful : DeviceSettings → Type 0
TotalsAreLawful settings = (events : List Event) → All IsEvent events → (let d = (replay totals settings events).device in IsLawfulTree totals d.clock d.tree)

-- the packets that events bring, and those that replies give
abbrev pub brought : Event → Option Descriptor
brought (event.Arrive p moment) = Some p
brought (event.Poll moment) = None
brought (event.Command c moment) = None

abbrev pub given_in : Reply → Option Descriptor
given_in (reply.Polled (polled.Packet p)) = Some p
given_in (reply.Polled polled.Idle) = None
given_in (reply.Polled polled.Later) = None
given_in (reply.Fate fate) = None
given_in (reply.Done result) = None

-- What the device has noted of packets is what the caller sees: those that the events brought, those that its replies gave,
-- and those that it handed back as lost, each in order.
pub record TellsAll (events : List Event) (r : Replay (List Note)) : Type 0 where
  pub arrived : filter_map arrival_in r.device.tree.top ≡ filter_map brought events
  pub sent : filter_map sent_in r.device.tree.top ≡ filter_map given_in r.replies
  pub lost : losses_in r.device.tree.top ≡ r.losses

abbrev pub EveryReplayTellsAll : DeviceSettings → Type 0
EveryReplayTellsAll settings = (events : List Event) → All IsEvent events → TellsAll events (replay history settings events)

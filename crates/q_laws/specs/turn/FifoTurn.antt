-- What the classes of a drr send before a packet in a fifo that is a class of it: by what is queued in the fifo, in any state of the drr.
-- tc-pfifo(8), tc-bfifo(8), tc-drr(8); that a queue of bounded length with a bounded service bounds a delay is known from network calculus
-- (J.-Y. Le Boudec and P. Thiran, "Network Calculus" (2001), section 1.4).
use Rattle.std.specs.Prelude.{◌≡◌, ℕ, ◌+◌, ◌^◌, ◌<◌, ◌≤◌, List, [], ◌∷◌, ◌++◌, All, Some}
use Rattle.std.specs.Option.{option_map_or}
use Rattle.q_packet.specs.Descriptor.{Descriptor}
use Rattle.q_codel.specs.declared.limit.Limit.{Limit}
use Rattle.q_drr.specs.Schedule.{Class, quantum_of}
use Rattle.q_model.specs.declared.event.Event.{Event}
use Rattle.q_model.specs.declared.event.Event.TheVariants as event
use Rattle.q_model.specs.Events.{IsEvent}
use Rattle.q_model.specs.Settings.{DeviceSettings}
use Rattle.q_model.specs.Step.{DeviceState, step}
use Rattle.q_model.specs.Stretches.{ClassAt, class_in, Throughout}
use Rattle.q_model.specs.Tally.{Note, history}
use Rattle.q_tree.specs.answers.Lanes.{limit_of}
use Rattle.q_tree.specs.answers.Ways.{share_among}
use Rattle.q_device.specs.promises.Worst.{most_of_turn}
use Rattle.q_device.specs.Sharing.{device_after}
use Rattle.q_laws.specs.line.Line.{bytes_in, line, BeginsWith}
use Rattle.q_laws.specs.share.Service.{given_so_far, HasClasses, all_sent}
use Rattle.q_laws.specs.turn.Turn.{shown_by}

-- what is queued in the fifo of a class, in the order in which it leaves
abbrev pub class_line : ℕ → ℕ → DeviceState (List Note) → List Descriptor
class_line major i d = option_map_or (λ (class : ClassAt). line class.child) (class_in major i d) []

-- the class has this quantum, and its child is a fifo
pub record IsFifoClass (major i quantum : ℕ) (d : DeviceState (List Note)) : Type 0 where
  pub class : ClassAt
  pub there : class_in major i d ≡ Some class
  pub same_quantum : quantum_of i class.schedule.classes ≡ quantum
  pub limit : Limit
  pub fifo : limit_of class.child.own.discipline ≡ Some limit

-- A command leaves the fifo, with what is queued there as it was, or longer at its end.
abbrev pub KeepsFifo : ℕ → ℕ → DeviceState (List Note) → Event → Type 0
KeepsFifo major i d (event.Arrive p moment) = Unit {0}
KeepsFifo major i d (event.Poll moment) = Unit {0}
KeepsFifo major i d (event.Command c moment) =
    let next = (step history d (event.Command c moment)).device in
    BeginsWith (class_line major i d) (class_line major i next) × (given_so_far major i next ≡ given_so_far major i d)

abbrev pub KeepFifo : ℕ → ℕ → DeviceState (List Note) → List Event → Type 0
KeepFifo major i d [] = Unit {0}
KeepFifo major i d (e ∷ events) = KeepsFifo major i d e × KeepFifo major i (step history d e).device events

-- the class has sent fewer bytes than were queued in the first state, so a packet that was queued there is left
abbrev pub IsInFifo : ℕ → ℕ → DeviceState (List Note) → DeviceState (List Note) → Type 0
IsInFifo major i first d = given_so_far major i d < given_so_far major i first + bytes_in (class_line major i first)

-- Where no more bytes are queued than this, the classes send no more than the most of a turn of so many until the packet that was queued last has
-- left.
abbrev pub FifosWaitAtMost : DeviceSettings → Type 0
FifosWaitAtMost settings =
    (before during : List Event) (major i quantum bytes : ℕ) (classes : List Class) (last : ClassAt) (t : ℕ)
    → All IsEvent before → All IsEvent during
    → Throughout (HasClasses major classes) settings before during → Throughout (IsFifoClass major i quantum) settings before during
    → KeepFifo major i (device_after settings before) during
    → IsInFifo major i (device_after settings before) (device_after settings (before ++ during))
    → bytes_in (class_line major i (device_after settings before)) ≤ bytes
    → class_in major i (device_after settings (before ++ during)) ≡ Some last
    → (device_after settings (before ++ during)).clock ≤ t → t ≤ 2 ^ 62
    → all_sent major classes (device_after settings before) during + shown_by t last
    ≤ most_of_turn settings.mtu bytes (share_among (record { name = i; quantum = quantum }) classes)

-- What q_device's specs/promises/Worst.antt has as the most that the classes of a drr send before a packet of one of them is enough, whatever state the
-- drr is in: a deficit is below a quantum and the mtu together (M. Shreedhar and G. Varghese, "Efficient Fair Queuing Using Deficit
-- Round-Robin" (1995)), and it is what `bytes_of_turn` comes to where each of the others has the greatest.
use Rattle.std.specs.Prelude.{◌≡◌, ℕ, ◌+◌, ◌^◌, ◌≤◌, List, ◌++◌, All, Some}
use Rattle.q_drr.specs.Schedule.{Class, Schedule, quantum_of}
use Rattle.q_drr.specs.Waiting.{bytes_of_turn}
use Rattle.q_model.specs.declared.event.Event.{Event}
use Rattle.q_model.specs.Events.{IsEvent}
use Rattle.q_model.specs.Settings.{DeviceSettings}
use Rattle.q_model.specs.Stretches.{ClassAt, class_in, IsBackloggedClass, Throughout}
use Rattle.q_tree.specs.declared.answers.ways.Share.{Share}
use Rattle.q_tree.specs.answers.Ways.{share_among}
use Rattle.q_device.specs.promises.Worst.{most_of_turn}
use Rattle.q_device.specs.Sharing.{device_after}
use Rattle.q_laws.specs.share.Service.{HasClasses, all_sent}
use Rattle.q_laws.specs.turn.Turn.{StaysLeft, shown_by}

-- the share of class i
abbrev pub share_in : ℕ → Schedule → Share
share_in i s = share_among (record { name = i; quantum = quantum_of i s.classes }) s.classes

abbrev pub TurnsAreBounded : DeviceSettings → Type 0
TurnsAreBounded settings =
    (events : List Event) (major i bytes : ℕ) (class : ClassAt) → All IsEvent events
    → class_in major i (device_after settings events) ≡ Some class
    → bytes_of_turn i (quantum_of i class.schedule.classes) class.schedule.classes class.schedule.active bytes
    ≤ most_of_turn settings.mtu bytes (share_in i class.schedule)

-- So a packet that ends within so many bytes of its class waits for no more, whatever the deficits and the active list were when it came.
abbrev pub ClassesWaitAtMost : DeviceSettings → Type 0
ClassesWaitAtMost settings =
    (before during : List Event) (major i quantum bytes : ℕ) (classes : List Class) (last : ClassAt) (t : ℕ)
    → All IsEvent before → All IsEvent during
    → Throughout (HasClasses major classes) settings before during → Throughout (IsBackloggedClass major i quantum) settings before during
    → StaysLeft major i bytes 0 (device_after settings before) during → class_in major i (device_after settings (before ++ during)) ≡ Some last
    → (device_after settings (before ++ during)).clock ≤ t → t ≤ 2 ^ 62
    → all_sent major classes (device_after settings before) during + shown_by t last
    ≤ most_of_turn settings.mtu bytes (share_among (record { name = i; quantum = quantum }) classes)

-- What a class of a drr gets more where no command has changed its quantum since it was last empty, over every interval of every replay: unless it
-- is in front of the active list it has a deficit of a quantum at least then, as each grant leaves it. So one product of the quanta less may
-- lack. M. Shreedhar and G. Varghese, "Efficient Fair Queuing Using Deficit Round-Robin" (1995), and tc-drr(8).
use Rattle.std.specs.Prelude.{◌≡◌, ◌≢◌, ℕ, ◌+◌, ◌-◌, ◌*◌, ◌^◌, ◌≤◌, true, false, List, ◌++◌, All, Some, length}
use Rattle.std.specs.Int.{div_ceil}
use Rattle.q_drr.specs.Schedule.{Class, Entry, quantum_of, deficit_of}
use Rattle.q_drr.specs.Waiting.{bytes_of_turn}
use Rattle.q_drr.specs.Stretch.{stands_first}
use Rattle.q_model.specs.declared.event.Event.{Event}
use Rattle.q_model.specs.Beneath.{is_empty}
use Rattle.q_model.specs.Events.{IsEvent}
use Rattle.q_model.specs.Settings.{DeviceSettings}
use Rattle.q_model.specs.Stretches.{ClassAt, class_in, IsBackloggedClass, Throughout}
use Rattle.q_tree.specs.declared.answers.ways.Share.{Share}
use Rattle.q_tree.specs.answers.Ways.{share_among}
use Rattle.q_device.specs.Sharing.{device_after}
use Rattle.q_laws.specs.share.Service.{class_sent, IsClass, HasClasses, quanta_of, all_sent}
use Rattle.q_laws.specs.turn.MostOfTurn.{share_in}
use Rattle.q_laws.specs.turn.Turn.{StaysLeft, shown_by}

-- ---- the deficit of a class that is not in front

-- where another class is before it in the active list, it has a deficit of a quantum at least
abbrev pub IsCalm : ℕ → ℕ → List Entry → Type 0
IsCalm i quantum active = (j : ℕ) → j ≢ i → stands_first j i active ≡ true → quantum ≤ deficit_of i active

-- So it is where the class was empty at first and has been there with this quantum ever since, whatever came to it and to the others.
abbrev pub ClassesAreCalm : DeviceSettings → Type 0
ClassesAreCalm settings =
    (before since : List Event) (major i quantum : ℕ) (first last : ClassAt) → All IsEvent before → All IsEvent since
    → Throughout (IsClass major i quantum) settings before since
    → class_in major i (device_after settings before) ≡ Some first → is_empty first.child ≡ true
    → class_in major i (device_after settings (before ++ since)) ≡ Some last → is_empty last.child ≡ false
    → IsCalm i quantum last.schedule.active

-- ---- its part

-- Of `all` bytes that the classes of a drr send, a class that stays backlogged sends its part, less one quantum and a longest packet for
-- itself and each other class.
abbrev pub GetsItsCalmPart : ℕ → ℕ → ℕ → ℕ → ℕ → ℕ → Type 0
GetsItsCalmPart classes quantum quanta mtu sent all =
    all * quantum ≤ sent * quanta + quantum * (quanta - quantum) + (mtu - 1) * ((classes - 1) * quantum + (quanta - quantum))

abbrev pub CalmClassesGetTheirParts : DeviceSettings → Type 0
CalmClassesGetTheirParts settings =
    (before during : List Event) (major i quantum : ℕ) (classes : List Class) (first : ClassAt) → All IsEvent before → All IsEvent during
    → Throughout (HasClasses major classes) settings before during → Throughout (IsBackloggedClass major i quantum) settings before during
    → class_in major i (device_after settings before) ≡ Some first → IsCalm i quantum first.schedule.active
    → GetsItsCalmPart (length classes) quantum (quanta_of classes) settings.mtu (class_sent major i (device_after settings before) during)
    (all_sent major classes (device_after settings before) during)

-- ---- its turn

-- For each grant that the class may need from no deficit on, the quanta of the others, and a longest packet less a byte for each of them: where
-- others are before it, which may have a quantum more, it needs a grant less.
abbrev pub most_of_calm_turn : ℕ → ℕ → Share → ℕ
most_of_calm_turn mtu bytes share = bytes + div_ceil bytes share.quantum * (share.quanta - share.quantum) + (share.classes - 1) * (mtu - 1)

abbrev pub CalmTurnsAreBounded : DeviceSettings → Type 0
CalmTurnsAreBounded settings =
    (events : List Event) (major i bytes : ℕ) (class : ClassAt) → All IsEvent events → 1 ≤ bytes
    → class_in major i (device_after settings events) ≡ Some class → IsCalm i (quantum_of i class.schedule.classes) class.schedule.active
    → bytes_of_turn i (quantum_of i class.schedule.classes) class.schedule.classes class.schedule.active bytes
    ≤ most_of_calm_turn settings.mtu bytes (share_in i class.schedule)

abbrev pub CalmClassesWaitAtMost : DeviceSettings → Type 0
CalmClassesWaitAtMost settings =
    (before during : List Event) (major i quantum bytes : ℕ) (classes : List Class) (first last : ClassAt) (t : ℕ)
    → All IsEvent before → All IsEvent during → 1 ≤ bytes
    → Throughout (HasClasses major classes) settings before during → Throughout (IsBackloggedClass major i quantum) settings before during
    → class_in major i (device_after settings before) ≡ Some first → IsCalm i quantum first.schedule.active
    → StaysLeft major i bytes 0 (device_after settings before) during → class_in major i (device_after settings (before ++ during)) ≡ Some last
    → (device_after settings (before ++ during)).clock ≤ t → t ≤ 2 ^ 62
    → all_sent major classes (device_after settings before) during + shown_by t last
    ≤ most_of_calm_turn settings.mtu bytes (share_among (record { name = i; quantum = quantum }) classes)

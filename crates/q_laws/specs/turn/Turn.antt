-- What the classes of a drr send before a packet of one of them, over every interval of every replay: by its bytes, its quantum and the
-- deficits at first, whatever comes to the others. M. Shreedhar and G. Varghese, "Efficient Fair Queuing Using Deficit Round-Robin" (1995),
-- and tc-drr(8); how it grows with the bytes is the staircase of S. M. Tabatabaee and J.-Y. Le Boudec, "Deficit Round-Robin: A Second
-- Network Calculus Analysis" (2022).
use Rattle.std.specs.Prelude.{◌≡◌, ℕ, ◌+◌, ◌-◌, ◌^◌, ◌≤◌, List, [], ◌∷◌, ◌++◌, All, Some}
use Rattle.q_drr.specs.Schedule.{Class}
use Rattle.q_drr.specs.Waiting.{bytes_of_turn}
use Rattle.q_model.specs.declared.event.Event.{Event}
use Rattle.q_model.specs.Ask.{ask}
use Rattle.q_model.specs.Events.{IsEvent}
use Rattle.q_model.specs.Node.{shape}
use Rattle.q_model.specs.Settings.{DeviceSettings}
use Rattle.q_model.specs.Step.{DeviceState, step}
use Rattle.q_model.specs.Stretches.{length_held, ClassAt, class_in, IsBackloggedClass, Throughout}
use Rattle.q_model.specs.Tally.{Note, history}
use Rattle.q_device.specs.Sharing.{device_after}
use Rattle.q_laws.specs.share.Service.{given_so_far, HasClasses, all_sent}

-- ---- the bytes of the class itself

-- the length of the packet that the child of a class shows where it is asked at this time, and 0 where it shows none
abbrev pub shown_by : ℕ → ClassAt → ℕ
shown_by t class = length_held (ask t (shape class.child)).shown

-- A packet is left of the first so many bytes of the class, which has sent some of them: whenever its child is asked from now on, those
-- and the packet that it shows are no more.
abbrev pub IsClassLeft : ℕ → ℕ → ℕ → ℕ → DeviceState (List Note) → Type 0
IsClassLeft major i bytes sent d = (class : ClassAt) (t : ℕ) → class_in major i d ≡ Some class → d.clock ≤ t → t ≤ 2 ^ 62 → sent + shown_by t class ≤ bytes

-- in each state from a first one on, in which it has sent so many
abbrev pub StaysLeft : ℕ → ℕ → ℕ → ℕ → DeviceState (List Note) → List Event → Type 0
StaysLeft major i bytes sent d [] = IsClassLeft major i bytes sent d
StaysLeft major i bytes sent d (e ∷ events) =
    let next = (step history d e).device in
    IsClassLeft major i bytes sent d × StaysLeft major i bytes (sent + (given_so_far major i next - given_so_far major i d)) next events

-- ---- with the others

abbrev pub ClassesWaitTheirTurn : DeviceSettings → Type 0
ClassesWaitTheirTurn settings =
    (before during : List Event) (major i quantum bytes : ℕ) (classes : List Class) (first last : ClassAt) (t : ℕ) → All IsEvent before → All IsEvent during
    → Throughout (HasClasses major classes) settings before during → Throughout (IsBackloggedClass major i quantum) settings before during
    → StaysLeft major i bytes 0 (device_after settings before) during
    → class_in major i (device_after settings before) ≡ Some first → class_in major i (device_after settings (before ++ during)) ≡ Some last
    → (device_after settings (before ++ during)).clock ≤ t → t ≤ 2 ^ 62
    → all_sent major classes (device_after settings before) during + shown_by t last ≤ bytes_of_turn i quantum classes first.schedule.active bytes

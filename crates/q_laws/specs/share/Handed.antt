-- What a class of a drr gets in time below a tbf at the root, of two counts of its bytes: of those that its child hands to the drr, which says
-- more after a poll that gives nothing, and of those that leave the device. q_laws's specs/share/InTime.antt has the law of which this is more.
use Rattle.std.specs.Prelude.{◌≡◌, ℕ, ◌+◌, ◌-◌, ◌*◌, ◌<◌, min, is_some, true, IsSomeAnd, List, [], ◌∷◌, ◌++◌, All, length}
use Rattle.std.specs.Option.{option_map_or}
use Rattle.q_bucket.specs.Level.{units_in_byte}
use Rattle.q_drr.specs.Schedule.{Class}
use Rattle.q_model.specs.declared.event.Event.{Event}
use Rattle.q_model.specs.declared.event.Event.TheVariants as event
use Rattle.q_model.specs.declared.polled.Polled.TheVariants as polled
use Rattle.q_model.specs.declared.reply.Reply.TheVariants as reply
use Rattle.q_model.specs.Events.{IsEvent}
use Rattle.q_model.specs.Node.{Node}
use Rattle.q_model.specs.Settings.{DeviceSettings}
use Rattle.q_model.specs.Step.{DeviceState, step}
use Rattle.q_model.specs.Stretches.{length_held, qdisc, IsBackloggedClass, Throughout}
use Rattle.q_model.specs.Tally.{Note, history}
use Rattle.q_device.specs.promises.Promise.{lacks_of_bytes}
use Rattle.q_device.specs.Sharing.{device_after}
use Rattle.q_laws.specs.rate.Rate.{IsDrained, IsPolledOut, HasRoom}
use Rattle.q_laws.specs.share.InTime.{IsLinkOver, GetsItsRate}
use Rattle.q_laws.specs.share.Service.{given_so_far, class_sent, HasClasses, quanta_of}

-- ---- what a class hands to its drr

-- The drr holds a packet, as it does after a poll that found that one longer than what the bucket had left.
abbrev pub IsHolding : ℕ → DeviceState (List Note) → Type 0
IsHolding major d = IsSomeAnd (qdisc major d) (λ (n : Node (List Note)). is_some n.own.held ≡ true)

-- What a class may lack then of its part of a rate, times the sum of the quanta: one longest packet more than of its part of the bytes that
-- its drr sends, which is the one that the drr held at first.
abbrev pub lacks_handed : ℕ → ℕ → ℕ → ℕ → ℕ
lacks_handed classes quantum quanta mtu = mtu * quantum + lacks_of_bytes classes quantum quanta mtu

abbrev pub ClassesHandInTime : DeviceSettings → Type 0
ClassesHandInTime settings =
    (before during : List Event) (link rate burst late major i quantum : ℕ) (classes : List Class) → All IsEvent before → All IsEvent during
    → HasRoom settings.mtu late rate burst
    → Throughout (IsLinkOver link rate burst major) settings before during → Throughout (HasClasses major classes) settings before during
    → Throughout (IsBackloggedClass major i quantum) settings before during → IsDrained late (device_after settings before) during
    → IsPolledOut (device_after settings before) → IsPolledOut (device_after settings (before ++ during)) → IsHolding major (device_after settings (before ++ during))
    → rate * ((device_after settings (before ++ during)).clock - (device_after settings before).clock) * quantum
    < (class_sent major i (device_after settings before) during * quanta_of classes + lacks_handed (length classes) quantum (quanta_of classes) settings.mtu) * units_in_byte

-- So it is after a poll that is answered Later.
abbrev pub PollsLeaveHolding : DeviceSettings → Type 0
PollsLeaveHolding settings =
    (before : List Event) (moment link rate burst major : ℕ) (classes : List Class) → All IsEvent before → IsEvent (event.Poll moment)
    → Throughout (IsLinkOver link rate burst major) settings before (event.Poll moment ∷ []) → Throughout (HasClasses major classes) settings before (event.Poll moment ∷ [])
    → (step history (device_after settings before) (event.Poll moment)).reply ≡ reply.Polled polled.Later
    → IsHolding major (device_after settings (before ++ event.Poll moment ∷ []))

-- ---- what leaves the device

-- the length of the packet that the drr holds, and 0 where it holds none
abbrev pub held_by : ℕ → DeviceState (List Note) → ℕ
held_by major d = option_map_or (λ (n : Node (List Note)). length_held n.own.held) (qdisc major d) 0

-- Of the bytes that a class has handed to its drr over these events, those that the drr still holds, where it held so many of them at first:
-- it hands on a packet whole, and holds one at most.
abbrev pub still_held : ℕ → ℕ → ℕ → DeviceState (List Note) → List Event → ℕ
still_held major minor held d [] = held
still_held major minor held d (e ∷ events) =
    let next = (step history d e).device in
    still_held major minor (min (held + (given_so_far major minor next - given_so_far major minor d)) (held_by major next)) next events

-- The bytes of a class that leave the drr over these events, of those that it hands over in them: below a tbf at the root, which holds no
-- packet between events, they leave the device.
abbrev pub class_left : ℕ → ℕ → DeviceState (List Note) → List Event → ℕ
class_left major minor d events = class_sent major minor d events - still_held major minor 0 d events

abbrev pub ClassesLeaveInTime : DeviceSettings → Type 0
ClassesLeaveInTime settings =
    (before during : List Event) (link rate burst late major i quantum : ℕ) (classes : List Class) → All IsEvent before → All IsEvent during
    → HasRoom settings.mtu late rate burst
    → Throughout (IsLinkOver link rate burst major) settings before during → Throughout (HasClasses major classes) settings before during
    → Throughout (IsBackloggedClass major i quantum) settings before during → IsDrained late (device_after settings before) during
    → IsPolledOut (device_after settings before) → IsPolledOut (device_after settings (before ++ during))
    → GetsItsRate rate ((device_after settings (before ++ during)).clock - (device_after settings before).clock) (length classes) quantum (quanta_of classes) settings.mtu
    (class_left major i (device_after settings before) during)

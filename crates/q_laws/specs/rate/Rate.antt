-- What a tbf delivers over every interval of every replay: where its level is nowhere cut it spends just what its rate brings, and
-- at the root, polled in time, it keeps within a packet of its rate. tc-tbf(8); the time in which a rate is delivered is that of
-- rate-latency servers (J.-Y. Le Boudec and P. Thiran, "Network Calculus" (2001), section 1.3).
use Rattle.std.specs.Prelude.{◌≡◌, ℕ, ◌+◌, ◌-◌, ◌*◌, ◌<◌, ◌≤◌, nat_lt, false, if◌then◌else◌, List, [], ◌∷◌, ◌++◌, All, Option, Some, None, IfSome, option_and_then}
use Rattle.q_bucket.specs.Level.{units_in_byte, capacity, level_at}
use Rattle.q_model.specs.declared.event.Event.{Event}
use Rattle.q_model.specs.Beneath.{is_empty}
use Rattle.q_model.specs.Conserved.{nodes_of}
use Rattle.q_model.specs.Events.{IsEvent}
use Rattle.q_model.specs.Node.{Node}
use Rattle.q_model.specs.Settings.{DeviceSettings}
use Rattle.q_model.specs.Step.{DeviceState, step}
use Rattle.q_model.specs.Stretches.{bytes_spent, TbfAt, tbf_in, IsTbf, Throughout}
use Rattle.q_model.specs.Tally.{Note, history}
use Rattle.q_model.specs.TreeState.{given}
use Rattle.q_tree.specs.answers.ReadyAt.{ready_at}
use Rattle.q_tree.specs.answers.Ways.{is_tbf}
use Rattle.q_device.specs.Sharing.{device_after}

-- ---- a level that is not cut

-- at the time of this event, what the bucket had and what its rate has brought since are within its burst
abbrev pub IsUncut : ℕ → DeviceState (List Note) → Event → Type 0
IsUncut major d e =
    IfSome (tbf_in major d) (λ tbf. tbf.bucket.level + tbf.bucket.rate * ((step history d e).device.clock - tbf.bucket.last) ≤ capacity tbf.bucket)

-- at each of these events in turn
abbrev pub IsNowhereCut : ℕ → DeviceState (List Note) → List Event → Type 0
IsNowhereCut major d [] = Unit {0}
IsNowhereCut major d (e ∷ events) = IsUncut major d e × IsNowhereCut major (step history d e).device events

-- Over an interval a tbf noted these. What its bucket paid and has left is what it had and what its rate brought in the time between.
pub record SpendsWhatComes (rate begin end : ℕ) (first last : TbfAt) : Type 0 where
  pub notes : List Note
  pub goes_on : last.noted ≡ first.noted ++ notes
  pub spent : bytes_spent notes * units_in_byte + level_at last.bucket end ≡ level_at first.bucket begin + rate * (end - begin)

abbrev pub RateIsSpent : DeviceSettings → Type 0
RateIsSpent settings =
    (before during : List Event) (major rate burst : ℕ) (first last : TbfAt) → All IsEvent before → All IsEvent during
    → Throughout (IsTbf major rate burst) settings before during → IsNowhereCut major (device_after settings before) during
    → tbf_in major (device_after settings before) ≡ Some first → tbf_in major (device_after settings (before ++ during)) ≡ Some last
    → SpendsWhatComes rate (device_after settings before).clock (device_after settings (before ++ during)).clock first last

-- ---- a link that is polled in time

-- a tbf at the root, with no other below, where something is queued
pub record IsBackloggedLink (major rate burst : ℕ) (d : DeviceState (List Note)) : Type 0 where
  pub tbf : IsTbf major rate burst d
  pub root : d.tree.root.own.handle ≡ Some major
  pub alone : All (λ (n : Node (List Note)). is_tbf n.own.discipline ≡ false) (nodes_of d.tree.root.below)
  pub queued : is_empty d.tree.root ≡ false

-- The time from which on the device is to be polled: the one at which it says to be ready, where that is ahead of its clock, else the one
-- that was due before. So it stays while packets can be given, from poll to poll, and whatever else comes between.
abbrev pub due_in : Option ℕ → DeviceState (List Note) → Option ℕ
due_in due d = option_and_then (λ at. if nat_lt d.clock at then Some at else due) (ready_at d.clock d.tree.root)

-- this event comes so many nanoseconds after the time that is due, at the latest
abbrev pub IsInTime : ℕ → Option ℕ → DeviceState (List Note) → Event → Type 0
IsInTime late due d e = IfSome due (λ at. (step history d e).device.clock ≤ at + late)

abbrev pub IsDrainedFrom : ℕ → Option ℕ → DeviceState (List Note) → List Event → Type 0
IsDrainedFrom late due d [] = Unit {0}
IsDrainedFrom late due d (e ∷ events) =
    let next = (step history d e).device in IsInTime late due d e × IsDrainedFrom late (due_in due next) next events

-- Whoever drains a device so polls it until no packet comes, and has done so again so many nanoseconds after the time at which it then says
-- to be ready, at the latest; anything else may come between.
abbrev pub IsDrained : ℕ → DeviceState (List Note) → List Event → Type 0
IsDrained late d events = IsDrainedFrom late (ready_at d.clock d.tree.root) d events

-- Each of these events comes no later than the time at which the device says right before it to be ready: so no time passes while a
-- packet can be given.
abbrev pub IsNeverLate : DeviceState (List Note) → List Event → Type 0
IsNeverLate d [] = Unit {0}
IsNeverLate d (e ∷ events) =
    let next = (step history d e).device in IfSome (ready_at d.clock d.tree.root) (λ at. next.clock ≤ at) × IsNeverLate next events

-- then a device is drained without lateness
abbrev pub NeverLateIsDrained : Type 0
NeverLateIsDrained = (d : DeviceState (List Note)) (events : List Event) → IsNeverLate d events → IsDrained 0 d events

-- a poll at the clock gives no packet
abbrev pub IsPolledOut : DeviceState (List Note) → Type 0
IsPolledOut d = given d.clock d.tree ≡ None

-- Over an interval the tbf at the root noted these. What its bucket paid is what its rate brings in that time, but for less than a
-- longest packet more or less.
pub record DeliversItsRate (rate mtu begin end : ℕ) (first last : TbfAt) : Type 0 where
  pub notes : List Note
  pub goes_on : last.noted ≡ first.noted ++ notes
  pub no_less : rate * (end - begin) < (bytes_spent notes + mtu) * units_in_byte
  pub no_more : bytes_spent notes * units_in_byte < rate * (end - begin) + mtu * units_in_byte

-- the burst has room for a longest packet, and for what the rate brings while a poll is late and in a nanosecond more
abbrev pub HasRoom : ℕ → ℕ → ℕ → ℕ → Type 0
HasRoom mtu late rate burst = mtu * units_in_byte + rate * (late + 1) ≤ burst * units_in_byte

abbrev pub RateIsDelivered : DeviceSettings → Type 0
RateIsDelivered settings =
    (before during : List Event) (major rate burst late : ℕ) (first last : TbfAt) → All IsEvent before → All IsEvent during
    → HasRoom settings.mtu late rate burst
    → Throughout (IsBackloggedLink major rate burst) settings before during → IsDrained late (device_after settings before) during
    → IsPolledOut (device_after settings before) → IsPolledOut (device_after settings (before ++ during))
    → tbf_in major (device_after settings before) ≡ Some first → tbf_in major (device_after settings (before ++ during)) ≡ Some last
    → DeliversItsRate rate settings.mtu (device_after settings before).clock (device_after settings (before ++ during)).clock first last

-- What a class of a drr gets in time below a tbf at the root, over every interval of every replay: the part of the rate that its quantum
-- is of the sum of the quanta, less a number of bytes that does not grow; below several drrs the parts multiply. tc-tbf(8) and tc-drr(8);
-- a rate and what may lack of it are a service curve (J.-Y. Le Boudec and P. Thiran, "Network Calculus" (2001), section 1.3).
use Rattle.std.specs.Prelude.{◌≡◌, ℕ, ◌+◌, ◌-◌, ◌*◌, ◌<◌, List, [], ◌∷◌, ◌++◌, All, Some, length}
use Rattle.q_bucket.specs.Level.{units_in_byte}
use Rattle.q_drr.specs.Schedule.{Class}
use Rattle.q_model.specs.declared.event.Event.{Event}
use Rattle.q_model.specs.Events.{IsEvent}
use Rattle.q_model.specs.Node.{Node, children}
use Rattle.q_model.specs.Settings.{DeviceSettings}
use Rattle.q_model.specs.Step.{DeviceState}
use Rattle.q_model.specs.Stretches.{qdisc, ClassAt, class_in, IsBackloggedClass, Throughout}
use Rattle.q_model.specs.Tally.{Note}
use Rattle.q_device.specs.promises.Promise.{lacks_of_bytes}
use Rattle.q_device.specs.Sharing.{device_after}
use Rattle.q_laws.specs.rate.Rate.{IsBackloggedLink, IsDrained, IsPolledOut, HasRoom}
use Rattle.q_laws.specs.share.Service.{HasClasses, quanta_of, class_sent}

-- a backlogged tbf at the root, whose only child is the drr with this handle
pub record IsLinkOver (link rate burst major : ℕ) (d : DeviceState (List Note)) : Type 0 where
  pub rated : IsBackloggedLink link rate burst d
  pub drr : Node (List Note)
  pub there : qdisc major d ≡ Some drr
  pub child : children d.tree.root ≡ drr ∷ []

-- What a class may lack of its part of a rate, times the sum of the quanta: two longest packets of the link more than of its part of the
-- bytes that its drr sends.
abbrev pub lacks : ℕ → ℕ → ℕ → ℕ → ℕ
lacks classes quantum quanta mtu = 2 * (mtu * quantum) + lacks_of_bytes classes quantum quanta mtu

-- In this time a class of so many, whose quanta are `quanta` together, sends more than its part of the rate less that.
abbrev pub GetsItsRate : ℕ → ℕ → ℕ → ℕ → ℕ → ℕ → ℕ → Type 0
GetsItsRate rate time classes quantum quanta mtu sent = rate * time * quantum < (sent * quanta + lacks classes quantum quanta mtu) * units_in_byte

abbrev pub ClassesShareInTime : DeviceSettings → Type 0
ClassesShareInTime settings =
    (before during : List Event) (link rate burst late major i quantum : ℕ) (classes : List Class) → All IsEvent before → All IsEvent during
    → HasRoom settings.mtu late rate burst
    → Throughout (IsLinkOver link rate burst major) settings before during → Throughout (HasClasses major classes) settings before during
    → Throughout (IsBackloggedClass major i quantum) settings before during → IsDrained late (device_after settings before) during
    → IsPolledOut (device_after settings before) → IsPolledOut (device_after settings (before ++ during))
    → GetsItsRate rate ((device_after settings (before ++ during)).clock - (device_after settings before).clock) (length classes) quantum (quanta_of classes) settings.mtu
    (class_sent major i (device_after settings before) during)

-- ---- drrs below one another

-- a drr on a path down, with its classes, and the class through which the path goes on, with its quantum
pub record Level : Type 0 where
  pub major : ℕ
  pub minor : ℕ
  pub quantum : ℕ
  pub classes : List Class

-- the drr of level k is the child of the class of level l
pub record IsBeneath (l k : Level) (d : DeviceState (List Note)) : Type 0 where
  pub class : ClassAt
  pub there : class_in l.major l.minor d ≡ Some class
  pub child : qdisc k.major d ≡ Some class.child

-- a path down of backlogged classes, from one drr to the next
abbrev pub IsWay : Level → List Level → DeviceState (List Note) → Type 0
IsWay l [] d = HasClasses l.major l.classes d × IsBackloggedClass l.major l.minor l.quantum d
IsWay l (k ∷ levels) d = HasClasses l.major l.classes d × IsBackloggedClass l.major l.minor l.quantum d × IsBeneath l k d × IsWay k levels d

-- where it ends; its share is the product of the quanta of the product of their sums
abbrev pub last_level : Level → List Level → Level
last_level l [] = l
last_level l (k ∷ levels) = last_level k levels

abbrev pub quanta_on : Level → List Level → ℕ
quanta_on l [] = l.quantum
quanta_on l (k ∷ levels) = l.quantum * quanta_on k levels

abbrev pub sums_on : Level → List Level → ℕ
sums_on l [] = quanta_of l.classes
sums_on l (k ∷ levels) = quanta_of l.classes * sums_on k levels

-- what may lack at each level, and a longest packet for each drr that holds one
abbrev pub lacks_on : ℕ → Level → List Level → ℕ
lacks_on mtu l [] = lacks_of_bytes (length l.classes) l.quantum (quanta_of l.classes) mtu
lacks_on mtu l (k ∷ levels) =
    (lacks_of_bytes (length l.classes) l.quantum (quanta_of l.classes) mtu + mtu * quanta_of l.classes) * quanta_on k levels + quanta_of l.classes * lacks_on mtu k levels

abbrev pub sent_at : Level → DeviceState (List Note) → List Event → ℕ
sent_at l d events = class_sent l.major l.minor d events

abbrev pub SharesMultiply : DeviceSettings → Type 0
SharesMultiply settings =
    (before during : List Event) (link rate burst late : ℕ) (l : Level) (levels : List Level) → All IsEvent before → All IsEvent during
    → HasRoom settings.mtu late rate burst
    → Throughout (IsLinkOver link rate burst l.major) settings before during → Throughout (IsWay l levels) settings before during → IsDrained late (device_after settings before) during
    → IsPolledOut (device_after settings before) → IsPolledOut (device_after settings (before ++ during))
    → rate * ((device_after settings (before ++ during)).clock - (device_after settings before).clock) * quanta_on l levels
    < (sent_at (last_level l levels) (device_after settings before) during * sums_on l levels + (2 * (settings.mtu * quanta_on l levels) + lacks_on settings.mtu l levels)) * units_in_byte

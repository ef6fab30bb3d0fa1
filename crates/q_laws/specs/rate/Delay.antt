-- When what a tbf at the root has to pay is paid, over every interval of every replay and from any state on: neither that the device was
-- polled out before, nor that the tbf was backlogged. tc-tbf(8); a bound on delay from bytes that go before and a rate that is served
-- is that of network calculus (J.-Y. Le Boudec and P. Thiran, "Network Calculus" (2001), section 1.4).
use Rattle.std.specs.Prelude.{◌≡◌, ℕ, ◌+◌, ◌-◌, ◌*◌, ◌^◌, ◌<◌, ◌≤◌, min, List, [], ◌∷◌, ◌++◌, All, Some, slice_get}
use Rattle.std.specs.Int.{div_ceil}
use Rattle.std.specs.Option.{option_map_or}
use Rattle.q_bucket.specs.Level.{units_in_byte, level_at}
use Rattle.q_model.specs.declared.event.Event.{Event}
use Rattle.q_model.specs.Ask.{ask}
use Rattle.q_model.specs.Events.{IsEvent}
use Rattle.q_model.specs.Node.{Node, children, shape}
use Rattle.q_model.specs.Settings.{DeviceSettings}
use Rattle.q_model.specs.Step.{DeviceState, step}
use Rattle.q_model.specs.Stretches.{bytes_spent, length_held, TbfAt, tbf_in, Throughout}
use Rattle.q_model.specs.Tally.{Note, history}
use Rattle.q_device.specs.Sharing.{device_after}
use Rattle.q_laws.specs.rate.Rate.{IsBackloggedLink, IsDrained, IsPolledOut, HasRoom}

-- ---- the bytes that are left to pay

-- the bytes that a tbf has paid so far
abbrev pub paid_so_far : ℕ → DeviceState (List Note) → ℕ
paid_so_far major d = option_map_or (λ (tbf : TbfAt). bytes_spent tbf.noted) (tbf_in major d) 0

-- the length of the packet that the child of the root shows where it is asked at this time, and 0 where it shows none
abbrev pub next_below : ℕ → DeviceState (List Note) → ℕ
next_below t d = option_map_or (λ (child : Node (List Note)). length_held (ask t (shape child)).shown) (slice_get (children d.tree.root) 0) 0

-- Of the first so many bytes to be paid from the first of two states on, a packet is left in the second: whenever the tbf asks its child
-- from now on, what it has paid since and the packet that it is shown are no more.
abbrev pub IsLeft : ℕ → ℕ → DeviceState (List Note) → DeviceState (List Note) → Type 0
IsLeft major bytes first d = (t : ℕ) → d.clock ≤ t → t ≤ 2 ^ 62 → paid_so_far major d + next_below t d ≤ paid_so_far major first + bytes

-- ---- when they are paid

-- from a level in units on, the time at which a rate has brought what so many bytes take
abbrev pub latest : ℕ → ℕ → ℕ → ℕ → ℕ
latest begin rate level bytes = begin + div_ceil (bytes * units_in_byte - level) rate

-- What a level counts for where the first poll may be late: what would come meanwhile above the burst is lost.
abbrev pub level_counted : ℕ → ℕ → ℕ → ℕ → ℕ
level_counted late rate burst level = min level (burst * units_in_byte - rate * late)

-- While a packet of these bytes is left, the next event comes at that time or before, or as late after it as polls may be; and a poll that
-- gives nothing was before that time.
pub record PaysInTime (at late : ℕ) (d next : DeviceState (List Note)) : Type 0 where
  pub in_time : next.clock ≤ at + late
  pub polled_out : IsPolledOut d → d.clock < at

abbrev pub BytesArePaidInTime : DeviceSettings → Type 0
BytesArePaidInTime settings =
    (before during : List Event) (e : Event) (major rate burst late bytes : ℕ) (first : TbfAt) → All IsEvent before → All IsEvent during → IsEvent e
    → HasRoom settings.mtu late rate burst
    → Throughout (IsBackloggedLink major rate burst) settings before during → Throughout (IsLeft major bytes (device_after settings before)) settings before during
    → IsDrained late (device_after settings before) (during ++ e ∷ []) → tbf_in major (device_after settings before) ≡ Some first
    → PaysInTime
    (latest (device_after settings before).clock rate (level_counted late rate burst (level_at first.bucket (device_after settings before).clock)) bytes)
    late (device_after settings (before ++ during)) (step history (device_after settings (before ++ during)) e).device

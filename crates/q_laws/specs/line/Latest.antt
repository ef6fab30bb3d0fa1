-- That what a device answers of the packet that was queued last in a fifo is true of it, over every interval of every replay, and that what it
-- answers of a packet that is to come next is what it answers of it once it has come: q_device's specs/promises/Latest.antt has the numbers. tc-pfifo(8),
-- tc-bfifo(8) and tc-tbf(8).
use Rattle.std.specs.Prelude.{◌≡◌, ℕ, ◌+◌, ◌-◌, ◌*◌, ◌^◌, ◌<◌, ◌≤◌, max, List, [], ◌∷◌, ◌++◌, All, Option, Some}
use Rattle.std.specs.List.{filter_map}
use Rattle.q_packet.specs.Descriptor.{Descriptor}
use Rattle.q_bucket.specs.Level.{units_in_byte}
use Rattle.q_codel.specs.declared.limit.Limit.{Limit}
use Rattle.q_model.specs.declared.event.Event.{Event}
use Rattle.q_model.specs.declared.event.Event.TheVariants as event
use Rattle.q_model.specs.declared.place.Place.{Place}
use Rattle.q_model.specs.Events.{IsEvent}
use Rattle.q_model.specs.Settings.{DeviceSettings}
use Rattle.q_model.specs.Step.{step}
use Rattle.q_model.specs.Stretches.{Throughout}
use Rattle.q_model.specs.Tally.{history}
use Rattle.q_tree.specs.declared.answers.lanes.Lane.{Lane}
use Rattle.q_tree.specs.declared.answers.ways.Link.{Link}
use Rattle.q_tree.specs.answers.Lanes.{lane_to}
use Rattle.q_device.specs.declared.promises.latest.Latest.{Latest}
use Rattle.q_device.specs.Laws.{given_in}
use Rattle.q_device.specs.promises.Latest.{latest_of, paid_at}
use Rattle.q_device.specs.promises.Promise.{late_on}
use Rattle.q_device.specs.Sharing.{device_after}
use Rattle.q_laws.specs.line.Line.{BeginsWith, IsAlone, IsLink, KeepLine, bytes_in, line_at_root}
use Rattle.q_laws.specs.line.Worst.{IsKeptAt, with_arrival}
use Rattle.q_laws.specs.order.Order.{answers}
use Rattle.q_laws.specs.rate.Delay.{PaysInTime}
use Rattle.q_laws.specs.rate.Rate.{IsDrained}

-- The bytes that were answered are those in line, and polls give these packets before all others.
abbrev pub LatestIsEnough : DeviceSettings → Type 0
LatestIsEnough settings =
    (before during : List Event) (place : Place) (lane : Lane) (w : Latest) → All IsEvent before → All IsEvent during
    → lane_to place (device_after settings before).tree.root ≡ Some lane
    → latest_of history place 0 settings.mtu (device_after settings before) ≡ Some w
    → Throughout IsAlone settings before during → KeepLine line_at_root (device_after settings before) during
    → (bytes_in (line_at_root (device_after settings before)) ≡ w.bytes)
    × BeginsWith (line_at_root (device_after settings before))
    (filter_map given_in (answers (device_after settings before) during) ++ line_at_root (device_after settings (before ++ during)))

-- As long as polls have given fewer bytes since, so that the packet which was queued last has not left, the next event comes by the time that was
-- answered, or as late as polls may be; and a poll that gives nothing was before that time.
abbrev pub LatestIsInTime : DeviceSettings → Type 0
LatestIsInTime settings =
    (before during : List Event) (e : Event) (place : Place) (link : Link) (limit : Limit) (w : Latest) (at most late : ℕ) → All IsEvent before
    → All IsEvent during → IsEvent e
    → lane_to place (device_after settings before).tree.root ≡ Some (record { link = Some link; limit = limit })
    → latest_of history place 0 settings.mtu (device_after settings before) ≡ Some w
    → w.at ≡ Some at → w.late ≡ Some most → late ≤ most
    → Throughout (IsLink link.handle link.rate link.burst) settings before during → KeepLine line_at_root (device_after settings before) during
    → IsDrained late (device_after settings before) (during ++ e ∷ [])
    → bytes_in (filter_map given_in (answers (device_after settings before) during)) < w.bytes
    → PaysInTime at late (device_after settings (before ++ during)) (step history (device_after settings (before ++ during)) e).device

-- ---- before an arrival

-- What was answered of a packet of this length before it came is what is answered of it right after it was kept, if the clock stood meanwhile.
abbrev pub LatestIsToldBefore : DeviceSettings → Type 0
LatestIsToldBefore settings =
    (before : List Event) (p : Descriptor) (moment : ℕ) (place : Place) (w : Latest) → All IsEvent before → IsEvent (event.Arrive p moment)
    → latest_of history place p.len settings.mtu (device_after settings before) ≡ Some w → IsKeptAt place p moment (device_after settings before)
    → moment ≤ (device_after settings before).clock
    → latest_of history place 0 settings.mtu (device_after settings (with_arrival before p moment)) ≡ Some w

-- the same bytes and the same lateness are answered, and a time that is no later than this one
pub record IsToldBy (most : ℕ) (w : Latest) (answer : Option Latest) : Type 0 where
  pub next : Latest
  pub answered : answer ≡ Some next
  pub bytes : next.bytes ≡ w.bytes
  pub late : next.late ≡ w.late
  pub at : ℕ
  pub timed : next.at ≡ Some at
  pub soon : at ≤ most

-- If it came later, the time that is answered then is later by no more than that. (No time is later than 2^62.)
abbrev pub LatestRisesNoFaster : DeviceSettings → Type 0
LatestRisesNoFaster settings =
    (before : List Event) (p : Descriptor) (moment : ℕ) (place : Place) (w : Latest) (at : ℕ) → All IsEvent before → IsEvent (event.Arrive p moment)
    → latest_of history place p.len settings.mtu (device_after settings before) ≡ Some w → IsKeptAt place p moment (device_after settings before)
    → w.at ≡ Some at → at + (moment - (device_after settings before).clock) ≤ 2 ^ 62
    → IsToldBy (at + (moment - (device_after settings before).clock)) w
    (latest_of history place 0 settings.mtu (device_after settings (with_arrival before p moment)))

-- The time from which on the bucket of a link, if it counts for as much as it can, has paid for so many bytes that come now.
abbrev pub at_best : ℕ → ℕ → Link → ℕ → ℕ
at_best mtu now link bytes = paid_at now link (link.burst * units_in_byte - link.rate * late_on mtu link) bytes

-- The bucket fills meanwhile: so a time is answered that is no later than was answered, or than that.
abbrev pub LatestStandsAsItFills : DeviceSettings → Type 0
LatestStandsAsItFills settings =
    (before : List Event) (p : Descriptor) (moment : ℕ) (place : Place) (link : Link) (limit : Limit) (w : Latest) (at : ℕ) → All IsEvent before
    → IsEvent (event.Arrive p moment)
    → lane_to place (device_after settings before).tree.root ≡ Some (record { link = Some link; limit = limit })
    → latest_of history place p.len settings.mtu (device_after settings before) ≡ Some w → IsKeptAt place p moment (device_after settings before)
    → w.at ≡ Some at → max at (at_best settings.mtu (max (device_after settings before).clock moment) link w.bytes) ≤ 2 ^ 62
    → IsToldBy (max at (at_best settings.mtu (max (device_after settings before).clock moment) link w.bytes)) w
    (latest_of history place 0 settings.mtu (device_after settings (with_arrival before p moment)))

-- That what a device answers of the worst delay of a fifo is true of each packet that the fifo keeps, over every interval of every replay:
-- q_device's specs/promises/Worst.antt has the numbers. tc-pfifo(8), tc-bfifo(8) and tc-tbf(8); that a queue which is never longer than its limit
-- and is served at a rate bounds a delay is known from network calculus (J.-Y. Le Boudec and P. Thiran, "Network Calculus" (2001), section 1.4).
use Rattle.std.specs.Prelude.{◌≡◌, ℕ, ◌+◌, ◌<◌, ◌≤◌, List, [], ◌∷◌, ◌++◌, All, Some}
use Rattle.std.specs.List.{filter_map}
use Rattle.q_packet.specs.Descriptor.{Descriptor}
use Rattle.q_codel.specs.declared.limit.Limit.{Limit}
use Rattle.q_model.specs.declared.event.Event.{Event}
use Rattle.q_model.specs.declared.event.Event.TheVariants as event
use Rattle.q_model.specs.declared.fate.Fate.TheVariants as fate
use Rattle.q_model.specs.declared.place.Place.{Place}
use Rattle.q_model.specs.declared.reply.Reply.TheVariants as reply
use Rattle.q_model.specs.Events.{IsEvent}
use Rattle.q_model.specs.Find.{place_path}
use Rattle.q_model.specs.Route.{route}
use Rattle.q_model.specs.Settings.{DeviceSettings}
use Rattle.q_model.specs.Step.{DeviceState, step}
use Rattle.q_model.specs.Stretches.{Throughout}
use Rattle.q_model.specs.Tally.{Note, history}
use Rattle.q_tree.specs.declared.answers.lanes.Lane.{Lane}
use Rattle.q_tree.specs.declared.answers.ways.Link.{Link}
use Rattle.q_tree.specs.answers.Lanes.{lane_to}
use Rattle.q_device.specs.declared.promises.worst.Worst.{Worst}
use Rattle.q_device.specs.Laws.{given_in}
use Rattle.q_device.specs.promises.Worst.{most_bytes, worst_on}
use Rattle.q_device.specs.Sharing.{device_after}
use Rattle.q_laws.specs.line.Line.{BeginsWith, IsAlone, IsLink, KeepLine, bytes_in, line_at_root}
use Rattle.q_laws.specs.order.Order.{answers}
use Rattle.q_laws.specs.rate.Delay.{PaysInTime}
use Rattle.q_laws.specs.rate.Rate.{IsDrained}

-- This packet comes now, goes to what is in this place, and is kept.
pub record IsKeptAt (place : Place) (p : Descriptor) (moment : ℕ) (d : DeviceState (List Note)) : Type 0 where
  pub goes : place_path place d.tree.root ≡ Some (route p d.tree.root).path
  pub kept : (step history d (event.Arrive p moment)).reply ≡ reply.Fate fate.Kept

-- the events up to the packet
abbrev pub with_arrival : List Event → Descriptor → ℕ → List Event
with_arrival before p moment = before ++ event.Arrive p moment ∷ []

-- ---- how long a line is

-- The packet is last of these, which have so many bytes at most.
pub record EndsWithin (bytes : ℕ) (p : Descriptor) (packets : List Descriptor) : Type 0 where
  pub others : List Descriptor
  pub last : packets ≡ others ++ p ∷ []
  pub within : bytes_in packets ≤ bytes

-- Where a fifo in line has just kept a packet, the packet is last in line, and the line has no more bytes than the fifo's limit.
abbrev pub LinesKeepLimits : DeviceSettings → Type 0
LinesKeepLimits settings =
    (before : List Event) (p : Descriptor) (moment : ℕ) (place : Place) (lane : Lane) → All IsEvent before → IsEvent (event.Arrive p moment)
    → lane_to place (device_after settings before).tree.root ≡ Some lane → IsKeptAt place p moment (device_after settings before)
    → EndsWithin (most_bytes settings.mtu lane.limit) p (line_at_root (device_after settings (with_arrival before p moment)))

-- ---- what leaves before it has left

-- What polls give from then on, and what is in line then, begins with packets that have so many bytes at most, of which this one is last.
pub record LeavesWithin (bytes : ℕ) (p : Descriptor) (packets : List Descriptor) : Type 0 where
  pub first : List Descriptor
  pub there : BeginsWith first packets
  pub ends : EndsWithin bytes p first

abbrev pub WorstIsEnough : DeviceSettings → Type 0
WorstIsEnough settings =
    (before during : List Event) (p : Descriptor) (moment : ℕ) (place : Place) (lane : Lane) (w : Worst) → All IsEvent before → IsEvent (event.Arrive p moment)
    → All IsEvent during
    → lane_to place (device_after settings before).tree.root ≡ Some lane → worst_on settings.mtu lane ≡ Some w → IsKeptAt place p moment (device_after settings before)
    → Throughout IsAlone settings (with_arrival before p moment) during → KeepLine line_at_root (device_after settings (with_arrival before p moment)) during
    → LeavesWithin w.bytes p (filter_map given_in (answers (device_after settings (with_arrival before p moment)) during) ++ line_at_root
    (device_after settings (with_arrival before p moment ++ during)))

-- ---- in time

-- As long as polls have given fewer bytes since than were in line with the packet, so that it has not left, the next event comes within the time
-- that was answered, or as late as polls may be; and a poll that gives nothing was before that time.
abbrev pub WorstIsInTime : DeviceSettings → Type 0
WorstIsInTime settings =
    (before during : List Event) (e : Event) (p : Descriptor) (moment : ℕ) (place : Place) (link : Link) (limit : Limit) (w : Worst) (ns most late : ℕ) → All IsEvent before
    → IsEvent (event.Arrive p moment) → All IsEvent during → IsEvent e
    → lane_to place (device_after settings before).tree.root ≡ Some (record { link = Some link; limit = limit }) → worst_on settings.mtu (record { link = Some link; limit = limit }) ≡ Some w
    → w.ns ≡ Some ns → w.late ≡ Some most → late ≤ most → IsKeptAt place p moment (device_after settings before)
    → Throughout (IsLink link.handle link.rate link.burst) settings (with_arrival before p moment) during
    → KeepLine line_at_root (device_after settings (with_arrival before p moment)) during
    → IsDrained late (device_after settings (with_arrival before p moment)) (during ++ e ∷ [])
    → bytes_in (filter_map given_in (answers (device_after settings (with_arrival before p moment)) during)) < bytes_in (line_at_root (device_after settings (with_arrival before p moment)))
    → PaysInTime ((device_after settings (with_arrival before p moment)).clock + ns) late (device_after settings (with_arrival before p moment ++ during))
    (step history (device_after settings (with_arrival before p moment ++ during)) e).device

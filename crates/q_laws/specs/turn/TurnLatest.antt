-- That what a device answers of the packet that was queued last in the fifo of a class of a drr is true of it, from the state of the moment, over
-- every interval of every replay: q_device's specs/promises/Latest.antt has the numbers. tc-drr(8), tc-pfifo(8), tc-bfifo(8) and tc-tbf(8).
use Rattle.std.specs.Prelude.{◌≡◌, ℕ, ◌+◌, ◌^◌, ◌≤◌, max, List, [], ◌∷◌, ◌++◌, All, Option, Some}
use Rattle.std.specs.List.{filter_map}
use Rattle.q_packet.specs.Descriptor.{Descriptor}
use Rattle.q_model.specs.declared.class_id.ClassId.{ClassId}
use Rattle.q_model.specs.declared.event.Event.{Event}
use Rattle.q_model.specs.declared.event.Event.TheVariants as event
use Rattle.q_model.specs.declared.place.Place.TheVariants as place
use Rattle.q_model.specs.Events.{IsEvent}
use Rattle.q_model.specs.Settings.{DeviceSettings}
use Rattle.q_model.specs.Step.{step}
use Rattle.q_model.specs.Stretches.{length_held, Throughout}
use Rattle.q_model.specs.Tally.{history}
use Rattle.q_model.specs.TreeState.{given}
use Rattle.q_tree.specs.declared.answers.turns.Turn.{Turn}
use Rattle.q_tree.specs.declared.answers.ways.Link.{Link}
use Rattle.q_tree.specs.answers.Turns.{turn_to}
use Rattle.q_tree.specs.answers.Ways.{DrrClass}
use Rattle.q_device.specs.declared.promises.latest.Latest.{Latest}
use Rattle.q_device.specs.Laws.{given_in}
use Rattle.q_device.specs.Sharing.{device_after}
use Rattle.q_laws.specs.line.Latest.{IsToldBy, at_best}
use Rattle.q_laws.specs.line.Line.{bytes_in}
use Rattle.q_laws.specs.order.Order.{answers}
use Rattle.q_laws.specs.rate.Delay.{PaysInTime}
use Rattle.q_laws.specs.rate.Rate.{IsDrained}
use Rattle.q_laws.specs.turn.FifoTurn.{KeepFifo}
use Rattle.q_device.specs.promises.Latest.{latest_in_turn, latest_of}
use Rattle.q_laws.specs.line.Worst.{IsKeptAt, with_arrival}
use Rattle.q_laws.specs.turn.TurnWorst.{IsTurn, IsWaiting, id_of}

-- what a device answers of such a class is what follows
abbrev pub LatestTurnIsAnswered : DeviceSettings → Type 0
LatestTurnIsAnswered settings =
    (events : List Event) (class : ClassId) (len : ℕ) (turn : Turn) → turn_to (place.Class class) (device_after settings events).tree.root ≡ Some turn
    → latest_of history (place.Class class) len settings.mtu (device_after settings events)
    ≡ latest_in_turn class len settings.mtu (device_after settings events) turn.link

-- Until the packet that was queued last has left, what polls gave since, and what a poll at any time gives next, have no more bytes than were
-- answered.
abbrev pub LatestTurnIsEnough : DeviceSettings → Type 0
LatestTurnIsEnough settings =
    (before during : List Event) (link : Option Link) (d : DrrClass) (w : Latest) (t : ℕ) → All IsEvent before → All IsEvent during
    → latest_in_turn (id_of d) 0 settings.mtu (device_after settings before) link ≡ Some w
    → Throughout (IsTurn link d) settings before during → KeepFifo d.major d.class.name (device_after settings before) during
    → Throughout (IsWaiting d.major d.class.name (device_after settings before)) settings before during
    → (device_after settings (before ++ during)).clock ≤ t → t ≤ 2 ^ 62
    → bytes_in (filter_map given_in (answers (device_after settings before) during))
    + length_held (given t (device_after settings (before ++ during)).tree) ≤ w.bytes

-- Below a tbf at the root: the next event comes by the time that was answered, or as late as polls may be; and a poll that gives nothing was before
-- that time.
abbrev pub LatestTurnIsInTime : DeviceSettings → Type 0
LatestTurnIsInTime settings =
    (before during : List Event) (e : Event) (link : Link) (d : DrrClass) (w : Latest) (at most late : ℕ) → All IsEvent before → All IsEvent during → IsEvent e
    → latest_in_turn (id_of d) 0 settings.mtu (device_after settings before) (Some link) ≡ Some w
    → w.at ≡ Some at → w.late ≡ Some most → late ≤ most
    → Throughout (IsTurn (Some link) d) settings before during → KeepFifo d.major d.class.name (device_after settings before) during
    → Throughout (IsWaiting d.major d.class.name (device_after settings before)) settings before during
    → IsDrained late (device_after settings before) (during ++ e ∷ [])
    → PaysInTime at late (device_after settings (before ++ during)) (step history (device_after settings (before ++ during)) e).device

-- What was answered of a packet before it came, if it came later: the bucket fills meanwhile, so a time is answered that is no later than that, or
-- than what the bucket would pay by then if it counted for as much as it can.
abbrev pub LatestTurnStandsAsItFills : DeviceSettings → Type 0
LatestTurnStandsAsItFills settings =
    (before : List Event) (p : Descriptor) (moment : ℕ) (class : ClassId) (turn : Turn) (link : Link) (w : Latest) (at : ℕ) → All IsEvent before
    → IsEvent (event.Arrive p moment)
    → turn_to (place.Class class) (device_after settings before).tree.root ≡ Some turn → turn.link ≡ Some link
    → latest_of history (place.Class class) p.len settings.mtu (device_after settings before) ≡ Some w
    → IsKeptAt (place.Class class) p moment (device_after settings before)
    → w.at ≡ Some at → max at (at_best settings.mtu (max (device_after settings before).clock moment) link w.bytes) ≤ 2 ^ 62
    → IsToldBy (max at (at_best settings.mtu (max (device_after settings before).clock moment) link w.bytes)) w
    (latest_of history (place.Class class) 0 settings.mtu (device_after settings (with_arrival before p moment)))

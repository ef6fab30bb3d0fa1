-- That what a device answers of the worst delay of a class of a drr is true of each packet that the class's fifo keeps, over every interval of
-- every replay: q_device's specs/promises/Worst.antt has the numbers. tc-drr(8), tc-pfifo(8), tc-bfifo(8) and tc-tbf(8); that a queue which is never longer
-- than its limit and has its share of a rate bounds a delay is known from network calculus (J.-Y. Le Boudec and P. Thiran, "Network Calculus"
-- (2001), section 1.4).
use Rattle.std.specs.Prelude.{◌≡◌, ℕ, ◌+◌, ◌^◌, ◌≤◌, ◌⊎◌, List, [], ◌∷◌, ◌++◌, All, Option, Some, option_and_then}
use Rattle.std.specs.List.{filter_map}
use Rattle.q_packet.specs.Descriptor.{Descriptor}
use Rattle.q_codel.specs.declared.limit.Limit.{Limit}
use Rattle.q_model.specs.declared.class_id.ClassId.{ClassId}
use Rattle.q_model.specs.declared.event.Event.{Event}
use Rattle.q_model.specs.declared.event.Event.TheVariants as event
use Rattle.q_model.specs.declared.place.Place.TheVariants as place
use Rattle.q_model.specs.Events.{IsEvent}
use Rattle.q_model.specs.Node.{Node}
use Rattle.q_model.specs.Settings.{DeviceSettings}
use Rattle.q_model.specs.Step.{DeviceState, step}
use Rattle.q_model.specs.Stretches.{length_held, qdisc, Throughout}
use Rattle.q_model.specs.Tally.{Note, history}
use Rattle.q_model.specs.TreeState.{given}
use Rattle.q_tree.specs.declared.answers.turns.Turn.{Turn}
use Rattle.q_tree.specs.declared.answers.ways.Link.{Link}
use Rattle.q_tree.specs.answers.Turns.{turn_to}
use Rattle.q_tree.specs.answers.Ways.{DrrClass, share_of, way_to}
use Rattle.q_device.specs.declared.promises.worst.Worst.{Worst}
use Rattle.q_device.specs.Laws.{given_in}
use Rattle.q_device.specs.promises.Worst.{most_bytes, worst_in_turn, worst_of}
use Rattle.q_device.specs.Sharing.{device_after}
use Rattle.q_laws.specs.line.Line.{bytes_in}
use Rattle.q_laws.specs.line.Worst.{EndsWithin, IsKeptAt, with_arrival}
use Rattle.q_laws.specs.order.Order.{answers}
use Rattle.q_laws.specs.rate.Delay.{PaysInTime}
use Rattle.q_laws.specs.rate.Rate.{IsDrained}
use Rattle.q_laws.specs.turn.FifoTurn.{class_line, IsFifoClass, IsInFifo, KeepFifo}

-- ---- a class and its fifo

abbrev pub id_of : DrrClass → ClassId
id_of d = record { major = d.major; minor = d.class.name }

-- the turn of this class below this link
abbrev pub turn_of : Option Link → DrrClass → Limit → Turn
turn_of link d limit = record { link = link; share = share_of d; limit = limit }

-- the way to the class leads through its drr alone, below this link
abbrev pub LeadsTo : Option Link → DrrClass → DeviceState (List Note) → Type 0
LeadsTo link d state = way_to (id_of d) state.tree.root ≡ Some (record { link = link; drrs = d ∷ [] })

-- and its child is a fifo
abbrev pub IsTurn : Option Link → DrrClass → DeviceState (List Note) → Type 0
IsTurn link d state = LeadsTo link d state × IsFifoClass d.major d.class.name d.class.quantum state

-- the packets of the class
abbrev pub turn_line : DrrClass → DeviceState (List Note) → List Descriptor
turn_line d state = class_line d.major d.class.name state

-- what a device answers of such a class is what follows
abbrev pub TurnIsAnswered : DeviceSettings → Type 0
TurnIsAnswered settings =
    (events : List Event) (class : ClassId) (turn : Turn) → turn_to (place.Class class) (device_after settings events).tree.root ≡ Some turn
    → worst_of (place.Class class) settings.mtu (device_after settings events).tree.root ≡ worst_in_turn settings.mtu turn

-- Where the fifo of a class has just kept a packet, the packet is last in it, and it has no more bytes than the fifo's limit.
abbrev pub TurnsKeepLimits : DeviceSettings → Type 0
TurnsKeepLimits settings =
    (before : List Event) (p : Descriptor) (moment : ℕ) (link : Option Link) (d : DrrClass) (limit : Limit) → All IsEvent before
    → IsEvent (event.Arrive p moment) → LeadsTo link d (device_after settings before)
    → turn_to (place.Class (id_of d)) (device_after settings before).tree.root ≡ Some (turn_of link d limit)
    → IsKeptAt (place.Class (id_of d)) p moment (device_after settings before)
    → EndsWithin (most_bytes settings.mtu limit) p (turn_line d (device_after settings (with_arrival before p moment)))

-- ---- while the packet has not left

-- the packet that a qdisc holds
abbrev pub held_at : ℕ → DeviceState (List Note) → Option Descriptor
held_at major d = option_and_then (λ (n : Node (List Note)). n.own.held) (qdisc major d)

-- The class has sent fewer bytes than were queued in the first state, or its drr holds a packet. A drr gives what it holds before all else, and
-- holds none right after: so in a stretch of such states what was queued last has not left.
abbrev pub IsWaiting : ℕ → ℕ → DeviceState (List Note) → DeviceState (List Note) → Type 0
IsWaiting major i first d = IsInFifo major i first d ⊎ ((p : Descriptor) × (held_at major d ≡ Some p))

-- Until it has left, what polls gave since it came, and what a poll at any time gives next, have no more bytes than were answered.
abbrev pub TurnIsEnough : DeviceSettings → Type 0
TurnIsEnough settings =
    (before during : List Event) (p : Descriptor) (moment : ℕ) (link : Option Link) (d : DrrClass) (limit : Limit) (w : Worst) (t : ℕ)
    → All IsEvent before → IsEvent (event.Arrive p moment) → All IsEvent during → LeadsTo link d (device_after settings before)
    → turn_to (place.Class (id_of d)) (device_after settings before).tree.root ≡ Some (turn_of link d limit)
    → worst_in_turn settings.mtu (turn_of link d limit) ≡ Some w → IsKeptAt (place.Class (id_of d)) p moment (device_after settings before)
    → Throughout (IsTurn link d) settings (with_arrival before p moment) during
    → KeepFifo d.major d.class.name (device_after settings (with_arrival before p moment)) during
    → Throughout (IsWaiting d.major d.class.name (device_after settings (with_arrival before p moment))) settings
    (with_arrival before p moment) during
    → (device_after settings (with_arrival before p moment ++ during)).clock ≤ t → t ≤ 2 ^ 62
    → bytes_in (filter_map given_in (answers (device_after settings (with_arrival before p moment)) during))
    + length_held (given t (device_after settings (with_arrival before p moment ++ during)).tree) ≤ w.bytes

-- Below a tbf at the root: the next event comes within the time that was answered, or as late as polls may be; and a poll that gives nothing was
-- before that time.
abbrev pub TurnIsInTime : DeviceSettings → Type 0
TurnIsInTime settings =
    (before during : List Event) (e : Event) (p : Descriptor) (moment : ℕ) (link : Link) (d : DrrClass) (limit : Limit) (w : Worst)
    (ns most late : ℕ) → All IsEvent before → IsEvent (event.Arrive p moment) → All IsEvent during → IsEvent e
    → LeadsTo (Some link) d (device_after settings before)
    → turn_to (place.Class (id_of d)) (device_after settings before).tree.root ≡ Some (turn_of (Some link) d limit)
    → worst_in_turn settings.mtu (turn_of (Some link) d limit) ≡ Some w → w.ns ≡ Some ns → w.late ≡ Some most → late ≤ most
    → IsKeptAt (place.Class (id_of d)) p moment (device_after settings before)
    → Throughout (IsTurn (Some link) d) settings (with_arrival before p moment) during
    → KeepFifo d.major d.class.name (device_after settings (with_arrival before p moment)) during
    → Throughout (IsWaiting d.major d.class.name (device_after settings (with_arrival before p moment))) settings
    (with_arrival before p moment) during
    → IsDrained late (device_after settings (with_arrival before p moment)) (during ++ e ∷ [])
    → PaysInTime ((device_after settings (with_arrival before p moment)).clock + ns) late
    (device_after settings (with_arrival before p moment ++ during))
    (step history (device_after settings (with_arrival before p moment ++ during)) e).device

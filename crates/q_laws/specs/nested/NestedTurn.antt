-- What a drr sends before a packet in a class of a drr that is the child of one of its classes, and so on: a turn of each drr on the path for what
-- the one below hands up in a turn of its own, whatever states they are in. Deficit round robin: M. Shreedhar and G. Varghese, "Efficient Fair
-- Queuing Using Deficit Round-Robin" (1995), and tc-drr(8); that what is bounded at each node of a path is bounded at its end is known from
-- network calculus (J.-Y. Le Boudec and P. Thiran, "Network Calculus" (2001), section 1.4).
use Rattle.std.specs.Prelude.{◌≡◌, ℕ, ◌+◌, ◌≤◌, ◌⊎◌, List, [], ◌∷◌, ◌++◌, All, map, Option, Some}
use Rattle.std.specs.List.{filter_map}
use Rattle.std.specs.Option.{option_map_or}
use Rattle.q_packet.specs.Descriptor.{Descriptor}
use Rattle.q_model.specs.declared.class_id.ClassId.{ClassId}
use Rattle.q_model.specs.declared.event.Event.{Event}
use Rattle.q_model.specs.Events.{IsEvent}
use Rattle.q_model.specs.Node.{Node}
use Rattle.q_model.specs.Settings.{DeviceSettings}
use Rattle.q_model.specs.Step.{DeviceState, step}
use Rattle.q_model.specs.Stretches.{bytes_sent, length_held, qdisc, Throughout}
use Rattle.q_model.specs.Tally.{Note, history}
use Rattle.q_tree.specs.declared.answers.ways.Link.{Link}
use Rattle.q_tree.specs.declared.answers.ways.Share.{Share}
use Rattle.q_tree.specs.answers.Ways.{DrrClass, share_among, share_of, way_to}
use Rattle.q_device.specs.Laws.{given_in}
use Rattle.q_device.specs.promises.Worst.{most_held, most_of_turn, time_of}
use Rattle.q_device.specs.Sharing.{device_after}
use Rattle.q_laws.specs.line.Line.{bytes_in}
use Rattle.q_laws.specs.order.Order.{answers}
use Rattle.q_laws.specs.rate.Delay.{PaysInTime}
use Rattle.q_laws.specs.rate.Rate.{HasRoom, IsDrained}
use Rattle.q_laws.specs.share.Delivered.{level_of, levels_of}
use Rattle.q_laws.specs.share.InTime.{IsBeneath, Level, last_level}
use Rattle.q_laws.specs.share.Service.{HasClasses, IsClass}
use Rattle.q_laws.specs.turn.FifoTurn.{class_line, IsFifoClass, KeepFifo}
use Rattle.q_laws.specs.turn.TurnWorst.{IsWaiting, held_at}

-- ---- the bytes

-- the share of the class of a level
abbrev pub share_at : Level → Share
share_at l = share_among (record { name = l.minor; quantum = l.quantum }) l.classes

-- A turn of a drr for the bytes of its class; where the child of this is a drr again, for all that this one hands up until the packet has left
-- it: the packet that it may hold already, and a turn of its own. From the uppermost drr down.
abbrev pub most_of_turns : ℕ → ℕ → Share → List Share → ℕ
most_of_turns mtu bytes share [] = most_of_turn mtu bytes share
most_of_turns mtu bytes share (inner ∷ shares) = most_of_turn mtu (mtu + most_of_turns mtu bytes inner shares) share

-- what a qdisc has handed up so far, and the packet that it holds
abbrev pub reached_by : ℕ → DeviceState (List Note) → ℕ
reached_by major d = option_map_or (λ (n : Node (List Note)). bytes_sent n.memory + length_held n.own.held) (qdisc major d) 0

-- ---- a path of drrs

-- each drr is the child of a class of the one above, and a fifo is a class of the last one
abbrev pub IsPath : Level → List Level → DeviceState (List Note) → Type 0
IsPath l [] d = HasClasses l.major l.classes d × IsFifoClass l.major l.minor l.quantum d
IsPath l (k ∷ levels) d = HasClasses l.major l.classes d × IsClass l.major l.minor l.quantum d × IsBeneath l k d × IsPath k levels d

-- the packets of that fifo, and that a command leaves it, with what is queued there as it was, or longer at its end
abbrev pub bytes_below : Level → List Level → DeviceState (List Note) → ℕ
bytes_below l levels d = bytes_in (class_line (last_level l levels).major (last_level l levels).minor d)

abbrev pub KeepsBelow : Level → List Level → DeviceState (List Note) → List Event → Type 0
KeepsBelow l levels d events = KeepFifo (last_level l levels).major (last_level l levels).minor d events

-- ---- while the packet that was queued last in the fifo has not left drr l

abbrev pub HoldsPacket : ℕ → DeviceState (List Note) → Type 0
HoldsPacket major d = (p : Descriptor) × (held_at major d ≡ Some p)

-- It waited below, left at an event, and the drr holds a packet since: a drr gives what it holds before all else, and holds none right after.
pub record IsTaken (Waits : List Event → Type 0) (major : ℕ) (settings : DeviceSettings) (before events : List Event) : Type 0 where
  pub during : List Event
  pub taken_at : Event
  pub later : List Event
  pub parts : during ++ taken_at ∷ later ≡ events
  pub waits : Waits during
  pub holds : Throughout (HoldsPacket major) settings (before ++ (during ++ taken_at ∷ [])) later

-- it waits in the last drr, or in the drr of a level above
abbrev pub StaysOn : Level → List Level → DeviceSettings → List Event → List Event → Type 0
StaysOn l [] settings before events = Throughout (IsWaiting l.major l.minor (device_after settings before)) settings before events
StaysOn l (k ∷ levels) settings before events =
    StaysOn k levels settings before events ⊎ IsTaken (λ during. StaysOn k levels settings before during) l.major settings before events

-- As long as it has not left drr l, and with the event at which it does: what drr l has handed up since, and the packet that it holds, have no more
-- bytes than it held at first and the most of its turns.
abbrev pub NestedTurnsAreBounded : DeviceSettings → Type 0
NestedTurnsAreBounded settings =
    (before during : List Event) (e : Event) (l : Level) (levels : List Level) (bytes : ℕ) → All IsEvent before → All IsEvent during → IsEvent e
    → Throughout (IsPath l levels) settings before (during ++ e ∷ []) → KeepsBelow l levels (device_after settings before) (during ++ e ∷ [])
    → bytes_below l levels (device_after settings before) ≤ bytes → StaysOn l levels settings before during
    → reached_by l.major (device_after settings (before ++ (during ++ e ∷ [])))
    ≤ reached_by l.major (device_after settings before) + most_of_turns settings.mtu bytes (share_at l) (map share_at levels)

-- ---- a way through drrs

-- the way to a class leads through these drrs, below this link, and its child is a fifo
abbrev pub IsNestedTurn : Option Link → ClassId → DrrClass → List DrrClass → DeviceState (List Note) → Type 0
IsNestedTurn link class a drrs d =
    (way_to class d.tree.root ≡ Some (record { link = link; drrs = a ∷ drrs }))
    × IsFifoClass (last_level (level_of a) (levels_of drrs)).major (last_level (level_of a) (levels_of drrs)).minor
    (last_level (level_of a) (levels_of drrs)).quantum d

-- Until the packet has left the device, and with the event at which it does: what polls gave has no more bytes than the most of these turns, and a
-- packet that the first drr may hold below a tbf.
abbrev pub NestedTurnIsEnough : DeviceSettings → Type 0
NestedTurnIsEnough settings =
    (before during : List Event) (e : Event) (link : Option Link) (class : ClassId) (a : DrrClass) (drrs : List DrrClass) (bytes : ℕ)
    → All IsEvent before → All IsEvent during → IsEvent e → Throughout (IsNestedTurn link class a drrs) settings before (during ++ e ∷ [])
    → KeepsBelow (level_of a) (levels_of drrs) (device_after settings before) (during ++ e ∷ [])
    → bytes_below (level_of a) (levels_of drrs) (device_after settings before) ≤ bytes → StaysOn (level_of a) (levels_of drrs) settings before during
    → bytes_in (filter_map given_in (answers (device_after settings before) (during ++ e ∷ [])))
    ≤ most_held settings.mtu link + most_of_turns settings.mtu bytes (share_of a) (map share_of drrs)

-- Below a tbf at the root: the next event comes within the time in which the rate brings these bytes, or as late as polls may be; and a poll that
-- gives nothing was before that time.
abbrev pub NestedTurnIsInTime : DeviceSettings → Type 0
NestedTurnIsInTime settings =
    (before events : List Event) (e : Event) (link : Link) (class : ClassId) (a : DrrClass) (drrs : List DrrClass) (bytes late : ℕ)
    → All IsEvent before → All IsEvent events → IsEvent e → HasRoom settings.mtu late link.rate link.burst
    → Throughout (IsNestedTurn (Some link) class a drrs) settings before events
    → KeepsBelow (level_of a) (levels_of drrs) (device_after settings before) events
    → bytes_below (level_of a) (levels_of drrs) (device_after settings before) ≤ bytes → StaysOn (level_of a) (levels_of drrs) settings before events
    → IsDrained late (device_after settings before) (events ++ e ∷ [])
    → PaysInTime
    ((device_after settings before).clock + time_of (settings.mtu + most_of_turns settings.mtu bytes (share_of a) (map share_of drrs)) link) late
    (device_after settings (before ++ events)) (step history (device_after settings (before ++ events)) e).device

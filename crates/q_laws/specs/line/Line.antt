-- What leaves before a packet that waits in line, over every interval of every replay: only what is before it there, whatever comes.
-- tc-pfifo(8), and tc-prio(8), whose first band goes before all others; a fifo that no packet passes is what bounds on delay begin
-- with (J.-Y. Le Boudec and P. Thiran, "Network Calculus" (2001), section 1.4).
use Rattle.std.specs.Prelude.{◌≡◌, ℕ, ◌+◌, ◌*◌, ◌<◌, ◌≤◌, false, List, [], ◌∷◌, ◌++◌, All, Some, option_map, unwrap_or, slice_get, sum_by}
use Rattle.std.specs.Int.{div_ceil}
use Rattle.std.specs.List.{filter_map}
use Rattle.std.specs.Option.{option_to_list}
use Rattle.q_packet.specs.Descriptor.{Descriptor}
use Rattle.q_bucket.specs.Level.{units_in_byte, level_at}
use Rattle.q_model.specs.declared.event.Event.{Event}
use Rattle.q_model.specs.declared.event.Event.TheVariants as event
use Rattle.q_model.specs.Beneath.{packets_of}
use Rattle.q_model.specs.Conserved.{nodes_of}
use Rattle.q_model.specs.Events.{IsEvent}
use Rattle.q_model.specs.Node.{Discipline, Fifo, Prio, Tbf, Drr, FqCodel, Own, Node, children, from_below}
use Rattle.q_model.specs.Settings.{DeviceSettings}
use Rattle.q_model.specs.Step.{DeviceState, step}
use Rattle.q_model.specs.Stretches.{TbfAt, tbf_in, IsTbf, Throughout}
use Rattle.q_model.specs.Tally.{Note, history}
use Rattle.q_tree.specs.answers.Ways.{is_tbf}
use Rattle.q_device.specs.Laws.{given_in}
use Rattle.q_device.specs.Sharing.{device_after}
use Rattle.q_laws.specs.order.Order.{answers}
use Rattle.q_laws.specs.rate.Delay.{paid_so_far, latest, level_counted, PaysInTime}
use Rattle.q_laws.specs.rate.Rate.{IsDrained, HasRoom}

-- ---- the line

-- The packets that leave a node next, in this order, whatever arrives meanwhile: all of a fifo, those of a prio's first band and of the
-- child of a tbf, and of any qdisc the one that it holds.
abbrev pub line_in : Discipline → List (List Descriptor) → List Descriptor
line_in (Fifo limit queue) below = packets_of queue
line_in (Prio priomap) below = unwrap_or (slice_get below 0) []
line_in (Tbf bucket limit) below = unwrap_or (slice_get below 0) []
line_in (Drr s) below = []
line_in (FqCodel s) below = []

abbrev pub line_own : Own → List (List Descriptor) → List Descriptor
line_own own below = option_to_list own.held ++ line_in own.discipline below

abbrev pub line : {M : Type 0} → Node M → List Descriptor
line n = from_below line_own n

-- of a whole device, and below its root
abbrev pub line_at_root : DeviceState (List Note) → List Descriptor
line_at_root d = line d.tree.root

abbrev pub line_below_root : DeviceState (List Note) → List Descriptor
line_below_root d = unwrap_or (option_map line (slice_get (children d.tree.root) 0)) []

abbrev pub bytes_in : List Descriptor → ℕ
bytes_in packets = sum_by (λ (p : Descriptor). p.len) packets

-- the second list begins with the first
abbrev pub BeginsWith : List Descriptor → List Descriptor → Type 0
BeginsWith first packets = (rest : List Descriptor) × (packets ≡ first ++ rest)

-- ---- an interval

-- a command takes no packet out of the line, and puts none before one of it
abbrev pub KeepsLine : (DeviceState (List Note) → List Descriptor) → DeviceState (List Note) → Event → Type 0
KeepsLine line_of d (event.Arrive p moment) = Unit {0}
KeepsLine line_of d (event.Poll moment) = Unit {0}
KeepsLine line_of d (event.Command c moment) = BeginsWith (line_of d) (line_of (step history d (event.Command c moment)).device)

abbrev pub KeepLine : (DeviceState (List Note) → List Descriptor) → DeviceState (List Note) → List Event → Type 0
KeepLine line_of d [] = Unit {0}
KeepLine line_of d (e ∷ events) = KeepsLine line_of d e × KeepLine line_of (step history d e).device events

-- no tbf is below the root
abbrev pub IsAlone : DeviceState (List Note) → Type 0
IsAlone d = All (λ (n : Node (List Note)). is_tbf n.own.discipline ≡ false) (nodes_of d.tree.root.below)

-- What polls give, and then what is in line at last, begins with what was in line at first: so nothing else leaves before it.
abbrev pub LinesLeaveFirst : DeviceSettings → Type 0
LinesLeaveFirst settings =
    (before during : List Event) → All IsEvent before → All IsEvent during → Throughout IsAlone settings before during
    → KeepLine line_at_root (device_after settings before) during
    → BeginsWith (line_at_root (device_after settings before))
    (filter_map given_in (answers (device_after settings before) during) ++ line_at_root (device_after settings (before ++ during)))

-- ---- in time

-- a tbf at the root with no other below
pub record IsLink (major rate burst : ℕ) (d : DeviceState (List Note)) : Type 0 where
  pub tbf : IsTbf major rate burst d
  pub root : d.tree.root.own.handle ≡ Some major
  pub alone : IsAlone d

-- less has been paid than was in line below the root in the first state
abbrev pub IsInLine : ℕ → DeviceState (List Note) → DeviceState (List Note) → Type 0
IsInLine major first d = paid_so_far major d < paid_so_far major first + bytes_in (line_below_root first)

-- So as long as one of these packets is left, the next event comes by the time at which the rate has brought what all of them take.
abbrev pub LinesLeaveInTime : DeviceSettings → Type 0
LinesLeaveInTime settings =
    (before during : List Event) (e : Event) (major rate burst late : ℕ) (first : TbfAt) → All IsEvent before → All IsEvent during → IsEvent e
    → HasRoom settings.mtu late rate burst
    → Throughout (IsLink major rate burst) settings before during → Throughout (IsInLine major (device_after settings before)) settings before during
    → KeepLine line_below_root (device_after settings before) during
    → IsDrained late (device_after settings before) (during ++ e ∷ []) → tbf_in major (device_after settings before) ≡ Some first
    → PaysInTime
    (latest (device_after settings before).clock rate (level_counted late rate burst (level_at first.bucket (device_after settings before).clock))
    (bytes_in (line_below_root (device_after settings before))))
    late (device_after settings (before ++ during)) (step history (device_after settings (before ++ during)) e).device

-- Whatever the level was: where no more was in line than a limit, as in a bfifo that has just taken a packet, all of it leaves within the time
-- in which the rate brings that limit.
abbrev pub LimitsAreDelays : DeviceSettings → Type 0
LimitsAreDelays settings =
    (before during : List Event) (e : Event) (major rate burst late limit : ℕ) → All IsEvent before → All IsEvent during → IsEvent e
    → HasRoom settings.mtu late rate burst
    → Throughout (IsLink major rate burst) settings before during → Throughout (IsInLine major (device_after settings before)) settings before during
    → KeepLine line_below_root (device_after settings before) during
    → IsDrained late (device_after settings before) (during ++ e ∷ []) → bytes_in (line_below_root (device_after settings before)) ≤ limit
    → PaysInTime ((device_after settings before).clock + div_ceil (limit * units_in_byte) rate) late
    (device_after settings (before ++ during)) (step history (device_after settings (before ++ during)) e).device

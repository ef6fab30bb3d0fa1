-- The replays at which the premises of the laws are shown to hold: small devices and lists of events, of which everything is computed.
use Rattle.std.specs.Prelude.{ℕ, List, [], ◌∷◌, ◌++◌, Some, None}
use Rattle.q_packet.specs.Descriptor.{Descriptor}
use Rattle.q_packet.specs.declared.ecn.Ecn.TheVariants.{NotEct}
use Rattle.q_model.specs.declared.class_id.ClassId.{ClassId}
use Rattle.q_model.specs.declared.command.Command.TheVariants.{QdiscAdd}
use Rattle.q_model.specs.declared.event.Event.{Event}
use Rattle.q_model.specs.declared.event.Event.TheVariants as event
use Rattle.q_model.specs.declared.kind.Kind.{Kind}
use Rattle.q_model.specs.declared.kind.Kind.TheVariants as kind
use Rattle.q_model.specs.declared.place.Place.{Place}
use Rattle.q_model.specs.declared.place.Place.TheVariants as place
use Rattle.q_model.specs.declared.tbf_limit.TbfLimit.TheVariants as limit
use Rattle.q_model.specs.Settings.{DeviceSettings}
use Rattle.q_tree.specs.declared.answers.lanes.Lane.{Lane}
use Rattle.q_tree.specs.declared.answers.ways.Link.{Link}
use Rattle.q_codel.specs.declared.limit.Limit.{Limit}
use Rattle.q_codel.specs.declared.limit.Limit.TheVariants.{Bytes}
use Rattle.q_device.specs.declared.promises.latest.Latest.{Latest}
use Rattle.q_device.specs.declared.promises.worst.Worst.{Worst}

abbrev pub settings : DeviceSettings
settings = record { mtu = 1000; txqueuelen = 1000; recorder = 4096 }

-- ---- events

-- the n-th packet, of the flow with this port, hash and priority
abbrev pub packet : ℕ → ℕ → ℕ → Descriptor
packet flow n len = record {
  port = 0;
  number = n;
  buf = n;
  len = len;
  key = record { family = 0; proto = 0; src = 0; dst = 0; sport = flow; dport = 0 };
  hash = flow;
  prio = flow;
  ecn = NotEct;
}

abbrev pub arrives : ℕ → ℕ → ℕ → Event
arrives flow n len = event.Arrive (packet flow n len) 0

abbrev pub class : ℕ → ℕ → ClassId
class major minor = record { major = major; minor = minor }

abbrev pub add_root : ℕ → Kind → Event
add_root handle k = event.Command (QdiscAdd place.Root (Some handle) k) 0

-- ---- a line: a tbf of 8 Mbit/s with a burst of 2000 bytes over a bfifo of 5000 bytes

abbrev pub rate_of_link : ℕ
rate_of_link = 8000000

abbrev pub link_of_tree : Link
link_of_tree = record { handle = 1; rate = rate_of_link; burst = 2000 }

-- one packet more for the first class
abbrev pub one_more : Descriptor
one_more = packet 1 9 1000

abbrev pub five_thousand : Limit
five_thousand = Bytes 5000

unfoldable pub line_before : List Event
line_before =
    add_root 1 (kind.Tbf rate_of_link 2000 (limit.Bytes 5000)) ∷ arrives 1 1 1000 ∷ arrives 1 2 1000 ∷ arrives 1 3 1000 ∷ arrives 1 4 1000 ∷ event.Poll 0
    ∷ event.Poll 0 ∷ event.Poll 0 ∷ []

unfoldable pub line_during : List Event
line_during = event.Poll 1001000 ∷ event.Poll 1001000 ∷ []

-- or at the times at which it is ready
unfoldable pub line_at_times : List Event
line_at_times = event.Poll 1000000 ∷ event.Poll 2000000 ∷ []

abbrev pub line_next : Event
line_next = event.Poll 2000000

abbrev pub in_line : Place
in_line = place.Class (class 1 1)

abbrev pub first_lane : Lane
first_lane = record { link = Some link_of_tree; limit = five_thousand }

abbrev pub line_worst : Worst
line_worst = record { bytes = 5000; ns = Some 5000000; late = Some 999999 }

abbrev pub line_latest : Latest
line_latest = record { bytes = 2000; at = Some 2000000; late = Some 999999 }

-- of one packet more
abbrev pub line_told : Latest
line_told = record { bytes = 3000; at = Some 3000000; late = Some 999999 }

-- ---- a prio of two bands: flow 1 goes to the first, and flow 2 to the second

abbrev pub bands_map : List ℕ
bands_map = 1 ∷ 0 ∷ 1 ∷ 1 ∷ 1 ∷ 1 ∷ 1 ∷ 1 ∷ 1 ∷ 1 ∷ 1 ∷ 1 ∷ 1 ∷ 1 ∷ 1 ∷ 1 ∷ []

unfoldable pub bands_tree : List Event
bands_tree = add_root 1 (kind.Prio (record { bands = 2; priomap = bands_map })) ∷ []

unfoldable pub bands_before : List Event
bands_before = bands_tree ++ arrives 2 1 500 ∷ arrives 1 2 1000 ∷ arrives 1 3 1000 ∷ []

-- once the first band is empty
unfoldable pub bands_second : List Event
bands_second = bands_before ++ event.Poll 0 ∷ event.Poll 0 ∷ []

unfoldable pub bands_during : List Event
bands_during = event.Poll 0 ∷ arrives 2 4 100 ∷ event.Poll 0 ∷ []

unfoldable pub bands_flow : List Event
bands_flow = arrives 1 2 1000 ∷ arrives 2 1 500 ∷ arrives 1 3 1000 ∷ event.Poll 0 ∷ event.Poll 0 ∷ []

-- ---- an fq_codel of four flows with a quantum of 1000 bytes, of which two have packets of 600 bytes

unfoldable pub flows_before : List Event
flows_before =
    add_root 1 (kind.FqCodel (record { limit = None; flows = Some 4; quantum = Some 1000; target = None; interval = None; ecn = None; drop_batch = None }))
    ∷ arrives 1 1 600 ∷ arrives 1 2 600 ∷ arrives 1 3 600 ∷ arrives 1 4 600 ∷ arrives 1 5 600 ∷ arrives 2 6 600 ∷ arrives 2 7 600 ∷ arrives 2 8 600
    ∷ event.Poll 0 ∷ event.Poll 0 ∷ []

-- the first of these polls grants to flow 1, and the others do not
abbrev pub flows_granting : Event
flows_granting = event.Poll 0

unfoldable pub flows_during : List Event
flows_during = event.Poll 0 ∷ event.Poll 0 ∷ event.Poll 0 ∷ []

-- flow 3 joins, and has not given its packet after a poll
abbrev pub flow_joins : Event
flow_joins = arrives 3 9 100

unfoldable pub flows_then : List Event
flows_then = event.Poll 0 ∷ []

-- ---- two drrs, one in the first class of the other, below the tbf of the link

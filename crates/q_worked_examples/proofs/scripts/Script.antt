-- What the worked scripts are written with: packets, lines, answers and rows.
use Rattle.std.proofs.Common.{ℕ, List}
use Rattle.std.specs.Prelude.{Option, Some, None, Ok, Err, map, replicate}
use Rattle.q_packet.specs.Descriptor.{Descriptor}
use Rattle.q_packet.specs.Key.{zero_key}
use Rattle.q_packet.specs.declared.ecn.Ecn.TheVariants.{NotEct}
use Rattle.q_packet.specs.declared.cause.Cause.{Cause}
use Rattle.q_codel.specs.declared.loss.Loss.{Loss}
use Rattle.q_model.specs.declared.class_id.ClassId.{ClassId}
use Rattle.q_model.specs.declared.command.Command.{Command}
use Rattle.q_model.specs.declared.command.Command.TheVariants.{QdiscAdd, ClassAdd, FilterAdd}
use Rattle.q_model.specs.declared.filter_keys.FilterKeys.{FilterKeys}
use Rattle.q_model.specs.declared.kind.Kind.{Kind}
use Rattle.q_model.specs.declared.kind.Kind.TheVariants as kind
use Rattle.q_model.specs.declared.place.Place.{Place}
use Rattle.q_model.specs.declared.place.Place.TheVariants as place
use Rattle.q_model.specs.declared.protocol.Protocol.TheVariants as protocol
use Rattle.q_model.specs.declared.row.Row.{Row}
use Rattle.q_model.specs.declared.totals.Totals.{Totals}
use Rattle.q_model.specs.Options.{FqOptions}
use Rattle.q_model.specs.Tally.{Counts, totals}
use Rattle.q_model.specs.TreeState.{stats}
use Rattle.q_model.specs.Settings.{DeviceSettings}
use Rattle.q_model.specs.declared.event.Event.{Event}
use Rattle.q_model.specs.declared.event.Event.TheVariants as event
use Rattle.q_model.specs.declared.fate.Fate.TheVariants as fate
use Rattle.q_model.specs.declared.polled.Polled.TheVariants as polled
use Rattle.q_model.specs.declared.refusal.Refusal.{Refusal}
use Rattle.q_model.specs.declared.reply.Reply.{Reply}
use Rattle.q_model.specs.declared.reply.Reply.TheVariants as reply
use Rattle.q_model.specs.Replay.{Replay, replay}

-- a device with an mtu of 1514 and a queue of 1000 packets
abbrev pub settings : DeviceSettings
settings = record { mtu = 1514; txqueuelen = 1000; recorder = 4096 }

-- the n-th packet, so long
abbrev pub packet : ℕ → ℕ → Descriptor
packet n len = record { port = 0; number = n; buf = n; len = len; key = zero_key; hash = 0; prio = 0; ecn = NotEct }

abbrev pub hashed : ℕ → ℕ → ℕ → Descriptor
hashed hash n len = record (packet n len) { hash = hash }

abbrev pub with_prio : ℕ → ℕ → ℕ → Descriptor
with_prio prio n len = record (packet n len) { prio = prio }

abbrev pub from_port : ℕ → ℕ → ℕ → Descriptor
from_port sport n len = record (packet n len) { key = record { family = 0; proto = 0; src = 0; dst = 0; sport = sport; dport = 0 } }

-- lines, at a moment
abbrev pub arrives : ℕ → Descriptor → Event
arrives at p = event.Arrive p at

abbrev pub polls : ℕ → ℕ → List Event
polls at n = replicate n (event.Poll at)

abbrev pub tc : Command → Event
tc c = event.Command c 0

abbrev pub class : ℕ → ℕ → ClassId
class major minor = record { major = major; minor = minor }

abbrev pub in_class : ℕ → ℕ → Place
in_class major minor = place.Class (class major minor)

abbrev pub add_root : Option ℕ → Kind → Event
add_root handle k = tc (QdiscAdd place.Root handle k)

abbrev pub add_in : ℕ → ℕ → Option ℕ → Kind → Event
add_in major minor handle k = tc (QdiscAdd (in_class major minor) handle k)

abbrev pub add_class : ℕ → ℕ → Option ℕ → Event
add_class major minor quantum = tc (ClassAdd major (class major minor) quantum)

abbrev pub no_keys : FilterKeys
no_keys = record { ip_proto = None; src_ip = None; dst_ip = None; src_port = None; dst_port = None }

abbrev pub prio : ℕ → List ℕ → Kind
prio bands priomap = kind.Prio (record { bands = bands; priomap = priomap })

-- a filter of priority `prio` for packets from this port, or for all packets
abbrev pub add_filter : ℕ → ℕ → FilterKeys → ℕ → Event
add_filter major prio keys minor = tc (FilterAdd major major (record { prio = prio; protocol = protocol.All; keys = keys; minor = minor }))

abbrev pub filter_port : ℕ → ℕ → ℕ → ℕ → Event
filter_port major prio sport minor = add_filter major prio (record no_keys { src_port = Some sport }) minor

abbrev pub no_options : FqOptions
no_options = record { limit = None; flows = None; quantum = None; target = None; interval = None; ecn = None; drop_batch = None }

-- answers
abbrev pub ok : Reply
ok = reply.Done (Ok (record {}))

abbrev pub not_done : Refusal → Reply
not_done refusal = reply.Done (Err refusal)

abbrev pub kept : Reply
kept = reply.Fate fate.Kept

abbrev pub lost : Cause → Reply
lost cause = reply.Fate (fate.Lost cause)

abbrev pub sent : Descriptor → Reply
sent p = reply.Polled (polled.Packet p)

abbrev pub idle : Reply
idle = reply.Polled polled.Idle

abbrev pub later : Reply
later = reply.Polled polled.Later

abbrev pub loss : Descriptor → Cause → Loss
loss p cause = record { packet = p; cause = cause }

-- what a script comes to
abbrev pub run : List Event → Replay Counts
run events = replay totals settings events

-- what is seen of it: what each line was answered, what was lost, and the rows of some places
pub record Seen : Type 0 where
  pub replies : List Reply
  pub losses : List Loss
  pub rows : List (Option Row)

abbrev pub seen : List Place → Replay Counts → Seen
seen places r = record { replies = r.replies; losses = r.losses; rows = map (λ p. stats totals p r.device.tree) places }

abbrev pub pb : ℕ → ℕ → Totals
pb packets bytes = record { packets = packets; bytes = bytes }

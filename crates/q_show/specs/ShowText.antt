-- What `tc -s qdisc show`, `tc class show` and `tc filter show` print of one qdisc, class or filter.
-- In the manner of tc(8); the texts are this project's own.
use Rattle.std.specs.Prelude.{ℕ, ◌/◌, ◌%◌, ◌^◌, Bool, false, List, [], ◌++◌, codes, decimal, if◌then◌else◌, Option}
use Rattle.std.specs.List.{flat_map}
use Rattle.std.specs.Option.{option_map_or}
use Rattle.std.specs.Fmt.{digits}
use Rattle.q_fqcodel.specs.FqState.{FqSettings}
use Rattle.q_model.specs.declared.class_id.ClassId.{ClassId}
use Rattle.q_model.specs.declared.class_kind.ClassKind.{ClassKind}
use Rattle.q_model.specs.declared.class_kind.ClassKind.TheVariants as class
use Rattle.q_model.specs.declared.class_view.ClassView.{ClassView}
use Rattle.q_model.specs.declared.filter_keys.FilterKeys.{FilterKeys}
use Rattle.q_model.specs.declared.filter_view.FilterView.{FilterView}
use Rattle.q_model.specs.declared.ip_version.IpVersion.{IpVersion}
use Rattle.q_model.specs.declared.ip_version.IpVersion.TheVariants.{V4, V6}
use Rattle.q_model.specs.declared.node_view.NodeView.{NodeView}
use Rattle.q_model.specs.declared.place.Place.{Place}
use Rattle.q_model.specs.declared.place.Place.TheVariants as place
use Rattle.q_model.specs.declared.protocol.Protocol.{Protocol}
use Rattle.q_model.specs.declared.protocol.Protocol.TheVariants.{All, Ip, Ipv6}
use Rattle.q_model.specs.declared.qdisc_view.QdiscView.{QdiscView}
use Rattle.q_model.specs.declared.qdisc_view.QdiscView.TheVariants as qdisc
use Rattle.q_model.specs.declared.row.Row.{Row}
use Rattle.q_model.specs.declared.totals.Totals.{Totals}
use Rattle.q_model.specs.Options.{Prefix}

abbrev pub newline : List ℕ
newline = codes "\n"

abbrev pub hex : ℕ → List ℕ
hex n = digits 16 false n

abbrev pub totals_text : List ℕ → Totals → List ℕ
totals_text name t = codes " " ++ name ++ codes " " ++ decimal t.packets ++ codes "p " ++ decimal t.bytes ++ codes "b"

abbrev pub counters_text : Row → List ℕ
counters_text r =
    totals_text (codes "arrived") r.arrived ++ totals_text (codes "sent") r.sent ++ totals_text (codes "refused") r.refused
    ++ totals_text (codes "dropped") r.dropped ++ totals_text (codes "queued") r.queued

-- marks are shown of an fq_codel alone
abbrev pub marked_text : QdiscView → Row → List ℕ
marked_text (qdisc.FqCodel s) r = totals_text (codes "marked") r.marked
marked_text other r = []

-- names and settings
abbrev pub handle_text : Option ℕ → List ℕ
handle_text handle = option_map_or hex handle (codes "0")

abbrev pub class_text : ClassId → List ℕ
class_text c = hex c.major ++ codes ":" ++ hex c.minor

abbrev pub place_text : Place → List ℕ
place_text place.Top = []
place_text place.Root = codes "root"
place_text (place.Class class) = codes "parent " ++ class_text class

abbrev pub kind_text : QdiscView → List ℕ
kind_text (qdisc.Pfifo limit) = codes "pfifo"
kind_text (qdisc.Bfifo limit) = codes "bfifo"
kind_text (qdisc.Prio bands priomap) = codes "prio"
kind_text (qdisc.Tbf rate burst limit) = codes "tbf"
kind_text qdisc.Drr = codes "drr"
kind_text (qdisc.FqCodel s) = codes "fq_codel"

abbrev pub setting : List ℕ → ℕ → List ℕ → List ℕ
setting name n unit = codes " " ++ name ++ codes " " ++ decimal n ++ unit

-- what an fq_codel holds, what it wants of times, and how it marks and drops
abbrev pub sizes_text : FqSettings → List ℕ
sizes_text s = setting (codes "limit") s.limit (codes "p") ++ setting (codes "flows") s.flows [] ++ setting (codes "quantum") s.quantum []

abbrev pub times_text : FqSettings → List ℕ
times_text s = setting (codes "target") s.target (codes "ns") ++ setting (codes "interval") s.interval (codes "ns")

abbrev pub ecn_text : Bool → List ℕ
ecn_text ecn = if ecn then codes " ecn" else codes " noecn"

abbrev pub losses_text : Bool → ℕ → List ℕ
losses_text ecn batch = ecn_text ecn ++ setting (codes "drop_batch") batch []

abbrev pub fq_codel_text : FqSettings → List ℕ
fq_codel_text s = sizes_text s ++ times_text s ++ losses_text s.ecn s.drop_batch

abbrev pub priomap_text : List ℕ → List ℕ
priomap_text priomap = codes " priomap" ++ flat_map (λ band. codes " " ++ decimal band) priomap

abbrev pub options_text : QdiscView → List ℕ
options_text (qdisc.Pfifo limit) = setting (codes "limit") limit (codes "p")
options_text (qdisc.Bfifo limit) = setting (codes "limit") limit (codes "b")
options_text (qdisc.Prio bands priomap) =
    setting (codes "bands") bands [] ++ priomap_text priomap
options_text (qdisc.Tbf rate burst limit) =
    setting (codes "rate") rate (codes "bit") ++ setting (codes "burst") burst (codes "b") ++ setting (codes "limit") limit (codes "b")
options_text qdisc.Drr = []
options_text (qdisc.FqCodel s) = fq_codel_text s

abbrev pub qdisc_line : NodeView → List ℕ
qdisc_line n =
    codes "qdisc " ++ kind_text n.qdisc ++ codes " " ++ handle_text n.handle ++ codes ": " ++ place_text n.place ++ options_text n.qdisc ++ newline

abbrev pub counters_line : NodeView → List ℕ
counters_line n = counters_text n.row ++ marked_text n.qdisc n.row ++ newline

-- a qdisc, with its counters on a line of their own where they are asked for
abbrev pub qdisc_text : Bool → NodeView → List ℕ
qdisc_text counters n = qdisc_line n ++ (if counters then counters_line n else [])

-- a class of a drr waits for its turn with a deficit, or is inactive
abbrev pub turn_text : Option ℕ → List ℕ
turn_text deficit = option_map_or (λ n. codes " active" ++ setting (codes "deficit") n []) deficit (codes " asleep")

abbrev pub kind_of_class : ClassKind → ClassId → List ℕ
kind_of_class class.Prio c = codes "prio " ++ class_text c
kind_of_class class.Tbf c = codes "tbf " ++ class_text c
kind_of_class (class.Drr quantum deficit) c =
    codes "drr " ++ class_text c ++ setting (codes "quantum") quantum [] ++ turn_text deficit

abbrev pub class_line : ClassView → List ℕ
class_line c = codes "class " ++ kind_of_class c.kind c.class ++ newline

abbrev pub protocol_text : Protocol → List ℕ
protocol_text All = codes "all"
protocol_text Ip = codes "ip"
protocol_text Ipv6 = codes "ipv6"

-- four numbers joined by points, or eight groups joined by colons
abbrev pub address_text : IpVersion → ℕ → List ℕ
address_text V4 a =
    decimal (a / 2 ^ 24 % 256) ++ codes "." ++ decimal (a / 2 ^ 16 % 256) ++ codes "." ++ decimal (a / 2 ^ 8 % 256) ++ codes "." ++ decimal (a % 256)
address_text V6 a =
    hex (a / 2 ^ 112 % 65536) ++ codes ":" ++ hex (a / 2 ^ 96 % 65536) ++ codes ":" ++ hex (a / 2 ^ 80 % 65536) ++ codes ":" ++ hex (a / 2 ^ 64 % 65536)
    ++ codes ":" ++ hex (a / 2 ^ 48 % 65536) ++ codes ":" ++ hex (a / 2 ^ 32 % 65536) ++ codes ":" ++ hex (a / 2 ^ 16 % 65536) ++ codes ":" ++ hex (a % 65536)

abbrev pub prefix_text : Prefix → List ℕ
prefix_text p = address_text p.version p.address ++ codes "/" ++ decimal p.len

abbrev pub given : {A : Type 0} → List ℕ → (A → List ℕ) → Option A → List ℕ
given name text o = option_map_or (λ a. codes " " ++ name ++ codes " " ++ text a) o []

abbrev pub keys_text : FilterKeys → List ℕ
keys_text k =
    given (codes "ip_proto") hex k.ip_proto ++ given (codes "src_ip") prefix_text k.src_ip ++ given (codes "dst_ip") prefix_text k.dst_ip
    ++ given (codes "src_port") decimal k.src_port ++ given (codes "dst_port") decimal k.dst_port

-- which packets a filter tests, and into which class it puts them
abbrev pub matches_text : FilterView → List ℕ
matches_text f = codes "filter parent " ++ hex f.parent ++ codes ": prio " ++ decimal f.filter.prio ++ codes " protocol " ++ protocol_text f.filter.protocol

abbrev pub into_text : FilterView → List ℕ
into_text f = codes " classid " ++ hex f.parent ++ codes ":" ++ hex f.filter.minor

abbrev pub filter_line : FilterView → List ℕ
filter_line f = matches_text f ++ keys_text f.filter.keys ++ into_text f ++ newline

-- One way to write each line: numbers in decimal; handles, class ids and protocol numbers in hexadecimal; sizes in bytes, rates
-- in bits a second and times in microseconds. The words of tc lines are those of tc(8) and the pages of the disciplines.
use Rattle.std.specs.Prelude.{ℕ, ◌+◌, ◌/◌, ◌%◌, ◌^◌, ◌==◌, Bool, true, false, ◌&&◌, not, List, [], ◌∷◌, ◌++◌, map, codes, decimal, if◌then◌else◌, Option, Some, None}
use Rattle.std.specs.List.{flat_map, join_with_byte, list_all}
use Rattle.std.specs.Fmt.{digits, digit_glyph}
use Rattle.q_packet.specs.Ecn.{codepoint}
use Rattle.q_model.specs.declared.class_id.ClassId.{ClassId}
use Rattle.q_model.specs.declared.command.Command.{Command}
use Rattle.q_model.specs.declared.command.Command.TheVariants as command
use Rattle.q_model.specs.declared.filter.Filter.{Filter}
use Rattle.q_model.specs.declared.filter_keys.FilterKeys.{FilterKeys}
use Rattle.q_model.specs.declared.ip_version.IpVersion.{IpVersion}
use Rattle.q_model.specs.declared.ip_version.IpVersion.TheVariants.{V4, V6}
use Rattle.q_model.specs.declared.kind.Kind.{Kind}
use Rattle.q_model.specs.declared.kind.Kind.TheVariants as kind
use Rattle.q_model.specs.declared.place.Place.{Place}
use Rattle.q_model.specs.declared.place.Place.TheVariants as place
use Rattle.q_model.specs.declared.protocol.Protocol.{Protocol}
use Rattle.q_model.specs.declared.protocol.Protocol.TheVariants.{All, Ip, Ipv6}
use Rattle.q_model.specs.declared.tbf_limit.TbfLimit.{TbfLimit}
use Rattle.q_model.specs.declared.tbf_limit.TbfLimit.TheVariants as tbf_limit
use Rattle.q_model.specs.Options.{FqOptions, Prefix}
use Rattle.q_words.specs.Words.{is_blank, is_filled}
use Rattle.q_line.specs.declared.arrival.Arrival.{Arrival}
use Rattle.q_line.specs.declared.line.Line.{Line}
use Rattle.q_line.specs.declared.line.Line.TheVariants as line
use Rattle.q_line.specs.declared.object.Object.{Object}
use Rattle.q_line.specs.declared.object.Object.TheVariants as object

-- bytes that are one word: some, and none of them a blank
abbrev pub is_word : List ℕ → Bool
is_word bytes = is_filled bytes && list_all (λ b. not (is_blank b)) bytes

abbrev pub hex : ℕ → List ℕ
hex n = digits 16 false n

-- an option and its value, where it is given
abbrev pub given : {A : Type 0} → List ℕ → (A → List ℕ) → Option A → List (List ℕ)
given name text None = []
given name text (Some a) = name ∷ text a ∷ []

abbrev pub handle_word : ℕ → List ℕ
handle_word major = hex major ++ codes ":"

abbrev pub class_word : ClassId → List ℕ
class_word c = hex c.major ++ codes ":" ++ hex c.minor

abbrev pub bytes_word : ℕ → List ℕ
bytes_word n = decimal n ++ codes "b"

abbrev pub rate_word : ℕ → List ℕ
rate_word bits = decimal bits ++ codes "bit"

-- the last three digits of a number
abbrev pub last_three : ℕ → List ℕ
last_three n = (48 + n / 100 % 10) ∷ (48 + n / 10 % 10) ∷ (48 + n % 10) ∷ []

-- nanoseconds, as microseconds with three decimal places
abbrev pub time_word : ℕ → List ℕ
time_word ns = decimal (ns / 1000) ++ (codes "." ++ (last_three ns ++ codes "us"))

-- four numbers joined by points, or eight groups joined by colons
abbrev pub octets : ℕ → List (List ℕ)
octets a = decimal (a / 2 ^ 24 % 256) ∷ decimal (a / 2 ^ 16 % 256) ∷ decimal (a / 2 ^ 8 % 256) ∷ decimal (a % 256) ∷ []

abbrev pub groups : ℕ → List (List ℕ)
groups a =
    hex (a / 2 ^ 112 % 65536) ∷ hex (a / 2 ^ 96 % 65536) ∷ hex (a / 2 ^ 80 % 65536) ∷ hex (a / 2 ^ 64 % 65536)
    ∷ hex (a / 2 ^ 48 % 65536) ∷ hex (a / 2 ^ 32 % 65536) ∷ hex (a / 2 ^ 16 % 65536) ∷ hex (a % 65536) ∷ []

abbrev pub address_word : IpVersion → ℕ → List ℕ
address_word V4 a = join_with_byte 46 (octets a)
address_word V6 a = join_with_byte 58 (groups a)

-- packets: an address is given where the family has one
abbrev pub version_in : ℕ → Option IpVersion
version_in family = if family == 4 then Some V4 else if family == 6 then Some V6 else None

abbrev pub address_words : Option IpVersion → ℕ → ℕ → List (List ℕ)
address_words None src dst = []
address_words (Some v) src dst = codes "src_ip" ∷ address_word v src ∷ codes "dst_ip" ∷ address_word v dst ∷ []

abbrev pub arrival_words : Arrival → List (List ℕ)
arrival_words a =
    (codes "pkt" ∷ decimal a.len ∷ [])
    ++ (given (codes "hash") decimal a.hash
    ++ ((codes "prio" ∷ decimal a.prio ∷ codes "ip_proto" ∷ hex a.key.proto ∷ [])
    ++ (address_words (version_in a.key.family) a.key.src a.key.dst
    ++ (codes "src_port" ∷ decimal a.key.sport ∷ codes "dst_port" ∷ decimal a.key.dport ∷ codes "ecn" ∷ decimal (codepoint a.ecn) ∷ []))))

-- the bytes of a packet, two hexadecimal digits each
abbrev pub byte_digits : ℕ → List ℕ
byte_digits b = digit_glyph false (b / 16) ∷ digit_glyph false (b % 16) ∷ []

abbrev pub packet_word : List ℕ → List ℕ
packet_word bytes = flat_map byte_digits bytes

abbrev pub object_word : Object → List ℕ
object_word object.Qdisc = codes "qdisc"
object_word object.Class = codes "class"
object_word object.Filter = codes "filter"

abbrev pub counters_words : Bool → List (List ℕ)
counters_words true = codes "-s" ∷ []
counters_words false = []

-- the place of a qdisc
abbrev pub place_words : Place → List (List ℕ)
place_words place.Top = []
place_words place.Root = codes "root" ∷ []
place_words (place.Class class) = codes "parent" ∷ class_word class ∷ []

abbrev pub some_place_words : Option Place → List (List ℕ)
some_place_words None = []
some_place_words (Some place) = place_words place

abbrev pub tbf_limit_words : TbfLimit → List (List ℕ)
tbf_limit_words (tbf_limit.Bytes n) = codes "limit" ∷ bytes_word n ∷ []
tbf_limit_words (tbf_limit.Latency ns) = codes "latency" ∷ time_word ns ∷ []

abbrev pub ecn_words : Option Bool → List (List ℕ)
ecn_words None = []
ecn_words (Some true) = codes "ecn" ∷ []
ecn_words (Some false) = codes "noecn" ∷ []

abbrev pub fq_codel_words : FqOptions → List (List ℕ)
fq_codel_words o =
    given (codes "limit") decimal o.limit ++ (given (codes "flows") decimal o.flows ++ (given (codes "quantum") bytes_word o.quantum
    ++ (given (codes "target") time_word o.target ++ (given (codes "interval") time_word o.interval
    ++ (ecn_words o.ecn ++ given (codes "drop_batch") decimal o.drop_batch)))))

abbrev pub kind_words : Kind → List (List ℕ)
kind_words (kind.Pfifo limit) = codes "pfifo" ∷ given (codes "limit") decimal limit
kind_words (kind.Bfifo limit) = codes "bfifo" ∷ given (codes "limit") bytes_word limit
kind_words (kind.Prio s) = codes "prio" ∷ codes "bands" ∷ decimal s.bands ∷ codes "priomap" ∷ map decimal s.priomap
kind_words (kind.Tbf rate burst limit) = codes "tbf" ∷ codes "rate" ∷ rate_word rate ∷ codes "burst" ∷ bytes_word burst ∷ tbf_limit_words limit
kind_words kind.Drr = codes "drr" ∷ []
kind_words (kind.FqCodel o) = codes "fq_codel" ∷ fq_codel_words o

-- filters
abbrev pub protocol_word : Protocol → List ℕ
protocol_word All = codes "all"
protocol_word Ip = codes "ip"
protocol_word Ipv6 = codes "ipv6"

abbrev pub prefix_word : Prefix → List ℕ
prefix_word p = address_word p.version p.address ++ (codes "/" ++ decimal p.len)

abbrev pub keys_words : FilterKeys → List (List ℕ)
keys_words k =
    given (codes "ip_proto") hex k.ip_proto ++ (given (codes "src_ip") prefix_word k.src_ip ++ (given (codes "dst_ip") prefix_word k.dst_ip
    ++ (given (codes "src_port") decimal k.src_port ++ given (codes "dst_port") decimal k.dst_port)))

abbrev pub filter_words : ℕ → ℕ → Filter → List (List ℕ)
filter_words parent major f =
    (codes "parent" ∷ handle_word parent ∷ codes "prio" ∷ decimal f.prio ∷ codes "protocol" ∷ protocol_word f.protocol ∷ codes "flower" ∷ [])
    ++ (keys_words f.keys ++ (codes "classid" ∷ class_word (record { major = major; minor = f.minor }) ∷ []))

-- a tc line begins with its object, what it does to it, and the device
abbrev pub change_words : List ℕ → List ℕ → List ℕ → List (List ℕ)
change_words object verb name = codes "tc" ∷ object ∷ verb ∷ codes "dev" ∷ name ∷ []

abbrev pub command_words : List ℕ → Command → List (List ℕ)
command_words name (command.QdiscAdd place handle kind) =
    change_words (codes "qdisc") (codes "add") name ++ (place_words place ++ (given (codes "handle") handle_word handle ++ kind_words kind))
command_words name (command.QdiscChange place handle kind) =
    change_words (codes "qdisc") (codes "change") name ++ (some_place_words place ++ (given (codes "handle") handle_word handle ++ kind_words kind))
command_words name (command.QdiscDel place handle) =
    change_words (codes "qdisc") (codes "del") name ++ (some_place_words place ++ given (codes "handle") handle_word handle)
command_words name (command.ClassAdd parent class quantum) =
    change_words (codes "class") (codes "add") name
    ++ ((codes "parent" ∷ handle_word parent ∷ codes "classid" ∷ class_word class ∷ codes "drr" ∷ []) ++ given (codes "quantum") bytes_word quantum)
command_words name (command.ClassChange parent class quantum) =
    change_words (codes "class") (codes "change") name
    ++ (given (codes "parent") handle_word parent ++ ((codes "classid" ∷ class_word class ∷ codes "drr" ∷ []) ++ given (codes "quantum") bytes_word quantum))
command_words name (command.ClassDel parent class) =
    change_words (codes "class") (codes "del") name ++ (given (codes "parent") handle_word parent ++ (codes "classid" ∷ class_word class ∷ []))
command_words name (command.FilterAdd parent major filter) =
    change_words (codes "filter") (codes "add") name ++ filter_words parent major filter
command_words name (command.FilterDel parent prio) =
    change_words (codes "filter") (codes "del") name ++ (codes "parent" ∷ handle_word parent ∷ codes "prio" ∷ decimal prio ∷ [])

-- the words of a line, for a device of this name; a `frame` line has the bytes of its packet
abbrev pub line_words : List ℕ → List ℕ → Line → List (List ℕ)
line_words name packet line.Blank = []
line_words name packet (line.Tc command) = command_words name command
line_words name packet (line.Show s) = (codes "tc" ∷ []) ++ (counters_words s.counters ++ (object_word s.object ∷ codes "show" ∷ []))
line_words name packet (line.At moment) = codes "at" ∷ decimal moment ∷ []
line_words name packet (line.Pkt a) = arrival_words a
line_words name packet (line.Frame len head) = codes "frame" ∷ decimal len ∷ packet_word packet ∷ []
line_words name packet (line.Poll polls) = codes "poll" ∷ decimal polls ∷ []
line_words name packet line.Reap = codes "reap" ∷ []
line_words name packet line.Totals = codes "totals" ∷ []

-- with a space between each two
abbrev pub spelling : List ℕ → List ℕ → Line → List ℕ
spelling name packet line = join_with_byte 32 (line_words name packet line)

-- The position of a word in a line, with what the words to its left have said, and which words can be there.
-- The profile of tc's lines is this project's, after tc(8) and the pages of the disciplines.
use Rattle.std.specs.Prelude.{ℕ, Bool, true, false, ◌++◌, List, [], ◌∷◌, codes, if◌then◌else◌, Option, Some, None, Result, Ok, Err, is_some}
use Rattle.q_model.specs.declared.place.Place.TheVariants as place
use Rattle.q_line.specs.declared.line.Line.{Line}
use Rattle.q_line.specs.declared.line.Line.TheVariants as line
use Rattle.q_line.specs.declared.show.Show.{Show}
use Rattle.q_line.specs.declared.object.Object.TheVariants as object
use Rattle.q_words.specs.declared.wrong.Wrong.{Wrong}
use Rattle.q_words.specs.declared.wrong.Wrong.TheVariants as wrong
use Rattle.q_line.specs.declared.class_verb.ClassVerb.{ClassVerb}
use Rattle.q_line.specs.declared.class_verb.ClassVerb.TheVariants as class_verb
use Rattle.q_line.specs.declared.filter_verb.FilterVerb.{FilterVerb}
use Rattle.q_line.specs.declared.filter_verb.FilterVerb.TheVariants as filter_verb
use Rattle.q_line.specs.declared.head_draft.HeadDraft.{HeadDraft}
use Rattle.q_line.specs.declared.key_draft.KeyDraft.{KeyDraft}
use Rattle.q_line.specs.declared.key_name.KeyName.{KeyName}
use Rattle.q_line.specs.declared.key_name.KeyName.TheVariants as key
use Rattle.q_line.specs.declared.kind_name.KindName.{KindName}
use Rattle.q_line.specs.declared.kind_name.KindName.TheVariants as kind_name
use Rattle.q_line.specs.declared.packet_draft.PacketDraft.{PacketDraft}
use Rattle.q_line.specs.declared.packet_field.PacketField.{PacketField}
use Rattle.q_line.specs.declared.packet_field.PacketField.TheVariants as field
use Rattle.q_line.specs.declared.qdisc_verb.QdiscVerb.{QdiscVerb}
use Rattle.q_line.specs.declared.qdisc_verb.QdiscVerb.TheVariants as qdisc_verb
use Rattle.q_line.specs.Drafts.{Verb, of_qdisc, of_class, of_filter, no_head, OptionDraft, no_options, no_keys}

-- the values that a head and a kind can have
pub data HeadValue : Type 0 where
  dev in_class handle parent class_id filter_prio protocol : HeadValue

pub data OptionValue : Type 0 where
  limit latency bands rate burst flows quantum target interval drop_batch : OptionValue

-- An object is what a tc line is about. Behind `value` a word is read as that value.
pub data Position : Type 0 where
  first at pkt frame poll : Position
  frame_bytes : ℕ → Position
  packet : PacketDraft → Position
  packet_value : PacketField → PacketDraft → Position
  tc : Bool → Position
  qdisc class filter : Bool → Position
  head : Verb → HeadDraft → Position
  head_value : HeadValue → Verb → HeadDraft → Position
  options : QdiscVerb → HeadDraft → KindName → OptionDraft → Position
  option_value : OptionValue → QdiscVerb → HeadDraft → KindName → OptionDraft → Position
  priomap : QdiscVerb → HeadDraft → KindName → OptionDraft → Position
  quantum_of : ClassVerb → HeadDraft → Option ℕ → Position
  quantum_value : ClassVerb → HeadDraft → Position
  keys : HeadDraft → KeyDraft → Position
  key_value : KeyName → HeadDraft → KeyDraft → Position
  done : Verb → HeadDraft → Position
  show_line : Show → Bool → Position
  show_dev : Show → Position
  whole : Line → Position

abbrev pub Row : Type 0
Row = List ℕ × Result Position Wrong

-- an option, which may be given once
abbrev pub once : Bool → Position → Result Position Wrong
once given next = if given then Err wrong.Twice else Ok next

-- the words of each head: `root` and `parent` are one, and so are `prio` and `pref`
abbrev pub dev_row : Verb → HeadDraft → List Row
dev_row v h = (codes "dev", once h.named (head_value dev v h)) ∷ []

abbrev pub place_rows : Verb → HeadDraft → List Row
place_rows v h =
    (codes "root", once (is_some h.place) (head v (record h { place = Some place.Root })))
    ∷ (codes "parent", once (is_some h.place) (head_value in_class v h))
    ∷ (codes "handle", once (is_some h.handle) (head_value handle v h)) ∷ []

abbrev pub class_rows : Verb → HeadDraft → List Row
class_rows v h = (codes "parent", once (is_some h.parent) (head_value parent v h)) ∷ (codes "classid", once (is_some h.class) (head_value class_id v h)) ∷ []

abbrev pub filter_rows : Verb → HeadDraft → List Row
filter_rows v h =
    (codes "parent", once (is_some h.parent) (head_value parent v h))
    ∷ (codes "prio", once (is_some h.prio) (head_value filter_prio v h))
    ∷ (codes "pref", once (is_some h.prio) (head_value filter_prio v h))
    ∷ (codes "protocol", once (is_some h.protocol) (head_value protocol v h)) ∷ []

-- the word that ends a head
abbrev pub kind_rows : (KindName → Position) → List Row
kind_rows f =
    (codes "pfifo", Ok (f kind_name.Pfifo)) ∷ (codes "bfifo", Ok (f kind_name.Bfifo)) ∷ (codes "prio", Ok (f kind_name.Prio)) ∷ (codes "tbf", Ok (f kind_name.Tbf))
    ∷ (codes "drr", Ok (f kind_name.Drr)) ∷ (codes "fq_codel", Ok (f kind_name.FqCodel)) ∷ []

-- behind a kind: its options, or nothing where the line removes a qdisc
abbrev pub behind_kind : QdiscVerb → HeadDraft → KindName → Position
behind_kind qdisc_verb.Add h k = options qdisc_verb.Add h k no_options
behind_kind qdisc_verb.Change h k = options qdisc_verb.Change h k no_options
behind_kind qdisc_verb.Del h k = done (of_qdisc qdisc_verb.Del) h

-- behind the kind of a class, which a line that removes one does not name
abbrev pub behind_drr : ClassVerb → HeadDraft → Result Position Wrong
behind_drr class_verb.Add h = Ok (quantum_of class_verb.Add h None)
behind_drr class_verb.Change h = Ok (quantum_of class_verb.Change h None)
behind_drr class_verb.Del h = Err wrong.UnknownWord

-- behind `flower`: its keys, or nothing where the line removes filters
abbrev pub behind_flower : FilterVerb → HeadDraft → Position
behind_flower filter_verb.Add h = keys h no_keys
behind_flower filter_verb.Del h = done (of_filter filter_verb.Del) h

abbrev pub head_rows : Verb → HeadDraft → List Row
head_rows (of_qdisc v) h = place_rows (of_qdisc v) h ++ kind_rows (λ k. behind_kind v h k)
head_rows (of_class v) h = class_rows (of_class v) h ++ (codes "drr", behind_drr v h) ∷ []
head_rows (of_filter v) h = filter_rows (of_filter v) h ++ (codes "flower", Ok (behind_flower v h)) ∷ []

-- the options of each kind; limit and latency are one, and so are the three names of the burst, and ecn and noecn
abbrev pub option_rows : QdiscVerb → HeadDraft → KindName → OptionDraft → List Row
option_rows v h kind_name.Pfifo o = (codes "limit", once (is_some o.limit) (option_value limit v h kind_name.Pfifo o)) ∷ []
option_rows v h kind_name.Bfifo o = (codes "limit", once (is_some o.limit) (option_value limit v h kind_name.Bfifo o)) ∷ []
option_rows v h kind_name.Prio o =
    (codes "bands", once (is_some o.bands) (option_value bands v h kind_name.Prio o))
    ∷ (codes "priomap", once (is_some o.priomap) (priomap v h kind_name.Prio o)) ∷ []
option_rows v h kind_name.Tbf o =
    (codes "rate", once (is_some o.rate) (option_value rate v h kind_name.Tbf o))
    ∷ (codes "burst", once (is_some o.burst) (option_value burst v h kind_name.Tbf o))
    ∷ (codes "buffer", once (is_some o.burst) (option_value burst v h kind_name.Tbf o))
    ∷ (codes "maxburst", once (is_some o.burst) (option_value burst v h kind_name.Tbf o))
    ∷ (codes "limit", once (is_some o.tbf_limit) (option_value limit v h kind_name.Tbf o))
    ∷ (codes "latency", once (is_some o.tbf_limit) (option_value latency v h kind_name.Tbf o)) ∷ []
option_rows v h kind_name.Drr o = []
option_rows v h kind_name.FqCodel o =
    (codes "limit", once (is_some o.fq_codel.limit) (option_value limit v h kind_name.FqCodel o))
    ∷ (codes "flows", once (is_some o.fq_codel.flows) (option_value flows v h kind_name.FqCodel o))
    ∷ (codes "quantum", once (is_some o.fq_codel.quantum) (option_value quantum v h kind_name.FqCodel o))
    ∷ (codes "target", once (is_some o.fq_codel.target) (option_value target v h kind_name.FqCodel o))
    ∷ (codes "interval", once (is_some o.fq_codel.interval) (option_value interval v h kind_name.FqCodel o))
    ∷ (codes "drop_batch", once (is_some o.fq_codel.drop_batch) (option_value drop_batch v h kind_name.FqCodel o))
    ∷ (codes "ecn", once (is_some o.fq_codel.ecn) (options v h kind_name.FqCodel (record o { fq_codel = record o.fq_codel { ecn = Some true } })))
    ∷ (codes "noecn", once (is_some o.fq_codel.ecn) (options v h kind_name.FqCodel (record o { fq_codel = record o.fq_codel { ecn = Some false } }))) ∷ []

abbrev pub key_rows : HeadDraft → KeyDraft → List Row
key_rows h k =
    (codes "ip_proto", once (is_some k.keys.ip_proto) (key_value key.IpProto h k))
    ∷ (codes "src_ip", once (is_some k.keys.src_ip) (key_value key.SrcIp h k))
    ∷ (codes "dst_ip", once (is_some k.keys.dst_ip) (key_value key.DstIp h k))
    ∷ (codes "src_port", once (is_some k.keys.src_port) (key_value key.SrcPort h k))
    ∷ (codes "dst_port", once (is_some k.keys.dst_port) (key_value key.DstPort h k))
    ∷ (codes "classid", once (is_some k.class) (key_value key.Class h k))
    ∷ (codes "flowid", once (is_some k.class) (key_value key.Class h k)) ∷ []

abbrev pub packet_rows : PacketDraft → List Row
packet_rows p =
    (codes "hash", once (is_some p.hash) (packet_value field.Hash p))
    ∷ (codes "prio", once (is_some p.prio) (packet_value field.Prio p))
    ∷ (codes "ip_proto", once (is_some p.ip_proto) (packet_value field.IpProto p))
    ∷ (codes "src_ip", once (is_some p.src_ip) (packet_value field.SrcIp p))
    ∷ (codes "dst_ip", once (is_some p.dst_ip) (packet_value field.DstIp p))
    ∷ (codes "src_port", once (is_some p.src_port) (packet_value field.SrcPort p))
    ∷ (codes "dst_port", once (is_some p.dst_port) (packet_value field.DstPort p))
    ∷ (codes "ecn", once (is_some p.ecn) (packet_value field.Ecn p)) ∷ []

abbrev pub show_rows : Show → List Row
show_rows s = (codes "show", Ok (show_line s false)) ∷ (codes "list", Ok (show_line s false)) ∷ (codes "ls", Ok (show_line s false)) ∷ []

abbrev pub verb_rows : Verb → Verb → Verb → List Row
verb_rows add change del =
    (codes "add", Ok (head add no_head)) ∷ (codes "change", Ok (head change no_head))
    ∷ (codes "del", Ok (head del no_head)) ∷ (codes "delete", Ok (head del no_head)) ∷ []

abbrev pub object_rows : Bool → List Row
object_rows counters = (codes "qdisc", Ok (qdisc counters)) ∷ (codes "class", Ok (class counters)) ∷ (codes "filter", Ok (filter counters)) ∷ []

-- the words that can be at a position, and the position after each
abbrev pub table : Position → List Row
table first =
    (codes "at", Ok at) ∷ (codes "pkt", Ok pkt) ∷ (codes "frame", Ok frame) ∷ (codes "poll", Ok poll)
    ∷ (codes "reap", Ok (whole line.Reap)) ∷ (codes "totals", Ok (whole line.Totals)) ∷ (codes "tc", Ok (tc false)) ∷ []
table (tc false) = (codes "-s", Ok (tc true)) ∷ object_rows false
table (tc true) = object_rows true
table (qdisc counters) = verb_rows (of_qdisc qdisc_verb.Add) (of_qdisc qdisc_verb.Change) (of_qdisc qdisc_verb.Del) ++ show_rows (record { object = object.Qdisc; counters = counters })
table (class counters) = verb_rows (of_class class_verb.Add) (of_class class_verb.Change) (of_class class_verb.Del) ++ show_rows (record { object = object.Class; counters = counters })
table (filter counters) =
    (codes "add", Ok (head (of_filter filter_verb.Add) no_head)) ∷ (codes "del", Ok (head (of_filter filter_verb.Del) no_head)) ∷ (codes "delete", Ok (head (of_filter filter_verb.Del) no_head)) ∷ show_rows (record { object = object.Filter; counters = counters })
table (head v h) = dev_row v h ++ head_rows v h
table (options v h k o) = option_rows v h k o
table (quantum_of v h given) = (codes "quantum", once (is_some given) (quantum_value v h)) ∷ []
table (keys h k) = key_rows h k
table (packet p) = packet_rows p
table (show_line s named) = (codes "dev", once named (show_dev s)) ∷ []
table _ = []

-- The lines of a script: what each word is read as in the place of a value, and what the whole line says.
-- The profile of tc's lines is this project's, after tc(8) and the pages of the disciplines.
use Rattle.std.specs.Prelude.{ℕ, suc, ◌^◌, ◌-◌, Bool, true, ◌==◌, List, [], ◌∷◌, ◌++◌, length, if◌then◌else◌, Option, Some, None, Result, Ok, Err, option_and_then, option_map, unwrap_or}
use Rattle.std.specs.Option.{option_map_or, option_or}
use Rattle.std.specs.Str.{bytes_eq, is_utf8}
use Rattle.q_packet.specs.Ecn.{ecn_of}
use Rattle.q_packet.specs.Head.{head as head_in}
use Rattle.q_packet.specs.Key.{Key}
use Rattle.q_packet.specs.declared.ecn.Ecn.TheVariants.{NotEct}
use Rattle.q_fqcodel.specs.Ranges as ranges
use Rattle.q_model.specs.declared.ip_version.IpVersion.{IpVersion}
use Rattle.q_model.specs.declared.ip_version.IpVersion.TheVariants.{V4, V6}
use Rattle.q_model.specs.declared.place.Place.TheVariants as place
use Rattle.q_model.specs.declared.protocol.Protocol.{Protocol}
use Rattle.q_model.specs.declared.protocol.Protocol.TheVariants.{All, Ip, Ipv6}
use Rattle.q_model.specs.declared.tbf_limit.TbfLimit.TheVariants as tbf_limit
use Rattle.q_model.specs.Filters.{family_of}
use Rattle.q_model.specs.Options.{Prefix}
use Rattle.q_words.specs.Words.{words_in, is_blank_line}
use Rattle.q_words.specs.Values.{is_numeral, number_in, handle_of, name_of}
use Rattle.q_words.specs.Units.{rate_in, size_in, time_in}
use Rattle.q_words.specs.Addresses.{Address, class_of, address_of, prefix_of, protocol_number, protocol_of, frame_of}
use Rattle.q_line.specs.Drafts.{Verb, of_qdisc, of_class, of_filter, OptionDraft, no_fields, band_number, bad_band, kind_of, qdisc_line, qdisc_del_line, class_line, filter_line, filter_del_line}
use Rattle.q_line.specs.declared.class_verb.ClassVerb.TheVariants as class_verb
use Rattle.q_line.specs.declared.filter_verb.FilterVerb.TheVariants as filter_verb
use Rattle.q_line.specs.declared.head_draft.HeadDraft.{HeadDraft}
use Rattle.q_line.specs.declared.key_draft.KeyDraft.{KeyDraft}
use Rattle.q_line.specs.declared.key_name.KeyName.{KeyName}
use Rattle.q_line.specs.declared.key_name.KeyName.TheVariants as key
use Rattle.q_line.specs.declared.kind_name.KindName.{KindName}
use Rattle.q_line.specs.declared.kind_name.KindName.TheVariants as kind_name
use Rattle.q_line.specs.declared.packet_draft.PacketDraft.{PacketDraft}
use Rattle.q_line.specs.declared.packet_field.PacketField.{PacketField}
use Rattle.q_line.specs.declared.packet_field.PacketField.TheVariants as field
use Rattle.q_line.specs.declared.qdisc_verb.QdiscVerb.{QdiscVerb}
use Rattle.q_line.specs.declared.qdisc_verb.QdiscVerb.TheVariants as qdisc_verb
use Rattle.q_line.specs.Positions
use Rattle.q_line.specs.Positions.{HeadValue, OptionValue, Position, Row, table}
use Rattle.q_line.specs.declared.line.Line.{Line}
use Rattle.q_line.specs.declared.line.Line.TheVariants as line
use Rattle.q_words.specs.declared.line_fault.LineFault.{LineFault}
use Rattle.q_words.specs.declared.line_fault.LineFault.TheVariants as fault
use Rattle.q_words.specs.declared.wrong.Wrong.{Wrong}
use Rattle.q_words.specs.declared.wrong.Wrong.TheVariants as wrong

-- a value, and what it makes: the position after it, or what the words so far have said
abbrev pub value : {A B : Type 0} → Result A Wrong → (A → B) → Result B Wrong
value (Ok a) next = Ok (next a)
value (Err e) next = Err e

-- the largest size, limit or quantum, and the longest time
abbrev pub most : ℕ
most = 2 ^ 32 - 1

abbrev pub longest : ℕ
longest = 10 ^ 12

abbrev pub head_fits : HeadValue → Verb → HeadDraft → List ℕ → Result Position Wrong
head_fits Positions.dev v h word = value (name_of word) (λ u. Positions.head v (record h { named = true }))
head_fits Positions.in_class v h word = value (class_of word) (λ c. Positions.head v (record h { place = Some (place.Class c) }))
head_fits Positions.handle v h word = value (handle_of word) (λ n. Positions.head v (record h { handle = Some n }))
head_fits Positions.parent v h word = value (handle_of word) (λ n. Positions.head v (record h { parent = Some n }))
head_fits Positions.class_id v h word = value (class_of word) (λ c. Positions.head v (record h { class = Some c }))
head_fits Positions.filter_prio v h word = value (number_in 1 65535 word) (λ n. Positions.head v (record h { prio = Some n }))
head_fits Positions.protocol v h word = value (protocol_of word) (λ p. Positions.head v (record h { protocol = Some p }))

-- the limit of each kind: packets of a pfifo and an fq_codel, bytes of a bfifo and a tbf
abbrev pub limit_fits : KindName → OptionDraft → List ℕ → Result OptionDraft Wrong
limit_fits kind_name.Pfifo o word = elim (number_in 0 most word) [ Ok n ↦ Ok (record o { limit = Some n }) | Err e ↦ Err e ]
limit_fits kind_name.Bfifo o word = elim (size_in 0 most word) [ Ok n ↦ Ok (record o { limit = Some n }) | Err e ↦ Err e ]
limit_fits kind_name.Tbf o word = elim (size_in 0 most word) [ Ok n ↦ Ok (record o { tbf_limit = Some (tbf_limit.Bytes n) }) | Err e ↦ Err e ]
limit_fits kind_name.FqCodel o word = elim (number_in 1 ranges.most word) [ Ok n ↦ Ok (record o { fq_codel = record o.fq_codel { limit = Some n } }) | Err e ↦ Err e ]
limit_fits other o word = Err wrong.UnknownWord

abbrev pub option_fits : OptionValue → QdiscVerb → HeadDraft → KindName → OptionDraft → List ℕ → Result Position Wrong
option_fits Positions.limit v h k o word = value (limit_fits k o word) (λ d. Positions.options v h k d)
option_fits Positions.latency v h k o word = value (time_in 0 longest word) (λ n. Positions.options v h k (record o { tbf_limit = Some (tbf_limit.Latency n) }))
option_fits Positions.bands v h k o word = value (number_in 2 16 word) (λ n. Positions.options v h k (record o { bands = Some n }))
option_fits Positions.rate v h k o word = value (rate_in word) (λ n. Positions.options v h k (record o { rate = Some n }))
option_fits Positions.burst v h k o word = value (size_in 1 most word) (λ n. Positions.options v h k (record o { burst = Some n }))
option_fits Positions.flows v h k o word = value (number_in 1 ranges.most_flows word) (λ n. Positions.options v h k (record o { fq_codel = record o.fq_codel { flows = Some n } }))
option_fits Positions.quantum v h k o word = value (size_in 1 ranges.most word) (λ n. Positions.options v h k (record o { fq_codel = record o.fq_codel { quantum = Some n } }))
option_fits Positions.target v h k o word = value (time_in 0 ranges.longest word) (λ n. Positions.options v h k (record o { fq_codel = record o.fq_codel { target = Some n } }))
option_fits Positions.interval v h k o word =
    value (time_in ranges.shortest_interval ranges.longest word)
    (λ n. Positions.options v h k (record o { fq_codel = record o.fq_codel { interval = Some n } }))
option_fits Positions.drop_batch v h k o word = value (number_in 1 ranges.most_batch word) (λ n. Positions.options v h k (record o { fq_codel = record o.fq_codel { drop_batch = Some n } }))

-- 16 numbers; whether each names a band is checked when the line ends
abbrev pub priomap_fits : ℕ → QdiscVerb → HeadDraft → KindName → OptionDraft → List ℕ → Result Position Wrong
priomap_fits index v h k o word =
    let so_far = unwrap_or o.priomap (record { from = index; numbers = [] }) in
    let more = record so_far { numbers = so_far.numbers ++ band_number word ∷ [] } in
    if is_numeral 10 word
    then Ok (if length more.numbers == 16 then Positions.options v h k (record o { priomap = Some more }) else Positions.priomap v h k (record o { priomap = Some more }))
    else Err wrong.BadNumber

-- an address has to be of the version that is wanted, if one is
abbrev pub same_version : IpVersion → IpVersion → Bool
same_version a b = family_of a == family_of b

abbrev pub of_version : {A : Type 0} → Option IpVersion → (A → IpVersion) → Result A Wrong → Result A Wrong
of_version wanted version (Ok a) = if option_map_or (same_version (version a)) wanted true then Ok a else Err wrong.OutOfRange
of_version wanted version (Err e) = Err e

abbrev pub version_of : Option Protocol → Option IpVersion
version_of None = None
version_of (Some All) = None
version_of (Some Ip) = Some V4
version_of (Some Ipv6) = Some V6

abbrev pub key_version : HeadDraft → KeyDraft → Option IpVersion
key_version h k = option_or (version_of h.protocol) (option_map (λ (p : Prefix). p.version) (option_or k.keys.src_ip k.keys.dst_ip))

abbrev pub key_prefix : HeadDraft → KeyDraft → List ℕ → Result Prefix Wrong
key_prefix h k word = of_version (key_version h k) (λ p. p.version) (prefix_of word)

-- a filter with one key more, or with its class
abbrev pub key_with : KeyName → HeadDraft → KeyDraft → List ℕ → Result KeyDraft Wrong
key_with key.IpProto h k word = value (protocol_number word) (λ n. record k { keys = record k.keys { ip_proto = Some n } })
key_with key.SrcIp h k word = value (key_prefix h k word) (λ p. record k { keys = record k.keys { src_ip = Some p } })
key_with key.DstIp h k word = value (key_prefix h k word) (λ p. record k { keys = record k.keys { dst_ip = Some p } })
key_with key.SrcPort h k word = value (number_in 0 65535 word) (λ n. record k { keys = record k.keys { src_port = Some n } })
key_with key.DstPort h k word = value (number_in 0 65535 word) (λ n. record k { keys = record k.keys { dst_port = Some n } })
key_with key.Class h k word = value (class_of word) (λ c. record k { class = Some c })

abbrev pub packet_version : PacketDraft → Option IpVersion
packet_version p = option_map (λ (a : Address). a.version) (option_or p.src_ip p.dst_ip)

abbrev pub packet_address : PacketDraft → List ℕ → Result Address Wrong
packet_address p word = of_version (packet_version p) (λ a. a.version) (address_of word)

-- a packet with one field more
abbrev pub packet_with : PacketField → PacketDraft → List ℕ → Result PacketDraft Wrong
packet_with field.Hash p word = value (number_in 0 most word) (λ n. record p { hash = Some n })
packet_with field.Prio p word = value (number_in 0 15 word) (λ n. record p { prio = Some n })
packet_with field.IpProto p word = value (protocol_number word) (λ n. record p { ip_proto = Some n })
packet_with field.SrcIp p word = value (packet_address p word) (λ a. record p { src_ip = Some a })
packet_with field.DstIp p word = value (packet_address p word) (λ a. record p { dst_ip = Some a })
packet_with field.SrcPort p word = value (number_in 0 65535 word) (λ n. record p { src_port = Some n })
packet_with field.DstPort p word = value (number_in 0 65535 word) (λ n. record p { dst_port = Some n })
packet_with field.Ecn p word = value (number_in 0 3 word) (λ n. record p { ecn = Some (ecn_of n) })

-- the arrival that a `pkt` line says: what is not given is 0, and the family is that of an address
abbrev pub key_of : PacketDraft → Key
key_of p = record {
  family = option_map_or family_of (packet_version p) 0;
  proto = unwrap_or p.ip_proto 0;
  src = option_map_or (λ (a : Address). a.address) p.src_ip 0;
  dst = option_map_or (λ (a : Address). a.address) p.dst_ip 0;
  sport = unwrap_or p.src_port 0;
  dport = unwrap_or p.dst_port 0;
}

abbrev pub arrival : PacketDraft → Line
arrival p = line.Pkt (record { len = p.len; key = key_of p; prio = unwrap_or p.prio 0; ecn = unwrap_or p.ecn NotEct; hash = p.hash })

-- and the one of a `frame` line: its head is read from its bytes
abbrev pub framed : ℕ → List ℕ → Line
framed len bytes = line.Frame len (head_in bytes)

-- the row of a table that has the word
abbrev pub row_of : List Row → List ℕ → Result Position Wrong
row_of [] word = Err wrong.UnknownWord
row_of (row ∷ rows) word = if bytes_eq word row.0 then row.1 else row_of rows word

-- the position after a word, which has this index: a value where one is due, else a word of the table
abbrev pub fits : ℕ → Position → List ℕ → Result Position Wrong
fits index Positions.at word = value (number_in 0 (2 ^ 62) word) (λ n. Positions.whole (line.At n))
fits index Positions.pkt word = value (number_in 1 65535 word) (λ n. Positions.packet (no_fields n))
fits index Positions.frame word = value (number_in 1 65535 word) (λ n. Positions.frame_bytes n)
fits index (Positions.frame_bytes len) word = value (frame_of word) (λ bytes. Positions.whole (framed len bytes))
fits index Positions.poll word = value (number_in 1 100000 word) (λ n. Positions.whole (line.Poll n))
fits index (Positions.packet_value f p) word = value (packet_with f p word) Positions.packet
fits index (Positions.head_value v verb h) word = head_fits v verb h word
fits index (Positions.option_value v verb h k o) word = option_fits v verb h k o word
fits index (Positions.priomap v h k o) word = priomap_fits index v h k o word
fits index (Positions.quantum_value v h) word = value (size_in 1 most word) (λ n. Positions.quantum_of v h (Some n))
fits index (Positions.key_value f h k) word = value (key_with f h k word) (λ d. Positions.keys h d)
fits index (Positions.show_dev s) word = value (name_of word) (λ u. Positions.show_line s true)
fits index position word = row_of (table position) word

-- a line that only removes
abbrev pub removal : Verb → HeadDraft → Option Line
removal (of_qdisc qdisc_verb.Del) h = option_map line.Tc (qdisc_del_line h)
removal (of_class class_verb.Del) h = option_map line.Tc (class_line class_verb.Del h None)
removal (of_filter filter_verb.Del) h = option_map line.Tc (filter_del_line h)
removal other h = None

-- what a line says that ends here; None where it needs another word
abbrev pub ends : Position → Option Line
ends Positions.poll = Some (line.Poll 1)
ends (Positions.packet p) = Some (arrival p)
ends (Positions.head v h) = removal v h
ends (Positions.done v h) = removal v h
ends (Positions.options v h k o) = option_map line.Tc (option_and_then (qdisc_line v h) (kind_of k o))
ends (Positions.quantum_of v h quantum) = option_map line.Tc (class_line v h quantum)
ends (Positions.keys h k) = option_map line.Tc (filter_line h k)
ends (Positions.show_line s named) = Some (line.Show s)
ends (Positions.whole l) = Some l
ends _ = None

-- the first number of a priomap that names no band: checked before a missing word
abbrev pub late_fault : Position → Option ℕ
late_fault (Positions.options v h kind_name.Prio o) = bad_band o
late_fault (Positions.option_value x v h kind_name.Prio o) = bad_band o
late_fault (Positions.priomap v h k o) = bad_band o
late_fault _ = None

-- a line that was read to its end, or the fault that a word is missing
abbrev pub said : Option Line → ℕ → Result Line LineFault
said (Some l) index = Ok l
said None index = Err (fault.Missing index)

abbrev pub ended : Position → ℕ → Result Line LineFault
ended position index = elim (late_fault position) [ Some word ↦ Err (fault.OutOfRange word) | None ↦ said (ends position) index ]

abbrev pub numbered : Wrong → ℕ → LineFault
numbered wrong.UnknownWord index = fault.UnknownWord index
numbered wrong.BadNumber index = fault.BadNumber index
numbered wrong.OutOfRange index = fault.OutOfRange index
numbered wrong.Twice index = fault.Twice index
numbered wrong.BadUtf8 index = fault.BadUtf8 index

-- the position after a word
abbrev pub after : ℕ → Position → List ℕ → Result Position Wrong
after index position word = if is_utf8 word then fits index position word else Err wrong.BadUtf8

-- what the words from this position on say, the first of which has this index: from the left, up to the first that does not fit
abbrev pub rest_of : Position → ℕ → List (List ℕ) → Result Line LineFault
rest_of position index [] = ended position index
rest_of position index (word ∷ words) = elim (after index position word) [ Ok next ↦ rest_of next (suc index) words | Err e ↦ Err (numbered e index) ]

-- what a line's words say, counted from 1
abbrev pub line_of_words : List (List ℕ) → Result Line LineFault
line_of_words words = if is_blank_line words then Ok line.Blank else rest_of Positions.first 1 words

-- what a line's bytes say, or its leftmost fault
abbrev pub line_of : List ℕ → Result Line LineFault
line_of bytes = line_of_words (words_in bytes)

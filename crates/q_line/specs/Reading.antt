-- What is read of a word, with the word's index where something is wrong with it.
use Rattle.std.specs.Prelude.{◌≡◌, ℕ, Bool, IfSome, List, if◌then◌else◌, Option, Some, is_some, Result, Ok, Err}
use Rattle.q_words.specs.declared.line_fault.LineFault.{LineFault}
use Rattle.q_words.specs.declared.wrong.Wrong.{Wrong}
use Rattle.q_words.specs.declared.wrong.Wrong.TheVariants.{BadNumber}
use Rattle.q_words.specs.Values.{is_numeral}
use Rattle.q_model.specs.Options.{FqOptions}
use Rattle.q_line.specs.Positions
use Rattle.q_line.specs.Drafts.{Bands, OptionDraft, band_number, no_options}
use Rattle.q_line.specs.Grammar.{numbered}
use Rattle.q_line.specs.Positions.{HeadValue, Position, OptionValue, limit, flows, quantum, target, interval, drop_batch, once, packet_value, key_value, option_value, options}
use Rattle.q_line.specs.declared.fq_codel_option.FqCodelOption.{FqCodelOption}
use Rattle.q_line.specs.declared.fq_codel_option.FqCodelOption.TheVariants as option
use Rattle.q_line.specs.declared.fq_codel_word.FqCodelWord.{FqCodelWord}
use Rattle.q_line.specs.declared.fq_codel_word.FqCodelWord.TheVariants as word
use Rattle.q_line.specs.declared.head_draft.HeadDraft.{HeadDraft}
use Rattle.q_line.specs.declared.head_option.HeadOption.{HeadOption}
use Rattle.q_line.specs.declared.head_option.HeadOption.TheVariants as head_option
use Rattle.q_line.specs.declared.key_draft.KeyDraft.{KeyDraft}
use Rattle.q_line.specs.declared.key_name.KeyName.{KeyName}
use Rattle.q_line.specs.declared.key_name.KeyName.TheVariants as key
use Rattle.q_line.specs.declared.kind_name.KindName.TheVariants.{FqCodel}
use Rattle.q_line.specs.declared.qdisc_verb.QdiscVerb.{QdiscVerb}
use Rattle.q_line.specs.declared.tbf_draft.TbfDraft.{TbfDraft}
use Rattle.q_line.specs.declared.tbf_option.TbfOption.{TbfOption}
use Rattle.q_line.specs.declared.tbf_option.TbfOption.TheVariants as tbf_option
use Rattle.q_line.specs.declared.packet_draft.PacketDraft.{PacketDraft}
use Rattle.q_line.specs.declared.packet_field.PacketField.{PacketField}
use Rattle.q_line.specs.declared.packet_field.PacketField.TheVariants as field
use Rattle.q_words.specs.Addresses.{Address}

abbrev pub placed : {A : Type 0} → Result A Wrong → ℕ → Result A LineFault
placed (Ok a) index = Ok a
placed (Err e) index = Err (numbered e index)

-- the options of a prio so far
abbrev pub prio_draft : Option ℕ → Option Bands → OptionDraft
prio_draft bands map = record no_options { bands = bands; priomap = map }

-- a word as a number of a priomap
abbrev pub band_of : List ℕ → Result ℕ Wrong
band_of word = if is_numeral 10 word then Ok (band_number word) else Err BadNumber

-- the two addresses of a packet are of one version
abbrev pub IsAgreed : PacketDraft → Type 0
IsAgreed p = IfSome p.src_ip (λ (a : Address). IfSome p.dst_ip (λ (b : Address). a.version ≡ b.version))

-- what has been given of a head, and the value of a part of it
abbrev pub head_has : HeadOption → HeadDraft → Bool
head_has head_option.Dev h = h.named
head_has head_option.InClass h = is_some h.place
head_has head_option.Handle h = is_some h.handle
head_has head_option.Parent h = is_some h.parent
head_has head_option.ClassId h = is_some h.class
head_has head_option.Prio h = is_some h.prio
head_has head_option.Protocol h = is_some h.protocol

abbrev pub head_value_of : HeadOption → HeadValue
head_value_of head_option.Dev = Positions.dev
head_value_of head_option.InClass = Positions.in_class
head_value_of head_option.Handle = Positions.handle
head_value_of head_option.Parent = Positions.parent
head_value_of head_option.ClassId = Positions.class_id
head_value_of head_option.Prio = Positions.filter_prio
head_value_of head_option.Protocol = Positions.protocol

-- what has been given of a packet
abbrev pub packet_has : PacketField → PacketDraft → Bool
packet_has field.Hash p = is_some p.hash
packet_has field.Prio p = is_some p.prio
packet_has field.IpProto p = is_some p.ip_proto
packet_has field.SrcIp p = is_some p.src_ip
packet_has field.DstIp p = is_some p.dst_ip
packet_has field.SrcPort p = is_some p.src_port
packet_has field.DstPort p = is_some p.dst_port
packet_has field.Ecn p = is_some p.ecn

-- where the word names a field, its value follows it, once
abbrev pub field_row : PacketDraft → Result PacketField Wrong → Result Position Wrong
field_row p (Ok f) = once (packet_has f p) (packet_value f p)
field_row p (Err e) = Err e

-- what has been given of a filter
abbrev pub key_has : KeyName → KeyDraft → Bool
key_has key.IpProto k = is_some k.keys.ip_proto
key_has key.SrcIp k = is_some k.keys.src_ip
key_has key.DstIp k = is_some k.keys.dst_ip
key_has key.SrcPort k = is_some k.keys.src_port
key_has key.DstPort k = is_some k.keys.dst_port
key_has key.Class k = is_some k.class

abbrev pub key_row : HeadDraft → KeyDraft → Result KeyName Wrong → Result Position Wrong
key_row h k (Ok f) = once (key_has f k) (key_value f h k)
key_row h k (Err e) = Err e

-- the options of an fq_codel so far, and what has been given of them
abbrev pub fq_draft : FqOptions → OptionDraft
fq_draft o = record no_options { fq_codel = o }

abbrev pub fq_has : FqCodelOption → FqOptions → Bool
fq_has option.Limit o = is_some o.limit
fq_has option.Flows o = is_some o.flows
fq_has option.Quantum o = is_some o.quantum
fq_has option.Target o = is_some o.target
fq_has option.Interval o = is_some o.interval
fq_has option.DropBatch o = is_some o.drop_batch

abbrev pub option_value_of : FqCodelOption → OptionValue
option_value_of option.Limit = limit
option_value_of option.Flows = flows
option_value_of option.Quantum = quantum
option_value_of option.Target = target
option_value_of option.Interval = interval
option_value_of option.DropBatch = drop_batch

abbrev pub fq_row : QdiscVerb → HeadDraft → FqOptions → Result FqCodelWord Wrong → Result Position Wrong
fq_row v h o (Ok (word.Option f)) = once (fq_has f o) (option_value (option_value_of f) v h FqCodel (fq_draft o))
fq_row v h o (Ok (word.Ecn b)) = once (is_some o.ecn) (options v h FqCodel (fq_draft (record o { ecn = Some b })))
fq_row v h o (Err e) = Err e

-- the options of a tbf so far, and what has been given of them; the limit and the latency are one
abbrev pub tbf_draft : TbfDraft → OptionDraft
tbf_draft t = record no_options { rate = t.rate; burst = t.burst; tbf_limit = t.limit }

abbrev pub tbf_has : TbfOption → TbfDraft → Bool
tbf_has tbf_option.Rate t = is_some t.rate
tbf_has tbf_option.Burst t = is_some t.burst
tbf_has tbf_option.Limit t = is_some t.limit
tbf_has tbf_option.Latency t = is_some t.limit

abbrev pub tbf_value_of : TbfOption → OptionValue
tbf_value_of tbf_option.Rate = Positions.rate
tbf_value_of tbf_option.Burst = Positions.burst
tbf_value_of tbf_option.Limit = limit
tbf_value_of tbf_option.Latency = Positions.latency

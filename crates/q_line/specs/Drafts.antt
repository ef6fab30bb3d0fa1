-- What the words of a line have said so far: its head, the options of a qdisc, the keys of a filter, a packet's fields.
-- Each word of a head and each option occurs once; these are what may be given, and what a whole line makes of them.
use Rattle.std.specs.Prelude.{ℕ, ◌+◌, ◌==◌, min, Bool, false, nat_lt, nat_le, List, [], ◌∷◌, length, if◌then◌else◌, Option, Some, None, is_some, option_map, option_and_then, unwrap_or}
use Rattle.std.specs.List.{position}
use Rattle.std.specs.Option.{option_map_or}
use Rattle.std.specs.Str.Parse.{digits_value}
use Rattle.q_model.specs.declared.class_id.ClassId.{ClassId}
use Rattle.q_model.specs.declared.command.Command.{Command}
use Rattle.q_model.specs.declared.command.Command.TheVariants as command
use Rattle.q_model.specs.declared.kind.Kind.{Kind}
use Rattle.q_model.specs.declared.kind.Kind.TheVariants as kind
use Rattle.q_model.specs.declared.protocol.Protocol.TheVariants.{All}
use Rattle.q_model.specs.declared.tbf_limit.TbfLimit.{TbfLimit}
use Rattle.q_model.specs.Options.{FqOptions}
use Rattle.q_line.specs.declared.class_verb.ClassVerb.{ClassVerb}
use Rattle.q_line.specs.declared.class_verb.ClassVerb.TheVariants as class
use Rattle.q_line.specs.declared.filter_verb.FilterVerb.{FilterVerb}
use Rattle.q_line.specs.declared.head_draft.HeadDraft.{HeadDraft}
use Rattle.q_line.specs.declared.key_draft.KeyDraft.{KeyDraft}
use Rattle.q_line.specs.declared.kind_name.KindName.{KindName}
use Rattle.q_line.specs.declared.kind_name.KindName.TheVariants as kind_name
use Rattle.q_line.specs.declared.packet_draft.PacketDraft.{PacketDraft}
use Rattle.q_line.specs.declared.qdisc_verb.QdiscVerb.{QdiscVerb}
use Rattle.q_line.specs.declared.qdisc_verb.QdiscVerb.TheVariants as qdisc

-- what a tc line does, and to what
pub data Verb : Type 0 where
  of_qdisc : QdiscVerb → Verb
  of_class : ClassVerb → Verb
  of_filter : FilterVerb → Verb

abbrev pub no_head : HeadDraft
no_head = record { named = false; place = None; handle = None; parent = None; class = None; prio = None; protocol = None }

-- a number of a priomap; 16 stands for all that are greater, since no prio has a band above 15
abbrev pub band_number : List ℕ → ℕ
band_number word = min (digits_value 10 word) 16

-- the numbers of a priomap so far, and the index of the first of them
pub record Bands : Type 0 where
  pub from : ℕ
  pub numbers : List ℕ

pub record OptionDraft : Type 0 where
  pub limit : Option ℕ
  pub tbf_limit : Option TbfLimit
  pub bands : Option ℕ
  pub priomap : Option Bands
  pub rate : Option ℕ
  pub burst : Option ℕ
  pub fq_codel : FqOptions

abbrev pub no_options : OptionDraft
no_options = record {
  limit = None;
  tbf_limit = None;
  bands = None;
  priomap = None;
  rate = None;
  burst = None;
  fq_codel = record { limit = None; flows = None; quantum = None; target = None; interval = None; ecn = None; drop_batch = None };
}

-- tc-prio(8): three bands, and their priomap, where none is given; it names band 2
abbrev pub bands_of : OptionDraft → ℕ
bands_of o = unwrap_or o.bands 3

abbrev pub default_priomap : List ℕ
default_priomap = 1 ∷ 2 ∷ 2 ∷ 2 ∷ 1 ∷ 2 ∷ 0 ∷ 0 ∷ 1 ∷ 1 ∷ 1 ∷ 1 ∷ 1 ∷ 1 ∷ 1 ∷ 1 ∷ []

abbrev pub whole_priomap : OptionDraft → Option (List ℕ)
whole_priomap o = option_map_or
    (λ (b : Bands). if length b.numbers == 16 then Some b.numbers else None)
    o.priomap (if nat_lt 2 (bands_of o) then Some default_priomap else None)

-- the index of the first number of a priomap that names no band
abbrev pub bad_band : OptionDraft → Option ℕ
bad_band o = option_and_then
    (λ (b : Bands). option_map (λ i. b.from + i) (position (λ n. nat_le (bands_of o) n) b.numbers)) o.priomap

-- the kind with its options; None where one that it needs is not given
abbrev pub kind_of : KindName → OptionDraft → Option Kind
kind_of kind_name.Pfifo o = Some (kind.Pfifo o.limit)
kind_of kind_name.Bfifo o = Some (kind.Bfifo o.limit)
kind_of kind_name.Prio o = option_map (λ map. kind.Prio (record { bands = bands_of o; priomap = map })) (whole_priomap o)
kind_of kind_name.Tbf o = option_and_then (λ rate. option_and_then (λ burst. option_map (λ limit. kind.Tbf rate burst limit) o.tbf_limit) o.burst) o.rate
kind_of kind_name.Drr o = Some kind.Drr
kind_of kind_name.FqCodel o = Some (kind.FqCodel o.fq_codel)

-- a value where something is so, and none elsewhere
abbrev pub where_so : {A : Type 0} → Bool → Option A → Option A
where_so b a = if b then a else None

-- a qdisc line with a kind; None where a word that it needs is missing
abbrev pub qdisc_line : QdiscVerb → HeadDraft → Kind → Option Command
qdisc_line qdisc.Add h k = where_so h.named (option_map (λ place. command.QdiscAdd place h.handle k) h.place)
qdisc_line qdisc.Change h k =
    where_so h.named (if is_some h.place then Some (command.QdiscChange h.place h.handle k)
    else option_map (λ handle. command.QdiscChange None (Some handle) k) h.handle)
qdisc_line qdisc.Del h k = None

abbrev pub qdisc_del_line : HeadDraft → Option Command
qdisc_del_line h =
    where_so h.named (if is_some h.place then Some (command.QdiscDel h.place h.handle)
    else option_map (λ handle. command.QdiscDel None (Some handle)) h.handle)

-- a class line, with the quantum that was given
abbrev pub class_line : ClassVerb → HeadDraft → Option ℕ → Option Command
class_line class.Add h quantum =
    where_so h.named (option_and_then (λ parent. option_map (λ class. command.ClassAdd parent class quantum) h.class) h.parent)
class_line class.Change h quantum = where_so h.named (option_map (λ class. command.ClassChange h.parent class quantum) h.class)
class_line class.Del h quantum = where_so h.named (option_map (λ class. command.ClassDel h.parent class) h.class)

-- a filter's keys and class
abbrev pub no_keys : KeyDraft
no_keys = record { keys = record { ip_proto = None; src_ip = None; dst_ip = None; src_port = None; dst_port = None }; class = None }

abbrev pub filter_line : HeadDraft → KeyDraft → Option Command
filter_line h k = where_so h.named (option_and_then (λ parent. option_and_then (λ prio. option_map
    (λ (class : ClassId). command.FilterAdd parent class.major (record {
      prio = prio;
      protocol = unwrap_or h.protocol All;
      keys = k.keys;
      minor = class.minor;
    })) k.class) h.prio) h.parent)

abbrev pub filter_del_line : HeadDraft → Option Command
filter_del_line h = where_so h.named (option_and_then (λ parent. option_map (λ prio. command.FilterDel parent prio) h.prio) h.parent)

-- the fields of a packet
abbrev pub no_fields : ℕ → PacketDraft
no_fields len = record {
  len = len;
  hash = None;
  prio = None;
  ip_proto = None;
  src_ip = None;
  dst_ip = None;
  src_port = None;
  dst_port = None;
  ecn = None;
}

-- A packet that is read has a length and a priority in range: each position keeps what its words have given so.
use Rattle.std.proofs.Common.{if◌then◌else◌, lit≤, ◌^◌, ◌≡◌, ℕ, suc, ◌≤◌, ◌&&◌, Bool, true, false, List, [], ◌∷◌, Option, Some, None, IfSome, option_map, unwrap_or, Result, Ok, Err, refl, leb, subst}
use Rattle.std.specs.Bool.{⊤}
use Rattle.std.specs.List.{AllByRecursion}
use Rattle.std.specs.Result.{IfOk}
use Rattle.std.specs.Str.{bytes_eq, is_utf8}
use Rattle.std.specs.Str.Parse.{digits_value}
use Rattle.std.proofs.lemmas.Bool.{leb-true}
use Rattle.q_packet.specs.Ecn.{ecn_of}
use Rattle.q_packet.specs.Head.{head, ipv4_head, ipv6_head, is_ipv4, is_ipv6, zero_head}
use Rattle.q_packet.proofs.HeadLemmas.{prio_in_range}
use Rattle.q_fqcodel.specs.Ranges as ranges
use Rattle.q_model.specs.declared.command.Command.{Command}
use Rattle.q_model.specs.declared.place.Place.TheVariants as place
use Rattle.q_model.specs.declared.tbf_limit.TbfLimit.TheVariants as tbf_limit
use Rattle.q_words.specs.Words.{words_in, is_blank_line}
use Rattle.q_words.specs.Values.{handle_of, is_numeral, name_of, number_in}
use Rattle.q_words.specs.Units.{rate_in, size_in, time_in}
use Rattle.q_words.specs.Addresses.{class_of, frame_of, protocol_number, protocol_of}
use Rattle.q_words.specs.declared.line_fault.LineFault.{LineFault}
use Rattle.q_words.specs.declared.line_fault.LineFault.TheVariants as fault
use Rattle.q_words.specs.declared.wrong.Wrong.{Wrong}
use Rattle.q_words.specs.declared.wrong.Wrong.TheVariants as wrong
use Rattle.q_line.specs.Drafts.{OptionDraft, Verb, of_qdisc, of_class, of_filter, no_fields}
use Rattle.q_line.specs.Grammar.{after, ended, ends, fits, framed, head_fits, key_with, late_fault, limit_fits, line_of, longest, most, numbered, option_fits, packet_address, packet_with, priomap_fits, removal, rest_of, row_of, said, value}
use Rattle.q_line.specs.Positions
use Rattle.q_line.specs.Positions.{HeadValue, OptionValue, Position, Row, behind_drr, behind_flower, behind_kind, once, option_rows, table}
use Rattle.q_line.specs.Ranges.{IsSendable}
use Rattle.q_line.specs.declared.class_verb.ClassVerb.{ClassVerb}
use Rattle.q_line.specs.declared.class_verb.ClassVerb.TheVariants as class_verb
use Rattle.q_line.specs.declared.filter_verb.FilterVerb.{FilterVerb}
use Rattle.q_line.specs.declared.filter_verb.FilterVerb.TheVariants as filter_verb
use Rattle.q_line.specs.declared.head_draft.HeadDraft.{HeadDraft}
use Rattle.q_line.specs.declared.kind_name.KindName.{KindName}
use Rattle.q_line.specs.declared.kind_name.KindName.TheVariants as kind_name
use Rattle.q_line.specs.declared.line.Line.{Line}
use Rattle.q_line.specs.declared.line.Line.TheVariants as line
use Rattle.q_line.specs.declared.packet_draft.PacketDraft.{PacketDraft}
use Rattle.q_line.specs.declared.packet_field.PacketField.{PacketField}
use Rattle.q_line.specs.declared.packet_field.PacketField.TheVariants as field
use Rattle.q_line.specs.declared.qdisc_verb.QdiscVerb.{QdiscVerb}
use Rattle.q_line.specs.declared.qdisc_verb.QdiscVerb.TheVariants as qdisc_verb

-- what has been given of a packet is in range
abbrev IsDraft : PacketDraft → Type 0
IsDraft p = (1 ≤ p.len) × (p.len ≤ 65535) × IfSome p.prio (λ n. n ≤ 15)

-- what the words so far have given is in range
abbrev IsSound : Position → Type 0
IsSound (Positions.frame_bytes len) = (1 ≤ len) × (len ≤ 65535)
IsSound (Positions.packet p) = IsDraft p
IsSound (Positions.packet_value f p) = IsDraft p
IsSound (Positions.whole l) = IsSendable l
IsSound _ = ⊤

-- what an answer leads to
abbrev Leads : Result Position Wrong → Type 0
Leads (Ok q) = IsSound q
Leads (Err e) = ⊤

abbrev RowsLead : List Row → Type 0
RowsLead rows = AllByRecursion (λ (row : Row). Leads row.1) rows

-- tables and values

once_leads : (given : Bool) (next : Position) → IsSound next → Leads (once given next)
once_leads true next h = tt
once_leads false next h = h

rows_lead : (rows : List Row) (word : List ℕ) → RowsLead rows → Leads (row_of rows word)
rows_lead [] word h = tt
rows_lead (row ∷ rows) word h = by_test (rows_lead rows word h.1) (bytes_eq word row.0)
  where
    by_test : Leads (row_of rows word) → (b : Bool) → Leads (if b then row.1 else row_of rows word)
    by_test more true = h.0
    by_test more false = more

value_leads : {A : Type 0} (P : A → Type 0) (r : Result A Wrong) (next : A → Position) → IfOk r P → ((a : A) → P a → IsSound (next a)) → Leads (value r next)
value_leads P (Ok a) next p h = h a p
value_leads P (Err e) next p h = tt

-- a value of which nothing need be known
any_leads : {A : Type 0} (r : Result A Wrong) (next : A → Position) → ((a : A) → IsSound (next a)) → Leads (value r next)
any_leads (Ok a) next h = h a
any_leads (Err e) next h = tt

number_within : (low high : ℕ) (word : List ℕ) → IfOk (number_in low high word) (λ n. (low ≤ n) × (n ≤ high))
number_within low high word = by_tests (is_numeral 10 word) (leb low (digits_value 10 word)) (leb (digits_value 10 word) high) refl refl
  where
    by_tests : (form above below : Bool) → leb low (digits_value 10 word) ≡ above → leb (digits_value 10 word) high ≡ below
        → IfOk (if form then (if above && below then Ok (digits_value 10 word) else Err wrong.OutOfRange) else Err wrong.BadNumber) (λ n. (low ≤ n) × (n ≤ high))
    by_tests true true true e f = (leb-true _ _ e, leb-true _ _ f)
    by_tests true true false e f = tt
    by_tests true false below e f = tt
    by_tests false above below e f = tt

-- the fields of a packet

field_keeps : {A : Type 0} (P : A → Type 0) (r : Result A Wrong) (next : A → PacketDraft) → IfOk r P → ((a : A) → P a → IsDraft (next a)) → IfOk (value r next) IsDraft
field_keeps P (Ok a) next p h = h a p
field_keeps P (Err e) next p h = tt

any_keeps : {A : Type 0} (r : Result A Wrong) (next : A → PacketDraft) → ((a : A) → IsDraft (next a)) → IfOk (value r next) IsDraft
any_keeps (Ok a) next h = h a
any_keeps (Err e) next h = tt

field_fits : (f : PacketField) (p : PacketDraft) (word : List ℕ) → IsDraft p → IfOk (packet_with f p word) IsDraft
field_fits field.Hash p word s = any_keeps (number_in 0 most word) (λ n. record p { hash = Some n }) (λ n. s)
field_fits field.Prio p word s = field_keeps (λ n. (0 ≤ n) × (n ≤ 15)) (number_in 0 15 word) (λ n. record p { prio = Some n }) (number_within 0 15 word) (λ n q. (s.0, s.1, q.1))
field_fits field.IpProto p word s = any_keeps (protocol_number word) (λ n. record p { ip_proto = Some n }) (λ n. s)
field_fits field.SrcIp p word s = any_keeps (packet_address p word) (λ a. record p { src_ip = Some a }) (λ a. s)
field_fits field.DstIp p word s = any_keeps (packet_address p word) (λ a. record p { dst_ip = Some a }) (λ a. s)
field_fits field.SrcPort p word s = any_keeps (number_in 0 65535 word) (λ n. record p { src_port = Some n }) (λ n. s)
field_fits field.DstPort p word s = any_keeps (number_in 0 65535 word) (λ n. record p { dst_port = Some n }) (λ n. s)
field_fits field.Ecn p word s = ecn_keeps (number_in 0 3 word)
  where
    ecn_keeps : (r : Result ℕ Wrong) → IfOk (value r (λ n. record p { ecn = Some (ecn_of n) })) IsDraft
    ecn_keeps (Ok n) = s
    ecn_keeps (Err e) = tt

field_leads : (r : Result PacketDraft Wrong) → IfOk r IsDraft → Leads (value r Positions.packet)
field_leads (Ok p) h = h
field_leads (Err e) h = tt

-- the priority of a frame's head is one of the table
head_prio : (packet : List ℕ) → (head packet).prio ≤ 15
unfolding head ipv4_head ipv6_head
head_prio packet = by_version (is_ipv4 packet) (is_ipv6 packet)
  where
    by_version : (four six : Bool) → (if four then ipv4_head packet else if six then ipv6_head packet else zero_head).prio ≤ 15
    by_version true six = prio_in_range _
    by_version false true = prio_in_range _
    by_version false false = lit≤ tt

-- heads and options: they lead to no packet

head_leads : (x : HeadValue) (v : Verb) (h : HeadDraft) (word : List ℕ) → Leads (head_fits x v h word)
head_leads Positions.dev v h word = any_leads (name_of word) (λ u. Positions.head v (record h { named = true })) (λ a. tt)
head_leads Positions.in_class v h word = any_leads (class_of word) (λ c. Positions.head v (record h { place = Some (place.Class c) })) (λ a. tt)
head_leads Positions.handle v h word = any_leads (handle_of word) (λ n. Positions.head v (record h { handle = Some n })) (λ a. tt)
head_leads Positions.parent v h word = any_leads (handle_of word) (λ n. Positions.head v (record h { parent = Some n })) (λ a. tt)
head_leads Positions.class_id v h word = any_leads (class_of word) (λ c. Positions.head v (record h { class = Some c })) (λ a. tt)
head_leads Positions.filter_prio v h word = any_leads (number_in 1 65535 word) (λ n. Positions.head v (record h { prio = Some n })) (λ a. tt)
head_leads Positions.protocol v h word = any_leads (protocol_of word) (λ p. Positions.head v (record h { protocol = Some p })) (λ a. tt)

option_leads : (x : OptionValue) (v : QdiscVerb) (h : HeadDraft) (k : KindName) (o : OptionDraft) (word : List ℕ) → Leads (option_fits x v h k o word)
option_leads Positions.limit v h k o word = any_leads (limit_fits k o word) (λ d. Positions.options v h k d) (λ a. tt)
option_leads Positions.latency v h k o word = any_leads (time_in 0 longest word) (λ n. Positions.options v h k (record o { tbf_limit = Some (tbf_limit.Latency n) })) (λ a. tt)
option_leads Positions.bands v h k o word = any_leads (number_in 2 16 word) (λ n. Positions.options v h k (record o { bands = Some n })) (λ a. tt)
option_leads Positions.rate v h k o word = any_leads (rate_in word) (λ n. Positions.options v h k (record o { rate = Some n })) (λ a. tt)
option_leads Positions.burst v h k o word = any_leads (size_in 1 most word) (λ n. Positions.options v h k (record o { burst = Some n })) (λ a. tt)
option_leads Positions.flows v h k o word = any_leads (number_in 1 ranges.most_flows word) (λ n. Positions.options v h k (record o { fq_codel = record o.fq_codel { flows = Some n } })) (λ a. tt)
option_leads Positions.quantum v h k o word = any_leads (size_in 1 most word) (λ n. Positions.options v h k (record o { fq_codel = record o.fq_codel { quantum = Some n } })) (λ a. tt)
option_leads Positions.target v h k o word = any_leads (time_in 0 ranges.longest word) (λ n. Positions.options v h k (record o { fq_codel = record o.fq_codel { target = Some n } })) (λ a. tt)
option_leads Positions.interval v h k o word =
    any_leads (time_in ranges.shortest_interval ranges.longest word)
    (λ n. Positions.options v h k (record o { fq_codel = record o.fq_codel { interval = Some n } })) (λ a. tt)
option_leads Positions.drop_batch v h k o word =
    any_leads (number_in 1 ranges.most_batch word) (λ n. Positions.options v h k (record o { fq_codel = record o.fq_codel { drop_batch = Some n } }))
    (λ a. tt)

priomap_leads : (index : ℕ) (v : QdiscVerb) (h : HeadDraft) (k : KindName) (o : OptionDraft) (word : List ℕ) → Leads (priomap_fits index v h k o word)
priomap_leads index v h k o word = by_form (is_numeral 10 word) _ _ _
  where
    by_form : (form whole : Bool) (a b : OptionDraft) → Leads (if form then Ok (if whole then Positions.options v h k a else Positions.priomap v h k b) else Err wrong.BadNumber)
    by_form true true a b = tt
    by_form true false a b = tt
    by_form false whole a b = tt

kind_sound : (v : QdiscVerb) (h : HeadDraft) (k : KindName) → IsSound (behind_kind v h k)
kind_sound qdisc_verb.Add h k = tt
kind_sound qdisc_verb.Change h k = tt
kind_sound qdisc_verb.Del h k = tt

drr_leads : (v : ClassVerb) (h : HeadDraft) → Leads (behind_drr v h)
drr_leads class_verb.Add h = tt
drr_leads class_verb.Change h = tt
drr_leads class_verb.Del h = tt

flower_sound : (v : FilterVerb) (h : HeadDraft) → IsSound (behind_flower v h)
flower_sound filter_verb.Add h = tt
flower_sound filter_verb.Del h = tt

-- a word of a head's table, or an option

heads_lead : (v : Verb) (h : HeadDraft) → RowsLead (table (Positions.head v h))
heads_lead (of_qdisc v) h = (
  once_leads _ _ tt,
  (
    once_leads _ _ tt,
    (
      once_leads _ _ tt,
      (
        once_leads _ _ tt,
        (
          kind_sound v h kind_name.Pfifo,
          (kind_sound v h kind_name.Bfifo, (kind_sound v h kind_name.Prio, (kind_sound v h kind_name.Tbf, (kind_sound v h kind_name.Drr, (kind_sound v h kind_name.FqCodel, tt))))),
        ),
      ),
    ),
  ),
)
heads_lead (of_class v) h = (once_leads _ _ tt, (once_leads _ _ tt, (once_leads _ _ tt, (drr_leads v h, tt))))
heads_lead (of_filter v) h = (once_leads _ _ tt, (once_leads _ _ tt, (once_leads _ _ tt, (once_leads _ _ tt, (once_leads _ _ tt, (flower_sound v h, tt))))))

options_lead : (v : QdiscVerb) (h : HeadDraft) (k : KindName) (o : OptionDraft) → RowsLead (option_rows v h k o)
options_lead v h kind_name.Pfifo o = (once_leads _ _ tt, tt)
options_lead v h kind_name.Bfifo o = (once_leads _ _ tt, tt)
options_lead v h kind_name.Prio o = (once_leads _ _ tt, (once_leads _ _ tt, tt))
options_lead v h kind_name.Tbf o = (once_leads _ _ tt, (once_leads _ _ tt, (once_leads _ _ tt, (once_leads _ _ tt, (once_leads _ _ tt, (once_leads _ _ tt, tt))))))
options_lead v h kind_name.Drr o = tt
options_lead v h kind_name.FqCodel o =
    (once_leads _ _ tt, (once_leads _ _ tt, (once_leads _ _ tt, (once_leads _ _ tt, (once_leads _ _ tt, (once_leads _ _ tt, (once_leads _ _ tt, (once_leads _ _ tt, tt))))))))

-- a word that fits keeps it so
fits_leads : (p : Position) (i : ℕ) (word : List ℕ) → IsSound p → Leads (fits i p word)
fits_leads Positions.at i word s = any_leads (number_in 0 (2 ^ 62) word) (λ n. Positions.whole (line.At n)) (λ n. tt)
fits_leads Positions.pkt i word s = value_leads (λ n. (1 ≤ n) × (n ≤ 65535)) (number_in 1 65535 word) (λ n. Positions.packet (no_fields n)) (number_within 1 65535 word) (λ n q. (q.0, q.1, tt))
fits_leads Positions.frame i word s = value_leads (λ n. (1 ≤ n) × (n ≤ 65535)) (number_in 1 65535 word) (λ n. Positions.frame_bytes n) (number_within 1 65535 word) (λ n q. q)
fits_leads Positions.poll i word s = any_leads (number_in 1 100000 word) (λ n. Positions.whole (line.Poll n)) (λ n. tt)
fits_leads (Positions.frame_bytes len) i word s = any_leads (frame_of word) (λ bytes. Positions.whole (framed len bytes)) (λ bytes. (s.0, s.1, head_prio bytes))
fits_leads (Positions.packet_value f p) i word s = field_leads (packet_with f p word) (field_fits f p word s)
fits_leads (Positions.head_value x v h) i word s = head_leads x v h word
fits_leads (Positions.option_value x v h k o) i word s = option_leads x v h k o word
fits_leads (Positions.priomap v h k o) i word s = priomap_leads i v h k o word
fits_leads (Positions.quantum_value v h) i word s = any_leads (size_in 1 most word) (λ n. Positions.quantum_of v h (Some n)) (λ n. tt)
fits_leads (Positions.key_value f h k) i word s = any_leads (key_with f h k word) (λ d. Positions.keys h d) (λ d. tt)
fits_leads (Positions.show_dev x) i word s = any_leads (name_of word) (λ u. Positions.show_line x true) (λ u. tt)
fits_leads Positions.first i word s = rows_lead (table Positions.first) word (tt, (tt, (tt, (tt, (tt, (tt, (tt, tt)))))))
fits_leads (Positions.tc false) i word s = rows_lead (table (Positions.tc false)) word (tt, (tt, (tt, (tt, tt))))
fits_leads (Positions.tc true) i word s = rows_lead (table (Positions.tc true)) word (tt, (tt, (tt, tt)))
fits_leads (Positions.qdisc c) i word s = rows_lead (table (Positions.qdisc c)) word (tt, (tt, (tt, (tt, (tt, (tt, (tt, tt)))))))
fits_leads (Positions.class c) i word s = rows_lead (table (Positions.class c)) word (tt, (tt, (tt, (tt, (tt, (tt, (tt, tt)))))))
fits_leads (Positions.filter c) i word s = rows_lead (table (Positions.filter c)) word (tt, (tt, (tt, (tt, (tt, (tt, tt))))))
fits_leads (Positions.head v h) i word s = rows_lead (table (Positions.head v h)) word (heads_lead v h)
fits_leads (Positions.options v h k o) i word s = rows_lead (option_rows v h k o) word (options_lead v h k o)
fits_leads (Positions.quantum_of v h given) i word s = rows_lead (table (Positions.quantum_of v h given)) word (once_leads _ _ tt, tt)
fits_leads (Positions.keys h k) i word s =
    rows_lead (table (Positions.keys h k)) word
    (once_leads _ _ tt, (once_leads _ _ tt, (once_leads _ _ tt, (once_leads _ _ tt, (once_leads _ _ tt, (once_leads _ _ tt, (once_leads _ _ tt, tt)))))))
fits_leads (Positions.packet p) i word s =
    rows_lead (table (Positions.packet p)) word
    (once_leads _ _ s, (once_leads _ _ s, (once_leads _ _ s, (once_leads _ _ s, (once_leads _ _ s, (once_leads _ _ s, (once_leads _ _ s, (once_leads _ _ s, tt))))))))
fits_leads (Positions.show_line x named) i word s = rows_lead (table (Positions.show_line x named)) word (once_leads _ _ tt, tt)
fits_leads (Positions.done v h) i word s = tt
fits_leads (Positions.whole l) i word s = tt

after_leads : (p : Position) (i : ℕ) (word : List ℕ) → IsSound p → Leads (after i p word)
after_leads p i word s = by_test (is_utf8 word)
  where
    by_test : (b : Bool) → Leads (if b then fits i p word else Err wrong.BadUtf8)
    by_test true = fits_leads p i word s
    by_test false = tt

-- the end of a line

command_ends : (c : Option Command) → IfSome (option_map line.Tc c) IsSendable
command_ends (Some c) = tt
command_ends None = tt

removal_ends : (v : Verb) (h : HeadDraft) → IfSome (removal v h) IsSendable
removal_ends (of_qdisc qdisc_verb.Add) h = tt
removal_ends (of_qdisc qdisc_verb.Change) h = tt
removal_ends (of_qdisc qdisc_verb.Del) h = command_ends _
removal_ends (of_class class_verb.Add) h = tt
removal_ends (of_class class_verb.Change) h = tt
removal_ends (of_class class_verb.Del) h = command_ends _
removal_ends (of_filter filter_verb.Add) h = tt
removal_ends (of_filter filter_verb.Del) h = command_ends _

prio_given : (prio : Option ℕ) → IfSome prio (λ n. n ≤ 15) → unwrap_or prio 0 ≤ 15
prio_given (Some n) h = h
prio_given None h = lit≤ tt

ends_sendable : (p : Position) → IsSound p → IfSome (ends p) IsSendable
ends_sendable Positions.poll s = tt
ends_sendable (Positions.packet p) s = (s.0, s.1, prio_given p.prio s.2)
ends_sendable (Positions.head v h) s = removal_ends v h
ends_sendable (Positions.done v h) s = removal_ends v h
ends_sendable (Positions.options v h k o) s = command_ends _
ends_sendable (Positions.quantum_of v h given) s = command_ends _
ends_sendable (Positions.keys h k) s = command_ends _
ends_sendable (Positions.show_line x named) s = tt
ends_sendable (Positions.whole l) s = s
ends_sendable Positions.first s = tt
ends_sendable Positions.at s = tt
ends_sendable Positions.pkt s = tt
ends_sendable Positions.frame s = tt
ends_sendable (Positions.frame_bytes len) s = tt
ends_sendable (Positions.packet_value f p) s = tt
ends_sendable (Positions.tc c) s = tt
ends_sendable (Positions.qdisc c) s = tt
ends_sendable (Positions.class c) s = tt
ends_sendable (Positions.filter c) s = tt
ends_sendable (Positions.head_value x v h) s = tt
ends_sendable (Positions.option_value x v h k o) s = tt
ends_sendable (Positions.priomap v h k o) s = tt
ends_sendable (Positions.quantum_value v h) s = tt
ends_sendable (Positions.key_value f h k) s = tt
ends_sendable (Positions.show_dev x) s = tt

ended_sendable : (p : Position) (i : ℕ) → IsSound p → IfOk (ended p i) IsSendable
ended_sendable p i s = by_end (late_fault p) (ends p) (ends_sendable p s)
  where
    by_end : (late : Option ℕ) (end : Option Line) → IfSome end IsSendable → IfOk (elim late as (λ _. Result Line LineFault) [ Some word ↦ Err (fault.OutOfRange word) | None ↦ said end i ]) IsSendable
    by_end (Some word) end h = tt
    by_end None (Some l) h = h
    by_end None None h = tt

-- the words of a line

rest_sendable : (ws : List (List ℕ)) (p : Position) (i : ℕ) → IsSound p → IfOk (rest_of p i ws) IsSendable
rest_sendable [] p i s = ended_sendable p i s
rest_sendable (w ∷ ws) p i s = by_word (rest_sendable ws) (after i p w) (after_leads p i w s)
  where
    by_word : ((p : Position) (i : ℕ) → IsSound p → IfOk (rest_of p i ws) IsSendable) → (r : Result Position Wrong) → Leads r
        → IfOk (elim r as (λ _. Result Line LineFault) [ Ok next ↦ rest_of next (suc i) ws | Err e ↦ Err (numbered e i) ]) IsSendable
    by_word more (Ok q) s = more q (suc i) s
    by_word more (Err e) s = tt

line_sendable : (bytes : List ℕ) → IfOk (line_of bytes) IsSendable
line_sendable bytes = by_blank (is_blank_line (words_in bytes))
  where
    by_blank : (b : Bool) → IfOk (if b then Ok line.Blank else rest_of Positions.first 1 (words_in bytes)) IsSendable
    by_blank true = tt
    by_blank false = rest_sendable (words_in bytes) Positions.first 1 tt

-- a packet that a line says can be sent
pub read-sendable : (bytes : List ℕ) (l : Line) → line_of bytes ≡ Ok l → IsSendable l
read-sendable bytes l e = subst (λ r. IfOk r IsSendable) e (line_sendable bytes)

-- A number of a priomap whose fault is put off is one of the words that have been read: by induction on the words, from any
-- position, as the numbers so far stand before the next word.
use Rattle.std.proofs.Common.{◌≡◌, ℕ, suc, ◌+◌, ◌<◌, ◌≤◌, ◌^◌, Bool, true, false, cond, List, [], ◌∷◌, ◌++◌, length, length-append, ltb, Result, Ok, Err, Option, Some, None, IfSome, option_map, option_and_then, unwrap_or, ◌==◌, refl, subst, arith, if◌then◌else◌, nat_le}
use Rattle.std.specs.Bool.{⊤}
use Rattle.std.specs.List.{AllByRecursion, position, position_or_len}
use Rattle.std.specs.Str.{bytes_eq, is_utf8}
use Rattle.std.proofs.lemmas.Bool.{ltb-true}
use Rattle.q_fqcodel.specs.Ranges as ranges
use Rattle.q_words.specs.declared.wrong.Wrong.{Wrong}
use Rattle.q_words.specs.declared.wrong.Wrong.TheVariants as wrong
use Rattle.q_line.specs.Drafts.{Bands, OptionDraft, Verb, of_qdisc, of_class, of_filter, band_number, no_fields, bands_of, bad_band}
use Rattle.q_words.specs.Addresses.{class_of, frame_of, protocol_of}
use Rattle.q_words.specs.Units.{rate_in, size_in, time_in}
use Rattle.q_words.specs.Values.{handle_of, is_numeral, name_of, number_in}
use Rattle.q_model.specs.declared.tbf_limit.TbfLimit.TheVariants as tbf_limit
use Rattle.q_line.specs.Grammar.{after, fits, framed, head_fits, key_with, late_fault, limit_fits, longest, most, packet_with, option_fits, priomap_fits, row_of, value}
use Rattle.q_line.specs.Laws.{reached}
use Rattle.q_line.specs.Positions
use Rattle.q_line.specs.Positions.{HeadValue, OptionValue, Position, Row, behind_drr, behind_flower, behind_kind, once, option_rows, table}
use Rattle.q_line.specs.declared.class_verb.ClassVerb.{ClassVerb}
use Rattle.q_line.specs.declared.class_verb.ClassVerb.TheVariants as class_verb
use Rattle.q_line.specs.declared.filter_verb.FilterVerb.{FilterVerb}
use Rattle.q_line.specs.declared.filter_verb.FilterVerb.TheVariants as filter_verb
use Rattle.q_line.specs.declared.head_draft.HeadDraft.{HeadDraft}
use Rattle.q_model.specs.declared.place.Place.TheVariants as place
use Rattle.q_line.specs.declared.line.Line.TheVariants as line
use Rattle.q_line.specs.declared.kind_name.KindName.{KindName}
use Rattle.q_line.specs.declared.kind_name.KindName.TheVariants as kind_name
use Rattle.q_line.specs.declared.qdisc_verb.QdiscVerb.{QdiscVerb}
use Rattle.q_line.specs.declared.qdisc_verb.QdiscVerb.TheVariants as qdisc_verb

-- the numbers of a priomap stand before the word with this index
abbrev pub BandsStand : Option Bands → ℕ → Type 0
BandsStand map index = IfSome map (λ b. (1 ≤ b.from) × (b.from + length b.numbers ≤ index))

abbrev pub Stands : Position → ℕ → Type 0
Stands (Positions.options v h k o) index = BandsStand o.priomap index
Stands (Positions.option_value x v h k o) index = BandsStand o.priomap index
Stands (Positions.priomap v h k o) index = BandsStand o.priomap index
Stands _ index = ⊤

later : (map : Option Bands) (index : ℕ) → BandsStand map index → BandsStand map (suc index)
later None index h = tt
later (Some b) index h = let within = h.1 in (h.0, omega arith)

-- what an answer leads to
abbrev Leads : Result Position Wrong → ℕ → Type 0
Leads (Ok q) index = Stands q index
Leads (Err e) index = ⊤

once_leads : (given : Bool) (next : Position) (index : ℕ) → Stands next index → Leads (once given next) index
once_leads true next index h = tt
once_leads false next index h = h

rows_lead : (rows : List Row) (word : List ℕ) (index : ℕ) → AllByRecursion (λ (row : Row). Leads row.1 index) rows → Leads (row_of rows word) index
rows_lead [] word index h = tt
rows_lead (row ∷ rows) word index h = by_test (rows_lead rows word index h.1) (bytes_eq word row.0)
  where
    by_test : Leads (row_of rows word) index → (b : Bool) → Leads (if b then row.1 else row_of rows word) index
    by_test more true = h.0
    by_test more false = more

value_leads : {A : Type 0} (r : Result A Wrong) (next : A → Position) (index : ℕ) → ((a : A) → Stands (next a) index) → Leads (value r next) index
value_leads (Ok a) next index h = h a
value_leads (Err e) next index h = tt

-- the options of each kind

options_lead : (v : QdiscVerb) (h : HeadDraft) (k : KindName) (o : OptionDraft) (index : ℕ) → BandsStand o.priomap index → AllByRecursion (λ (row : Row). Leads row.1 index) (option_rows v h k o)
options_lead v h kind_name.Pfifo o index s = (once_leads _ _ index s, tt)
options_lead v h kind_name.Bfifo o index s = (once_leads _ _ index s, tt)
options_lead v h kind_name.Prio o index s = (once_leads _ _ index s, (once_leads _ _ index s, tt))
options_lead v h kind_name.Tbf o index s =
    (once_leads _ _ index s, (once_leads _ _ index s, (once_leads _ _ index s, (once_leads _ _ index s, (once_leads _ _ index s, (once_leads _ _ index s, tt))))))
options_lead v h kind_name.Drr o index s = tt
options_lead v h kind_name.FqCodel o index s = (
  once_leads _ _ index s,
  (
    once_leads _ _ index s,
    (
      once_leads _ _ index s,
      (
        once_leads _ _ index s,
        (once_leads _ _ index s, (once_leads _ _ index s, (once_leads _ _ index s, (once_leads _ _ index s, tt)))),
      ),
    ),
  ),
)

-- the value of an option
draft_leads : (r : Result ℕ Wrong) (g : ℕ → OptionDraft) (v : QdiscVerb) (h : HeadDraft) (k : KindName) (index : ℕ) → ((n : ℕ) → BandsStand (g n).priomap index)
    → Leads (value (elim r as (λ _. Result OptionDraft Wrong) [ Ok n ↦ Ok (g n) | Err e ↦ Err e ]) (λ d. Positions.options v h k d)) index
draft_leads (Ok n) g v h k index s = s n
draft_leads (Err e) g v h k index s = tt

limit_leads : (k : KindName) (o : OptionDraft) (word : List ℕ) (v : QdiscVerb) (h : HeadDraft) (index : ℕ) → BandsStand o.priomap index
    → Leads (value (limit_fits k o word) (λ d. Positions.options v h k d)) index
limit_leads kind_name.Pfifo o word v h index s = draft_leads (number_in 0 most word) (λ n. record o { limit = Some n }) v h kind_name.Pfifo index (λ n. s)
limit_leads kind_name.Bfifo o word v h index s = draft_leads (size_in 0 most word) (λ n. record o { limit = Some n }) v h kind_name.Bfifo index (λ n. s)
limit_leads kind_name.Tbf o word v h index s = draft_leads (size_in 0 most word) (λ n. record o { tbf_limit = Some (tbf_limit.Bytes n) }) v h kind_name.Tbf index (λ n. s)
limit_leads kind_name.FqCodel o word v h index s = draft_leads (number_in 1 most word) (λ n. record o { fq_codel = record o.fq_codel { limit = Some n } }) v h kind_name.FqCodel index (λ n. s)
limit_leads kind_name.Prio o word v h index s = tt
limit_leads kind_name.Drr o word v h index s = tt

option_leads : (x : OptionValue) (v : QdiscVerb) (h : HeadDraft) (k : KindName) (o : OptionDraft) (word : List ℕ) (index : ℕ) → BandsStand o.priomap index → Leads (option_fits x v h k o word) index
option_leads Positions.limit v h k o word index s = limit_leads k o word v h index s
option_leads Positions.latency v h k o word index s = value_leads (time_in 0 longest word) (λ n. Positions.options v h k (record o { tbf_limit = Some (tbf_limit.Latency n) })) index (λ n. s)
option_leads Positions.bands v h k o word index s = value_leads (number_in 2 16 word) (λ n. Positions.options v h k (record o { bands = Some n })) index (λ n. s)
option_leads Positions.rate v h k o word index s = value_leads (rate_in word) (λ n. Positions.options v h k (record o { rate = Some n })) index (λ n. s)
option_leads Positions.burst v h k o word index s = value_leads (size_in 1 most word) (λ n. Positions.options v h k (record o { burst = Some n })) index (λ n. s)
option_leads Positions.flows v h k o word index s =
    value_leads (number_in 1 ranges.most_flows word) (λ n. Positions.options v h k (record o { fq_codel = record o.fq_codel { flows = Some n } }))
    index (λ n. s)
option_leads Positions.quantum v h k o word index s = value_leads (size_in 1 most word) (λ n. Positions.options v h k (record o { fq_codel = record o.fq_codel { quantum = Some n } })) index (λ n. s)
option_leads Positions.target v h k o word index s =
    value_leads (time_in 0 ranges.longest word) (λ n. Positions.options v h k (record o { fq_codel = record o.fq_codel { target = Some n } })) index
    (λ n. s)
option_leads Positions.interval v h k o word index s =
    value_leads (time_in ranges.shortest_interval ranges.longest word)
    (λ n. Positions.options v h k (record o { fq_codel = record o.fq_codel { interval = Some n } })) index (λ n. s)
option_leads Positions.drop_batch v h k o word index s =
    value_leads (number_in 1 ranges.most_batch word)
    (λ n. Positions.options v h k (record o { fq_codel = record o.fq_codel { drop_batch = Some n } })) index (λ n. s)

-- one number more: it is the word that is read
number_leads : (v : QdiscVerb) (h : HeadDraft) (k : KindName) (o : OptionDraft) (word : List ℕ) (i : ℕ) → 1 ≤ i → BandsStand o.priomap i → Leads (priomap_fits i v h k o word) (suc i)
number_leads v h k o word i from_one s = by_form (is_numeral 10 word)
  where
    more : Bands
    more = let so_far = unwrap_or o.priomap (record { from = i; numbers = [] }) in record so_far { numbers = so_far.numbers ++ band_number word ∷ [] }

    stands : (map : Option Bands) → BandsStand map i → (n : ℕ) → (1 ≤ (unwrap_or map (record { from = i; numbers = [] })).from)
        × ((unwrap_or map (record { from = i; numbers = [] })).from + length ((unwrap_or map (record { from = i; numbers = [] })).numbers ++ n ∷ []) ≤ suc i)
    stands None t n = (from_one, omega arith)
    stands (Some b) t n = let within = t.1 in let long : length (b.numbers ++ n ∷ []) ≡ length b.numbers + 1 = length-append b.numbers (n ∷ []) in (t.0, omega arith)

    by_whole : (b : Bool) → Stands (if b then Positions.options v h k (record o { priomap = Some more }) else Positions.priomap v h k (record o { priomap = Some more })) (suc i)
    by_whole true = stands o.priomap s (band_number word)
    by_whole false = stands o.priomap s (band_number word)

    by_form : (b : Bool)
        → Leads (if b then Ok (if length more.numbers == 16 then Positions.options v h k (record o { priomap = Some more }) else Positions.priomap v
        h k (record o { priomap = Some more })) else Err wrong.BadNumber) (suc i)
    by_form true = by_whole (length more.numbers == 16)
    by_form false = tt

head_leads : (x : HeadValue) (v : Verb) (h : HeadDraft) (word : List ℕ) (index : ℕ) → Leads (head_fits x v h word) index
head_leads Positions.dev v h word index = value_leads (name_of word) (λ u. Positions.head v (record h { named = true })) index (λ n. tt)
head_leads Positions.in_class v h word index = value_leads (class_of word) (λ c. Positions.head v (record h { place = Some (place.Class c) })) index (λ n. tt)
head_leads Positions.handle v h word index = value_leads (handle_of word) (λ n. Positions.head v (record h { handle = Some n })) index (λ n. tt)
head_leads Positions.parent v h word index = value_leads (handle_of word) (λ n. Positions.head v (record h { parent = Some n })) index (λ n. tt)
head_leads Positions.class_id v h word index = value_leads (class_of word) (λ c. Positions.head v (record h { class = Some c })) index (λ n. tt)
head_leads Positions.filter_prio v h word index = value_leads (number_in 1 65535 word) (λ n. Positions.head v (record h { prio = Some n })) index (λ n. tt)
head_leads Positions.protocol v h word index = value_leads (protocol_of word) (λ p. Positions.head v (record h { protocol = Some p })) index (λ n. tt)

-- the words of a head
kind_stands : (v : QdiscVerb) (h : HeadDraft) (k : KindName) (index : ℕ) → Stands (behind_kind v h k) index
kind_stands qdisc_verb.Add h k index = tt
kind_stands qdisc_verb.Change h k index = tt
kind_stands qdisc_verb.Del h k index = tt

drr_leads : (v : ClassVerb) (h : HeadDraft) (index : ℕ) → Leads (behind_drr v h) index
drr_leads class_verb.Add h index = tt
drr_leads class_verb.Change h index = tt
drr_leads class_verb.Del h index = tt

flower_stands : (v : FilterVerb) (h : HeadDraft) (index : ℕ) → Stands (behind_flower v h) index
flower_stands filter_verb.Add h index = tt
flower_stands filter_verb.Del h index = tt

heads_lead : (v : Verb) (h : HeadDraft) (index : ℕ) → AllByRecursion (λ (row : Row). Leads row.1 index) (table (Positions.head v h))
heads_lead (of_qdisc v) h index = (
  once_leads _ _ index tt,
  (
    once_leads _ _ index tt,
    (
      once_leads _ _ index tt,
      (
        once_leads _ _ index tt,
        (
          kind_stands v h kind_name.Pfifo index,
          (
            kind_stands v h kind_name.Bfifo index,
            (
              kind_stands v h kind_name.Prio index,
              (kind_stands v h kind_name.Tbf index, (kind_stands v h kind_name.Drr index, (kind_stands v h kind_name.FqCodel index, tt))),
            ),
          ),
        ),
      ),
    ),
  ),
)
heads_lead (of_class v) h index = (once_leads _ _ index tt, (once_leads _ _ index tt, (once_leads _ _ index tt, (drr_leads v h index, tt))))
heads_lead (of_filter v) h index =
    (once_leads _ _ index tt, (once_leads _ _ index tt, (once_leads _ _ index tt, (once_leads _ _ index tt, (once_leads _ _ index tt, (flower_stands v h index, tt))))))

fits_leads : (p : Position) (i : ℕ) (word : List ℕ) → 1 ≤ i → Stands p i → Leads (fits i p word) (suc i)
fits_leads Positions.at i word o s = value_leads (number_in 0 (2 ^ 62) word) (λ n. Positions.whole (line.At n)) (suc i) (λ n. tt)
fits_leads Positions.pkt i word o s = value_leads (number_in 1 65535 word) (λ n. Positions.packet (no_fields n)) (suc i) (λ n. tt)
fits_leads Positions.frame i word o s = value_leads (number_in 1 65535 word) (λ n. Positions.frame_bytes n) (suc i) (λ n. tt)
fits_leads Positions.poll i word o s = value_leads (number_in 1 100000 word) (λ n. Positions.whole (line.Poll n)) (suc i) (λ n. tt)
fits_leads (Positions.frame_bytes len) i word o s = value_leads (frame_of word) (λ bytes. Positions.whole (framed len bytes)) (suc i) (λ n. tt)
fits_leads (Positions.packet_value f p) i word o s = value_leads (packet_with f p word) (λ d. Positions.packet d) (suc i) (λ n. tt)
fits_leads (Positions.head_value x v h) i word o s = head_leads x v h word (suc i)
fits_leads (Positions.option_value x v h k d) i word o s = option_leads x v h k d word (suc i) (later d.priomap i s)
fits_leads (Positions.priomap v h k d) i word o s = number_leads v h k d word i o s
fits_leads (Positions.quantum_value v h) i word o s = value_leads (size_in 1 most word) (λ n. Positions.quantum_of v h (Some n)) (suc i) (λ n. tt)
fits_leads (Positions.key_value f h k) i word o s = value_leads (key_with f h k word) (λ d. Positions.keys h d) (suc i) (λ n. tt)
fits_leads (Positions.show_dev x) i word o s = value_leads (name_of word) (λ u. Positions.show_line x true) (suc i) (λ n. tt)
fits_leads Positions.first i word o s = rows_lead (table Positions.first) word (suc i) (tt, (tt, (tt, (tt, (tt, (tt, (tt, tt)))))))
fits_leads (Positions.tc false) i word o s = rows_lead (table (Positions.tc false)) word (suc i) (tt, (tt, (tt, (tt, tt))))
fits_leads (Positions.tc true) i word o s = rows_lead (table (Positions.tc true)) word (suc i) (tt, (tt, (tt, tt)))
fits_leads (Positions.qdisc c) i word o s = rows_lead (table (Positions.qdisc c)) word (suc i) (tt, (tt, (tt, (tt, (tt, (tt, (tt, tt)))))))
fits_leads (Positions.class c) i word o s = rows_lead (table (Positions.class c)) word (suc i) (tt, (tt, (tt, (tt, (tt, (tt, (tt, tt)))))))
fits_leads (Positions.filter c) i word o s = rows_lead (table (Positions.filter c)) word (suc i) (tt, (tt, (tt, (tt, (tt, (tt, tt))))))
fits_leads (Positions.head v h) i word o s = rows_lead (table (Positions.head v h)) word (suc i) (heads_lead v h (suc i))
fits_leads (Positions.options v h k d) i word o s = rows_lead (option_rows v h k d) word (suc i) (options_lead v h k d (suc i) (later d.priomap i s))
fits_leads (Positions.quantum_of v h given) i word o s = rows_lead (table (Positions.quantum_of v h given)) word (suc i) (once_leads _ _ (suc i) tt, tt)
fits_leads (Positions.keys h k) i word o s =
    rows_lead (table (Positions.keys h k)) word (suc i) (
      once_leads _ _ (suc i) tt,
      (
        once_leads _ _ (suc i) tt,
        (
          once_leads _ _ (suc i) tt,
          (
            once_leads _ _ (suc i) tt,
            (once_leads _ _ (suc i) tt, (once_leads _ _ (suc i) tt, (once_leads _ _ (suc i) tt, tt))),
          ),
        ),
      ),
    )
fits_leads (Positions.packet p) i word o s =
    rows_lead (table (Positions.packet p)) word (suc i) (
      once_leads _ _ (suc i) tt,
      (
        once_leads _ _ (suc i) tt,
        (
          once_leads _ _ (suc i) tt,
          (
            once_leads _ _ (suc i) tt,
            (once_leads _ _ (suc i) tt, (once_leads _ _ (suc i) tt, (once_leads _ _ (suc i) tt, (once_leads _ _ (suc i) tt, tt)))),
          ),
        ),
      ),
    )
fits_leads (Positions.show_line x named) i word o s = rows_lead (table (Positions.show_line x named)) word (suc i) (once_leads _ _ (suc i) tt, tt)
fits_leads (Positions.done v h) i word o s = tt
fits_leads (Positions.whole l) i word o s = tt

after_leads : (p : Position) (i : ℕ) (word : List ℕ) → 1 ≤ i → Stands p i → Leads (after i p word) (suc i)
after_leads p i word o s = by_test (is_utf8 word)
  where
    by_test : (b : Bool) → Leads (if b then fits i p word else Err wrong.BadUtf8) (suc i)
    by_test true = fits_leads p i word o s
    by_test false = tt

ok_same : (r : Result Position Wrong) (p q : Position) → r ≡ Ok p → r ≡ Ok q → p ≡ q
ok_same r p q d e = cc

err_not_ok : (r : Result Position Wrong) (x : Wrong) (q : Position) → r ≡ Err x → r ≡ Ok q → ⊥
err_not_ok r x q d e = cc

-- the position that words lead to
pub reached_stands : (ws : List (List ℕ)) (p q : Position) (i next : ℕ) → next ≡ i + length ws → 1 ≤ i → Stands p i → reached p i ws ≡ Ok q → Stands q next
reached_stands [] p q i next n o s e =
    let same : p ≡ q = ok_same (Ok p) p q refl e in let here : i ≡ next = omega arith in subst (λ (q : Position). Stands q next) same (subst (λ k. Stands p k) here s)
reached_stands (w ∷ ws) p q i next n o s e = by_word (reached_stands ws) (after i p w) (after_leads p i w o s) e
  where
    by_word : ((p q : Position) (i next : ℕ) → next ≡ i + length ws → 1 ≤ i → Stands p i → reached p i ws ≡ Ok q → Stands q next)
        → (r : Result Position Wrong) → Leads r (suc i) → (elim r as (λ _. Result Position Wrong) [ Ok p ↦ reached p (suc i) ws | Err e ↦ Err e ]) ≡ Ok q → Stands q next
    by_word more (Ok p) s e = more p q (suc i) next (omega arith) (omega arith) s e
    by_word more (Err x) s e = absurd (err_not_ok (Err x) x q refl e)

none_not_some : (word : ℕ) (r : Option ℕ) → r ≡ None → r ≡ Some word → ⊥
none_not_some word r d e = cc

-- a number that is put off is one of those that stand before the next word
bad_within : (p : ℕ → Bool) (b : Bands) (next word : ℕ) → 1 ≤ b.from → b.from + length b.numbers ≤ next → option_map (λ i. b.from + i) (position p b.numbers) ≡ Some word → (1 ≤ word) × (word < next)
bad_within p b next word low within e = by_place (ltb (position_or_len p b.numbers) (length b.numbers)) refl e
  where
    some_same : (n word : ℕ) (r : Option ℕ) → r ≡ Some n → r ≡ Some word → n ≡ word
    some_same n word r d e = cc

    by_place : (t : Bool) → ltb (position_or_len p b.numbers) (length b.numbers) ≡ t
        → option_map (λ i. b.from + i) (cond t (Some (position_or_len p b.numbers)) None) ≡ Some word → (1 ≤ word) × (word < next)
    by_place true t e =
        let place : position_or_len p b.numbers < length b.numbers = ltb-true _ _ t in
        let is : b.from + position_or_len p b.numbers ≡ word = some_same (b.from + position_or_len p b.numbers) word (Some (b.from + position_or_len p b.numbers)) refl e in
        (omega arith, omega arith)
    by_place false t e = absurd (none_not_some word None refl e)

bad_of : (o : OptionDraft) (next word : ℕ) → BandsStand o.priomap next → bad_band o ≡ Some word → (1 ≤ word) × (word < next)
bad_of o next word s e = by_map o.priomap s e
  where
    by_map : (map : Option Bands) → BandsStand map next
        → option_and_then (λ (b : Bands). option_map (λ i. b.from + i) (position (λ n. nat_le (bands_of o) n) b.numbers)) map ≡ Some word
        → (1 ≤ word) × (word < next)
    by_map None s e = absurd (none_not_some word None refl e)
    by_map (Some b) s e = bad_within (λ n. nat_le (bands_of o) n) b next word s.0 s.1 e

pub late_within : (p : Position) (next word : ℕ) → Stands p next → late_fault p ≡ Some word → (1 ≤ word) × (word < next)
late_within (Positions.options v h kind_name.Prio o) next word s e = bad_of o next word s e
late_within (Positions.option_value x v h kind_name.Prio o) next word s e = bad_of o next word s e
late_within (Positions.priomap v h k o) next word s e = bad_of o next word s e
late_within Positions.first next word s e = absurd (none_not_some word None refl e)
late_within Positions.at next word s e = absurd (none_not_some word None refl e)
late_within Positions.pkt next word s e = absurd (none_not_some word None refl e)
late_within Positions.frame next word s e = absurd (none_not_some word None refl e)
late_within Positions.poll next word s e = absurd (none_not_some word None refl e)
late_within (Positions.frame_bytes len) next word s e = absurd (none_not_some word None refl e)
late_within (Positions.packet p) next word s e = absurd (none_not_some word None refl e)
late_within (Positions.packet_value f p) next word s e = absurd (none_not_some word None refl e)
late_within (Positions.tc c) next word s e = absurd (none_not_some word None refl e)
late_within (Positions.qdisc c) next word s e = absurd (none_not_some word None refl e)
late_within (Positions.class c) next word s e = absurd (none_not_some word None refl e)
late_within (Positions.filter c) next word s e = absurd (none_not_some word None refl e)
late_within (Positions.head v h) next word s e = absurd (none_not_some word None refl e)
late_within (Positions.head_value x v h) next word s e = absurd (none_not_some word None refl e)
late_within (Positions.quantum_of v h q) next word s e = absurd (none_not_some word None refl e)
late_within (Positions.quantum_value v h) next word s e = absurd (none_not_some word None refl e)
late_within (Positions.keys h k) next word s e = absurd (none_not_some word None refl e)
late_within (Positions.key_value f h k) next word s e = absurd (none_not_some word None refl e)
late_within (Positions.done v h) next word s e = absurd (none_not_some word None refl e)
late_within (Positions.show_line x c) next word s e = absurd (none_not_some word None refl e)
late_within (Positions.show_dev x) next word s e = absurd (none_not_some word None refl e)
late_within (Positions.whole l) next word s e = absurd (none_not_some word None refl e)
late_within (Positions.options v h kind_name.Pfifo o) next word s e = absurd (none_not_some word None refl e)
late_within (Positions.option_value x v h kind_name.Pfifo o) next word s e = absurd (none_not_some word None refl e)
late_within (Positions.options v h kind_name.Bfifo o) next word s e = absurd (none_not_some word None refl e)
late_within (Positions.option_value x v h kind_name.Bfifo o) next word s e = absurd (none_not_some word None refl e)
late_within (Positions.options v h kind_name.Tbf o) next word s e = absurd (none_not_some word None refl e)
late_within (Positions.option_value x v h kind_name.Tbf o) next word s e = absurd (none_not_some word None refl e)
late_within (Positions.options v h kind_name.Drr o) next word s e = absurd (none_not_some word None refl e)
late_within (Positions.option_value x v h kind_name.Drr o) next word s e = absurd (none_not_some word None refl e)
late_within (Positions.options v h kind_name.FqCodel o) next word s e = absurd (none_not_some word None refl e)
late_within (Positions.option_value x v h kind_name.FqCodel o) next word s e = absurd (none_not_some word None refl e)

-- A kind of qdisc that is written is read as itself, with the options that are given, in a line that adds or changes one.
use Rattle.std.proofs.Common.{◌≡◌, ℕ, Bool, true, false, List, [], ◌∷◌, ◌++◌, map, Option, Some, None, IfSome, Result, Ok, Err, option_map, refl, ap, arith, codes, lit<}
use Rattle.std.specs.Bool.{⊤}
use Rattle.std.specs.Fmt.{decimal}
use Rattle.q_fqcodel.specs.Ranges as ranges
use Rattle.q_words.specs.Units.{size_in, time_in}
use Rattle.q_words.specs.Values.{number_in}
use Rattle.q_words.specs.declared.wrong.Wrong.{Wrong}
use Rattle.q_model.specs.Numbers.{IsWithin, most_u32}
use Rattle.q_model.specs.Options.{FqOptions, IsFqCodelOptions}
use Rattle.q_model.specs.Ranges.{IsKind, IsTbf, IsTbfLimit}
use Rattle.q_model.specs.declared.command.Command.{Command}
use Rattle.q_model.specs.declared.kind.Kind.{Kind}
use Rattle.q_model.specs.declared.kind.Kind.TheVariants as kind
use Rattle.q_model.specs.declared.tbf_limit.TbfLimit.{TbfLimit}
use Rattle.q_model.specs.declared.tbf_limit.TbfLimit.TheVariants as tbf_limit
use Rattle.q_line.specs.Drafts.{of_qdisc, OptionDraft, no_options, qdisc_line}
use Rattle.q_line.specs.Grammar.{fits, longest, most, said, value}
use Rattle.q_line.specs.Positions
use Rattle.q_line.specs.Positions.{Position, behind_kind, head, options, option_value}
use Rattle.q_line.specs.Spelling.{bytes_word, ecn_words, fq_codel_words, given, kind_words, rate_word, tbf_limit_words, time_word}
use Rattle.q_line.specs.declared.head_draft.HeadDraft.{HeadDraft}
use Rattle.q_line.specs.declared.kind_name.KindName.{KindName}
use Rattle.q_line.specs.declared.kind_name.KindName.TheVariants as kind_name
use Rattle.q_line.specs.declared.line.Line.TheVariants.{Tc}
use Rattle.q_line.specs.declared.qdisc_verb.QdiscVerb.{QdiscVerb}
use Rattle.q_line.specs.declared.qdisc_verb.QdiscVerb.TheVariants as qdisc_verb
use Rattle.q_line.proofs.SpelledPrio.{prio_says}
use Rattle.q_line.proofs.SpelledSteps.{Path, Says, Word, chain, chain_says, ended_says, nowhere, number_reads, option, pair, unit_is_word, word}
use Rattle.q_line.proofs.SpelledTimes.{time_is_word, time_read, time_reads}
use Rattle.q_line.proofs.SpelledValues.{bytes_read, rate_read}

-- a line that adds or changes a qdisc
abbrev pub Makes : QdiscVerb → Type 0
Makes qdisc_verb.Del = ⊥
Makes _ = ⊤

kind_path : (v : QdiscVerb) (h : HeadDraft) (k : KindName) (w : List ℕ) → Makes v → Word w
    → ((i : ℕ) → fits i (head (of_qdisc v) h) w ≡ Ok (behind_kind v h k)) → Path (head (of_qdisc v) h) (options v h k no_options) (w ∷ [])
kind_path qdisc_verb.Add h k w m a f = word (head (of_qdisc qdisc_verb.Add) h) (options qdisc_verb.Add h k no_options) w a f
kind_path qdisc_verb.Change h k w m a f = word (head (of_qdisc qdisc_verb.Change) h) (options qdisc_verb.Change h k no_options) w a f
kind_path qdisc_verb.Del h k w m a f = absurd m

pub bytes_reads : (low : ℕ) (o : Option ℕ) → IfSome o (IsWithin low most) → IfSome o (λ n. Word (bytes_word n) × (size_in low most (bytes_word n) ≡ Ok n))
bytes_reads low None h = tt
bytes_reads low (Some n) h = let few = h.1 in (unit_is_word n (codes "b") (omega arith) refl refl, bytes_read low most n h.0 h.1 (lit< tt))

-- pfifo and bfifo
abbrev limited : Option ℕ → OptionDraft
limited limit = record no_options { limit = limit }

pfifo_says : (v : QdiscVerb) (h : HeadDraft) (limit : Option ℕ) (c : Command) → IfSome limit (IsWithin 0 most_u32) → qdisc_line v h (kind.Pfifo limit) ≡ Some c
    → Says (options v h kind_name.Pfifo no_options) (Tc c) (given (codes "limit") decimal limit)
pfifo_says v h limit c is made =
    ended_says (options v h kind_name.Pfifo no_options) (options v h kind_name.Pfifo (limited limit)) (Tc c) (given (codes "limit") decimal limit)
    (option (codes "limit") decimal (number_in 0 most) limit (λ l. options v h kind_name.Pfifo (limited l)) (option_value Positions.limit v h kind_name.Pfifo no_options) (refl, refl) (λ i. refl)
    (λ i a e. ap (λ r. value (elim r as (λ _. Result OptionDraft Wrong) [ Ok n ↦ Ok (limited (Some n)) | Err e ↦ Err e ]) (λ d. options v h kind_name.Pfifo d)) e)
    (number_reads 0 most limit (lit< tt) is))
    (λ i. ap (λ o. said (option_map Tc o) i) made)

bfifo_says : (v : QdiscVerb) (h : HeadDraft) (limit : Option ℕ) (c : Command) → IfSome limit (IsWithin 0 most_u32) → qdisc_line v h (kind.Bfifo limit) ≡ Some c
    → Says (options v h kind_name.Bfifo no_options) (Tc c) (given (codes "limit") bytes_word limit)
bfifo_says v h limit c is made =
    ended_says (options v h kind_name.Bfifo no_options) (options v h kind_name.Bfifo (limited limit)) (Tc c) (given (codes "limit") bytes_word limit)
    (option (codes "limit") bytes_word (size_in 0 most) limit (λ l. options v h kind_name.Bfifo (limited l)) (option_value Positions.limit v h kind_name.Bfifo no_options) (refl, refl) (λ i. refl)
    (λ i a e. ap (λ r. value (elim r as (λ _. Result OptionDraft Wrong) [ Ok n ↦ Ok (limited (Some n)) | Err e ↦ Err e ]) (λ d. options v h kind_name.Bfifo d)) e)
    (bytes_reads 0 limit is))
    (λ i. ap (λ o. said (option_map Tc o) i) made)

-- tbf
abbrev rated : ℕ → OptionDraft
rated r = record no_options { rate = Some r }

abbrev filled : ℕ → ℕ → OptionDraft
filled r b = record (rated r) { burst = Some b }

abbrev bounded : ℕ → ℕ → TbfLimit → OptionDraft
bounded r b l = record (filled r b) { tbf_limit = Some l }

abbrev at_tbf : QdiscVerb → HeadDraft → OptionDraft → Position
at_tbf v h o = options v h kind_name.Tbf o

tbf_limit_path : (v : QdiscVerb) (h : HeadDraft) (r b : ℕ) (l : TbfLimit) → IsTbfLimit l → Path (at_tbf v h (filled r b)) (at_tbf v h (bounded r b l)) (tbf_limit_words l)
tbf_limit_path v h r b (tbf_limit.Bytes n) few =
    pair (at_tbf v h (filled r b)) (option_value Positions.limit v h kind_name.Tbf (filled r b)) (at_tbf v h (bounded r b (tbf_limit.Bytes n))) (codes "limit") (bytes_word n) (refl, refl)
    (unit_is_word n (codes "b") (omega arith) refl refl) (λ i. refl)
    (λ i. ap (λ a. value (elim a as (λ _. Result OptionDraft Wrong) [ Ok n ↦ Ok (bounded r b (tbf_limit.Bytes n)) | Err e ↦ Err e ])
    (λ d. at_tbf v h d)) (bytes_read 0 most n (omega arith) few (lit< tt)))
tbf_limit_path v h r b (tbf_limit.Latency ns) few =
    pair (at_tbf v h (filled r b)) (option_value Positions.latency v h kind_name.Tbf (filled r b)) (at_tbf v h (bounded r b (tbf_limit.Latency ns))) (codes "latency") (time_word ns) (refl, refl)
    (time_is_word ns (omega arith)) (λ i. refl)
    (λ i. ap (λ a. value a (λ n. at_tbf v h (bounded r b (tbf_limit.Latency n)))) (time_read 0 longest ns (omega arith) few (lit< tt)))

tbf_says : (v : QdiscVerb) (h : HeadDraft) (r b : ℕ) (l : TbfLimit) (c : Command) → IsTbf r b l → qdisc_line v h (kind.Tbf r b l) ≡ Some c
    → Says (at_tbf v h no_options) (Tc c) (codes "rate" ∷ rate_word r ∷ codes "burst" ∷ bytes_word b ∷ tbf_limit_words l)
tbf_says v h r b l c is made =
    let rate_high = is.bits.1 in
    let burst_high = is.bytes.1 in
    let burst_words = codes "burst" ∷ bytes_word b ∷ [] in
    ended_says (at_tbf v h no_options) (at_tbf v h (bounded r b l)) (Tc c) (codes "rate" ∷ rate_word r ∷ codes "burst" ∷ bytes_word b ∷ tbf_limit_words l)
    (chain (at_tbf v h no_options) (at_tbf v h (rated r)) (at_tbf v h (bounded r b l)) (codes "rate" ∷ rate_word r ∷ []) (burst_words ++ tbf_limit_words l)
    (pair (at_tbf v h no_options) (option_value Positions.rate v h kind_name.Tbf no_options) (at_tbf v h (rated r)) (codes "rate") (rate_word r) (refl, refl)
    (unit_is_word r (codes "bit") (omega arith) refl refl) (λ i. refl) (λ i. ap (λ a. value a (λ n. at_tbf v h (rated n))) (rate_read r is.bits.0 rate_high)))
    (chain (at_tbf v h (rated r)) (at_tbf v h (filled r b)) (at_tbf v h (bounded r b l)) burst_words (tbf_limit_words l)
    (pair (at_tbf v h (rated r)) (option_value Positions.burst v h kind_name.Tbf (rated r)) (at_tbf v h (filled r b)) (codes "burst") (bytes_word b) (refl, refl)
    (unit_is_word b (codes "b") (omega arith) refl refl) (λ i. refl) (λ i. ap (λ a. value a (λ n. at_tbf v h (filled r n))) (bytes_read 1 most b is.bytes.0 burst_high (lit< tt))))
    (tbf_limit_path v h r b l is.most)))
    (λ i. ap (λ o. said (option_map Tc o) i) made)

-- fq_codel: its options so far
abbrev fair : QdiscVerb → HeadDraft → Option ℕ → Option ℕ → Option ℕ → Option ℕ → Option ℕ → Option Bool → Option ℕ → Position
fair v h limit flows quantum target interval ecn batch =
    options v h kind_name.FqCodel (record no_options { fq_codel = record { limit = limit; flows = flows; quantum = quantum; target = target; interval = interval; ecn = ecn; drop_batch = batch } })

abbrev fair_draft : Option ℕ → Option ℕ → Option ℕ → Option ℕ → Option ℕ → Option Bool → Option ℕ → OptionDraft
fair_draft limit flows quantum target interval ecn batch =
    record no_options { fq_codel = record { limit = limit; flows = flows; quantum = quantum; target = target; interval = interval; ecn = ecn; drop_batch = batch } }

ecn_path : (v : QdiscVerb) (h : HeadDraft) (l f q t i : Option ℕ) (e : Option Bool) → Path (fair v h l f q t i None None) (fair v h l f q t i e None) (ecn_words e)
ecn_path v h l f q t i None = nowhere (fair v h l f q t i None None)
ecn_path v h l f q t i (Some true) = word (fair v h l f q t i None None) (fair v h l f q t i (Some true) None) (codes "ecn") (refl, refl) (λ n. refl)
ecn_path v h l f q t i (Some false) = word (fair v h l f q t i None None) (fair v h l f q t i (Some false) None) (codes "noecn") (refl, refl) (λ n. refl)

fq_codel_path : (v : QdiscVerb) (h : HeadDraft) (o : FqOptions) → IsFqCodelOptions o
    → Path (options v h kind_name.FqCodel no_options) (fair v h o.limit o.flows o.quantum o.target o.interval o.ecn o.drop_batch) (fq_codel_words o)
fq_codel_path v h o is =
    let l = o.limit in
    let f = o.flows in
    let q = o.quantum in
    let t = o.target in
    let i = o.interval in
    let p0 = fair v h None None None None None None None in
    let p1 = fair v h l None None None None None None in
    let p2 = fair v h l f None None None None None in
    let p3 = fair v h l f q None None None None in
    let p4 = fair v h l f q t None None None in
    let p5 = fair v h l f q t i None None in
    let p6 = fair v h l f q t i o.ecn None in
    let p7 = fair v h l f q t i o.ecn o.drop_batch in
    let w7 = given (codes "drop_batch") decimal o.drop_batch in
    let w6 = ecn_words o.ecn ++ w7 in
    let w5 = given (codes "interval") time_word i ++ w6 in
    let w4 = given (codes "target") time_word t ++ w5 in
    let w3 = given (codes "quantum") bytes_word q ++ w4 in
    let w2 = given (codes "flows") decimal f ++ w3 in
    chain p0 p1 p7 (given (codes "limit") decimal l) w2
    (option (codes "limit") decimal (number_in 1 most) l (λ x. fair v h x None None None None None None) (option_value Positions.limit v h kind_name.FqCodel no_options) (refl, refl) (λ n. refl)
    (λ n a e. ap (λ r. value (elim r as (λ _. Result OptionDraft Wrong) [ Ok m ↦ Ok (fair_draft (Some m) None None None None None None) | Err e ↦ Err e ]) (λ d. options v h kind_name.FqCodel d)) e)
    (number_reads 1 most l (lit< tt) is.limit))
    (chain p1 p2 p7 (given (codes "flows") decimal f) w3
    (option (codes "flows") decimal (number_in 1 ranges.most_flows) f (λ x. fair v h l x None None None None None) (option_value Positions.flows v h kind_name.FqCodel (fair_draft l None None None None None None)) (refl, refl) (λ n. refl)
    (λ n a e. ap (λ r. value r (λ m. fair v h l (Some m) None None None None None)) e)
    (number_reads 1 ranges.most_flows f (lit< tt) is.flows))
    (chain p2 p3 p7 (given (codes "quantum") bytes_word q) w4
    (option (codes "quantum") bytes_word (size_in 1 most) q (λ x. fair v h l f x None None None None) (option_value Positions.quantum v h kind_name.FqCodel (fair_draft l f None None None None None)) (refl, refl) (λ n. refl)
    (λ n a e. ap (λ r. value r (λ m. fair v h l f (Some m) None None None None)) e)
    (bytes_reads 1 q is.quantum))
    (chain p3 p4 p7 (given (codes "target") time_word t) w5
    (option (codes "target") time_word (time_in 0 ranges.longest) t (λ x. fair v h l f q x None None None) (option_value Positions.target v h kind_name.FqCodel (fair_draft l f q None None None None)) (refl, refl) (λ n. refl)
    (λ n a e. ap (λ r. value r (λ m. fair v h l f q (Some m) None None None)) e)
    (time_reads 0 ranges.longest t (lit< tt) is.target))
    (chain p4 p5 p7 (given (codes "interval") time_word i) w6
    (option (codes "interval") time_word (time_in ranges.shortest_interval ranges.longest) i (λ x. fair v h l f q t x None None) (option_value Positions.interval v h kind_name.FqCodel (fair_draft l f q t None None None)) (refl, refl) (λ n. refl)
    (λ n a e. ap (λ r. value r (λ m. fair v h l f q t (Some m) None None)) e)
    (time_reads ranges.shortest_interval ranges.longest i (lit< tt) is.interval))
    (chain p5 p6 p7 (ecn_words o.ecn) w7 (ecn_path v h l f q t i o.ecn)
    (option (codes "drop_batch") decimal (number_in 1 ranges.most_batch) o.drop_batch (λ x. fair v h l f q t i o.ecn x) (option_value Positions.drop_batch v h kind_name.FqCodel (fair_draft l f q t i o.ecn None)) (refl, refl) (λ n. refl)
    (λ n a e. ap (λ r. value r (λ m. fair v h l f q t i o.ecn (Some m))) e)
    (number_reads 1 ranges.most_batch o.drop_batch (lit< tt) is.drop_batch)))))))

fq_codel_says : (v : QdiscVerb) (h : HeadDraft) (o : FqOptions) (c : Command) → IsFqCodelOptions o → qdisc_line v h (kind.FqCodel o) ≡ Some c
    → Says (options v h kind_name.FqCodel no_options) (Tc c) (fq_codel_words o)
fq_codel_says v h o c is made =
    ended_says (options v h kind_name.FqCodel no_options) (fair v h o.limit o.flows o.quantum o.target o.interval o.ecn o.drop_batch) (Tc c) (fq_codel_words o)
    (fq_codel_path v h o is) (λ i. ap (λ x. said (option_map Tc x) i) made)

-- a line that ends with a kind
pub kind_says : (v : QdiscVerb) (h : HeadDraft) (k : Kind) (c : Command) → Makes v → IsKind k → qdisc_line v h k ≡ Some c → Says (head (of_qdisc v) h) (Tc c) (kind_words k)
kind_says v h (kind.Pfifo limit) c m is made =
    chain_says (head (of_qdisc v) h) (options v h kind_name.Pfifo no_options) (Tc c) (codes "pfifo" ∷ []) (given (codes "limit") decimal limit)
    (kind_path v h kind_name.Pfifo (codes "pfifo") m (refl, refl) (λ i. refl)) (pfifo_says v h limit c is made)
kind_says v h (kind.Bfifo limit) c m is made =
    chain_says (head (of_qdisc v) h) (options v h kind_name.Bfifo no_options) (Tc c) (codes "bfifo" ∷ []) (given (codes "limit") bytes_word limit)
    (kind_path v h kind_name.Bfifo (codes "bfifo") m (refl, refl) (λ i. refl)) (bfifo_says v h limit c is made)
kind_says v h (kind.Prio s) c m is made =
    chain_says (head (of_qdisc v) h) (options v h kind_name.Prio no_options) (Tc c) (codes "prio" ∷ []) (codes "bands" ∷ decimal s.bands ∷ codes "priomap" ∷ map decimal s.priomap)
    (kind_path v h kind_name.Prio (codes "prio") m (refl, refl) (λ i. refl)) (prio_says v h s c is made)
kind_says v h (kind.Tbf r b l) c m is made =
    chain_says (head (of_qdisc v) h) (options v h kind_name.Tbf no_options) (Tc c) (codes "tbf" ∷ []) (codes "rate" ∷ rate_word r ∷ codes "burst" ∷ bytes_word b ∷ tbf_limit_words l)
    (kind_path v h kind_name.Tbf (codes "tbf") m (refl, refl) (λ i. refl)) (tbf_says v h r b l c is made)
kind_says v h kind.Drr c m is made =
    ended_says (head (of_qdisc v) h) (options v h kind_name.Drr no_options) (Tc c) (codes "drr" ∷ [])
    (kind_path v h kind_name.Drr (codes "drr") m (refl, refl) (λ i. refl)) (λ i. ap (λ o. said (option_map Tc o) i) made)
kind_says v h (kind.FqCodel o) c m is made =
    chain_says (head (of_qdisc v) h) (options v h kind_name.FqCodel no_options) (Tc c) (codes "fq_codel" ∷ []) (fq_codel_words o)
    (kind_path v h kind_name.FqCodel (codes "fq_codel") m (refl, refl) (λ i. refl)) (fq_codel_says v h o c is made)

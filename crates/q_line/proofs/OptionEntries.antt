-- The options of a kind as entries of a table: what of a draft each of them says, and that two that say different things say the
-- same in either order.
use Rattle.std.proofs.Common.{◌≡◌, ◌∙◌, ℕ, ◌||◌, Bool, true, false, not, List, [], ◌∷◌, map, Option, Some, None, is_some, Result, Ok, Err, refl, sym, ap, codes, if◌then◌else◌}
use Rattle.std.specs.Option.{option_or}
use Rattle.std.specs.Str.{bytes_eq}
use Rattle.q_fqcodel.specs.Ranges as ranges
use Rattle.q_model.specs.declared.tbf_limit.TbfLimit.TheVariants as tbf_limit
use Rattle.q_words.specs.Units.{rate_in, size_in, time_in}
use Rattle.q_words.specs.Values.{number_in}
use Rattle.q_words.specs.declared.wrong.Wrong.{Wrong}
use Rattle.q_words.specs.declared.wrong.Wrong.TheVariants as wrong
use Rattle.q_line.specs.Drafts.{Bands, OptionDraft, no_options}
use Rattle.q_line.specs.Grammar.{longest, most, option_fits, row_of, value}
use Rattle.q_line.specs.Positions
use Rattle.q_line.specs.Positions.{OptionValue, Position, Row, once, option_rows}
use Rattle.q_line.specs.declared.head_draft.HeadDraft.{HeadDraft}
use Rattle.q_line.specs.declared.kind_name.KindName.{KindName}
use Rattle.q_line.specs.declared.kind_name.KindName.TheVariants as kind_name
use Rattle.q_line.specs.declared.qdisc_verb.QdiscVerb.{QdiscVerb}

-- an option with a value, `ecn` or `noecn`, and a priomap
pub data Entry : Type 0 where
  valued : OptionValue → Entry
  flag : Bool → Entry
  numbers : Entry

abbrev pub entries : KindName → List (List ℕ × Entry)
entries kind_name.Pfifo = (codes "limit", valued Positions.limit) ∷ []
entries kind_name.Bfifo = (codes "limit", valued Positions.limit) ∷ []
entries kind_name.Prio = (codes "bands", valued Positions.bands) ∷ (codes "priomap", numbers) ∷ []
entries kind_name.Tbf =
    (codes "rate", valued Positions.rate) ∷ (codes "burst", valued Positions.burst) ∷ (codes "buffer", valued Positions.burst)
    ∷ (codes "maxburst", valued Positions.burst) ∷ (codes "limit", valued Positions.limit) ∷ (codes "latency", valued Positions.latency) ∷ []
entries kind_name.Drr = []
entries kind_name.FqCodel =
    (codes "limit", valued Positions.limit) ∷ (codes "flows", valued Positions.flows) ∷ (codes "quantum", valued Positions.quantum)
    ∷ (codes "target", valued Positions.target) ∷ (codes "interval", valued Positions.interval) ∷ (codes "drop_batch", valued Positions.drop_batch)
    ∷ (codes "ecn", flag true) ∷ (codes "noecn", flag false) ∷ []

-- whether it is given
abbrev pub has : Entry → KindName → OptionDraft → Bool
has (valued Positions.limit) kind_name.Pfifo o = is_some o.limit
has (valued Positions.limit) kind_name.Bfifo o = is_some o.limit
has (valued Positions.limit) kind_name.Prio o = false
has (valued Positions.limit) kind_name.Tbf o = is_some o.tbf_limit
has (valued Positions.limit) kind_name.Drr o = false
has (valued Positions.limit) kind_name.FqCodel o = is_some o.fq_codel.limit
has (valued Positions.latency) k o = is_some o.tbf_limit
has (valued Positions.bands) k o = is_some o.bands
has (valued Positions.rate) k o = is_some o.rate
has (valued Positions.burst) k o = is_some o.burst
has (valued Positions.flows) k o = is_some o.fq_codel.flows
has (valued Positions.quantum) k o = is_some o.fq_codel.quantum
has (valued Positions.target) k o = is_some o.fq_codel.target
has (valued Positions.interval) k o = is_some o.fq_codel.interval
has (valued Positions.drop_batch) k o = is_some o.fq_codel.drop_batch
has (flag b) k o = is_some o.fq_codel.ecn
has numbers k o = is_some o.priomap

-- the position behind its name
abbrev pub behind : Entry → QdiscVerb → HeadDraft → KindName → OptionDraft → Position
behind (valued x) v h k o = Positions.option_value x v h k o
behind (flag b) v h k o = Positions.options v h k (record o { fq_codel = record o.fq_codel { ecn = Some b } })
behind numbers v h k o = Positions.priomap v h k o

abbrev row : QdiscVerb → HeadDraft → KindName → OptionDraft → List ℕ × Entry → Row
row v h k o e = (e.0, once (has e.1 k o) (behind e.1 v h k o))

rows_are : (v : QdiscVerb) (h : HeadDraft) (k : KindName) (o : OptionDraft) → option_rows v h k o ≡ map (row v h k o) (entries k)
rows_are v h kind_name.Pfifo o = refl
rows_are v h kind_name.Bfifo o = refl
rows_are v h kind_name.Prio o = refl
rows_are v h kind_name.Tbf o = refl
rows_are v h kind_name.Drr o = refl
rows_are v h kind_name.FqCodel o = refl

-- the entry of a word
abbrev pub entry_in : {A : Type 0} → List (List ℕ × A) → List ℕ → Option A
entry_in [] word = None
entry_in (e ∷ es) word = if bytes_eq word e.0 then Some e.1 else entry_in es word

abbrev pub entered : QdiscVerb → HeadDraft → KindName → OptionDraft → Option Entry → Result Position Wrong
entered v h k o None = Err wrong.UnknownWord
entered v h k o (Some e) = once (has e k o) (behind e v h k o)

found_in : (v : QdiscVerb) (h : HeadDraft) (k : KindName) (o : OptionDraft) (es : List (List ℕ × Entry)) (word : List ℕ)
    → row_of (map (row v h k o) es) word ≡ entered v h k o (entry_in es word)
found_in v h k o [] word = refl
found_in v h k o (e ∷ es) word = by_test (found_in v h k o es word) (bytes_eq word e.0)
  where
    by_test : row_of (map (row v h k o) es) word ≡ entered v h k o (entry_in es word) → (b : Bool) → (if b then once (has e.1 k o) (behind e.1 v h k o) else row_of (map (row v h k o) es) word)
        ≡ entered v h k o (if b then Some e.1 else entry_in es word)
    by_test more true = refl
    by_test more false = more

pub found : (v : QdiscVerb) (h : HeadDraft) (k : KindName) (o : OptionDraft) (word : List ℕ)
    → row_of (option_rows v h k o) word ≡ entered v h k o (entry_in (entries k) word)
found v h k o word = ap (λ rows. row_of rows word) (rows_are v h k o) ∙ found_in v h k o (entries k) word

-- what it says: a number, or the numbers of a priomap
pub record Value : Type 0 where
  pub number : ℕ
  pub bands : Bands

abbrev pub says : Entry → KindName → Value → OptionDraft
says (valued Positions.limit) kind_name.Pfifo val = record no_options { limit = Some (val.number) }
says (valued Positions.limit) kind_name.Bfifo val = record no_options { limit = Some (val.number) }
says (valued Positions.limit) kind_name.Prio val = no_options
says (valued Positions.limit) kind_name.Tbf val = record no_options { tbf_limit = Some (tbf_limit.Bytes val.number) }
says (valued Positions.limit) kind_name.Drr val = no_options
says (valued Positions.limit) kind_name.FqCodel val = record no_options { fq_codel = record no_options.fq_codel { limit = Some (val.number) } }
says (valued Positions.latency) k val = record no_options { tbf_limit = Some (tbf_limit.Latency val.number) }
says (valued Positions.bands) k val = record no_options { bands = Some (val.number) }
says (valued Positions.rate) k val = record no_options { rate = Some (val.number) }
says (valued Positions.burst) k val = record no_options { burst = Some (val.number) }
says (valued Positions.flows) k val = record no_options { fq_codel = record no_options.fq_codel { flows = Some (val.number) } }
says (valued Positions.quantum) k val = record no_options { fq_codel = record no_options.fq_codel { quantum = Some (val.number) } }
says (valued Positions.target) k val = record no_options { fq_codel = record no_options.fq_codel { target = Some (val.number) } }
says (valued Positions.interval) k val = record no_options { fq_codel = record no_options.fq_codel { interval = Some (val.number) } }
says (valued Positions.drop_batch) k val = record no_options { fq_codel = record no_options.fq_codel { drop_batch = Some (val.number) } }
says (flag b) k val = record no_options { fq_codel = record no_options.fq_codel { ecn = Some (b) } }
says numbers k val = record no_options { priomap = Some val.bands }

-- a draft with all that another says
abbrev pub over : OptionDraft → OptionDraft → OptionDraft
over d o = record {
  limit = option_or d.limit o.limit;
  tbf_limit = option_or d.tbf_limit o.tbf_limit;
  bands = option_or d.bands o.bands;
  priomap = option_or d.priomap o.priomap;
  rate = option_or d.rate o.rate;
  burst = option_or d.burst o.burst;
  fq_codel = record {
    limit = option_or d.fq_codel.limit o.fq_codel.limit;
    flows = option_or d.fq_codel.flows o.fq_codel.flows;
    quantum = option_or d.fq_codel.quantum o.fq_codel.quantum;
    target = option_or d.fq_codel.target o.fq_codel.target;
    interval = option_or d.fq_codel.interval o.fq_codel.interval;
    ecn = option_or d.fq_codel.ecn o.fq_codel.ecn;
    drop_batch = option_or d.fq_codel.drop_batch o.fq_codel.drop_batch;
  };
}

-- the value of an option is read, and is what the draft then has more
abbrev pub reading : OptionValue → KindName → List ℕ → Result ℕ Wrong
reading Positions.limit kind_name.Pfifo word = number_in 0 most word
reading Positions.limit kind_name.Bfifo word = size_in 0 most word
reading Positions.limit kind_name.Prio word = Err wrong.UnknownWord
reading Positions.limit kind_name.Tbf word = size_in 0 most word
reading Positions.limit kind_name.Drr word = Err wrong.UnknownWord
reading Positions.limit kind_name.FqCodel word = number_in 1 most word
reading Positions.latency k word = time_in 0 longest word
reading Positions.bands k word = number_in 2 16 word
reading Positions.rate k word = rate_in word
reading Positions.burst k word = size_in 1 most word
reading Positions.flows k word = number_in 1 ranges.most_flows word
reading Positions.quantum k word = size_in 1 most word
reading Positions.target k word = time_in 0 ranges.longest word
reading Positions.interval k word = time_in ranges.shortest_interval ranges.longest word
reading Positions.drop_batch k word = number_in 1 ranges.most_batch word

abbrev pub number : ℕ → Value
number n = record { number = n; bands = record { from = 0; numbers = [] } }

abbrev leads_to : OptionValue → QdiscVerb → HeadDraft → KindName → OptionDraft → ℕ → Position
leads_to x v h k o n = Positions.options v h k (over (says (valued x) k (number n)) o)

-- a limit is read into a draft first
drafted : (r : Result ℕ Wrong) (g : ℕ → OptionDraft) (f : OptionDraft → Position)
    → value (elim r as (λ _. Result OptionDraft Wrong) [ Ok n ↦ Ok (g n) | Err e ↦ Err e ]) f ≡ value r (λ n. f (g n))
drafted (Ok n) g f = refl
drafted (Err e) g f = refl

pub option_fits_as : (x : OptionValue) (v : QdiscVerb) (h : HeadDraft) (k : KindName) (o : OptionDraft) (word : List ℕ)
    → option_fits x v h k o word ≡ value (reading x k word) (leads_to x v h k o)
option_fits_as Positions.limit v h kind_name.Pfifo o word = drafted (number_in 0 most word) (λ n. record o { limit = Some (n) }) (λ d. Positions.options v h kind_name.Pfifo d)
option_fits_as Positions.limit v h kind_name.Bfifo o word = drafted (size_in 0 most word) (λ n. record o { limit = Some (n) }) (λ d. Positions.options v h kind_name.Bfifo d)
option_fits_as Positions.limit v h kind_name.Prio o word = refl
option_fits_as Positions.limit v h kind_name.Tbf o word = drafted (size_in 0 most word) (λ n. record o { tbf_limit = Some (tbf_limit.Bytes n) }) (λ d. Positions.options v h kind_name.Tbf d)
option_fits_as Positions.limit v h kind_name.Drr o word = refl
option_fits_as Positions.limit v h kind_name.FqCodel o word =
    drafted (number_in 1 most word) (λ n. record o { fq_codel = record o.fq_codel { limit = Some (n) } })
    (λ d. Positions.options v h kind_name.FqCodel d)
option_fits_as Positions.latency v h k o word = refl
option_fits_as Positions.bands v h k o word = refl
option_fits_as Positions.rate v h k o word = refl
option_fits_as Positions.burst v h k o word = refl
option_fits_as Positions.flows v h k o word = refl
option_fits_as Positions.quantum v h k o word = refl
option_fits_as Positions.target v h k o word = refl
option_fits_as Positions.interval v h k o word = refl
option_fits_as Positions.drop_batch v h k o word = refl

-- what is given stays, and nothing else is given but what is said
pub either : {A : Type 0} (a b : Option A) → is_some (option_or a b) ≡ (is_some a || is_some b)
either None b = refl
either (Some a) b = refl

pub has_over : (e : Entry) (k : KindName) (d o : OptionDraft) → has e k (over d o) ≡ (has e k d || has e k o)
has_over (valued Positions.limit) kind_name.Pfifo d o = either d.limit o.limit
has_over (valued Positions.limit) kind_name.Bfifo d o = either d.limit o.limit
has_over (valued Positions.limit) kind_name.Prio d o = refl
has_over (valued Positions.limit) kind_name.Tbf d o = either d.tbf_limit o.tbf_limit
has_over (valued Positions.limit) kind_name.Drr d o = refl
has_over (valued Positions.limit) kind_name.FqCodel d o = either d.fq_codel.limit o.fq_codel.limit
has_over (valued Positions.latency) k d o = either d.tbf_limit o.tbf_limit
has_over (valued Positions.bands) k d o = either d.bands o.bands
has_over (valued Positions.rate) k d o = either d.rate o.rate
has_over (valued Positions.burst) k d o = either d.burst o.burst
has_over (valued Positions.flows) k d o = either d.fq_codel.flows o.fq_codel.flows
has_over (valued Positions.quantum) k d o = either d.fq_codel.quantum o.fq_codel.quantum
has_over (valued Positions.target) k d o = either d.fq_codel.target o.fq_codel.target
has_over (valued Positions.interval) k d o = either d.fq_codel.interval o.fq_codel.interval
has_over (valued Positions.drop_batch) k d o = either d.fq_codel.drop_batch o.fq_codel.drop_batch
has_over (flag b) k d o = either d.fq_codel.ecn o.fq_codel.ecn
has_over numbers k d o = either d.priomap o.priomap

-- two drafts of which none has what the other has
abbrev pub apart : {A : Type 0} → Option A → Option A → Bool
apart a None = true
apart a (Some b) = not (is_some a)

pub record Apart (d o : OptionDraft) : Type 0 where
  limit : apart d.limit o.limit ≡ true
  tbf_limit : apart d.tbf_limit o.tbf_limit ≡ true
  bands : apart d.bands o.bands ≡ true
  priomap : apart d.priomap o.priomap ≡ true
  rate : apart d.rate o.rate ≡ true
  burst : apart d.burst o.burst ≡ true
  fq_limit : apart d.fq_codel.limit o.fq_codel.limit ≡ true
  fq_flows : apart d.fq_codel.flows o.fq_codel.flows ≡ true
  fq_quantum : apart d.fq_codel.quantum o.fq_codel.quantum ≡ true
  fq_target : apart d.fq_codel.target o.fq_codel.target ≡ true
  fq_interval : apart d.fq_codel.interval o.fq_codel.interval ≡ true
  fq_ecn : apart d.fq_codel.ecn o.fq_codel.ecn ≡ true
  fq_drop_batch : apart d.fq_codel.drop_batch o.fq_codel.drop_batch ≡ true

pub says_apart : (e : Entry) (k : KindName) (val : Value) (d : OptionDraft) → has e k d ≡ false → Apart d (says e k val)
says_apart (valued Positions.limit) kind_name.Pfifo val d h = record { limit = ap not h; tbf_limit = refl; bands = refl; priomap = refl; rate = refl; burst = refl; fq_limit = refl; fq_flows = refl; fq_quantum = refl; fq_target = refl; fq_interval = refl; fq_ecn = refl; fq_drop_batch = refl }
says_apart (valued Positions.limit) kind_name.Bfifo val d h = record { limit = ap not h; tbf_limit = refl; bands = refl; priomap = refl; rate = refl; burst = refl; fq_limit = refl; fq_flows = refl; fq_quantum = refl; fq_target = refl; fq_interval = refl; fq_ecn = refl; fq_drop_batch = refl }
says_apart (valued Positions.limit) kind_name.Prio val d h = record { limit = refl; tbf_limit = refl; bands = refl; priomap = refl; rate = refl; burst = refl; fq_limit = refl; fq_flows = refl; fq_quantum = refl; fq_target = refl; fq_interval = refl; fq_ecn = refl; fq_drop_batch = refl }
says_apart (valued Positions.limit) kind_name.Tbf val d h = record { limit = refl; tbf_limit = ap not h; bands = refl; priomap = refl; rate = refl; burst = refl; fq_limit = refl; fq_flows = refl; fq_quantum = refl; fq_target = refl; fq_interval = refl; fq_ecn = refl; fq_drop_batch = refl }
says_apart (valued Positions.limit) kind_name.Drr val d h = record { limit = refl; tbf_limit = refl; bands = refl; priomap = refl; rate = refl; burst = refl; fq_limit = refl; fq_flows = refl; fq_quantum = refl; fq_target = refl; fq_interval = refl; fq_ecn = refl; fq_drop_batch = refl }
says_apart (valued Positions.limit) kind_name.FqCodel val d h = record { limit = refl; tbf_limit = refl; bands = refl; priomap = refl; rate = refl; burst = refl; fq_limit = ap not h; fq_flows = refl; fq_quantum = refl; fq_target = refl; fq_interval = refl; fq_ecn = refl; fq_drop_batch = refl }
says_apart (valued Positions.latency) k val d h = record { limit = refl; tbf_limit = ap not h; bands = refl; priomap = refl; rate = refl; burst = refl; fq_limit = refl; fq_flows = refl; fq_quantum = refl; fq_target = refl; fq_interval = refl; fq_ecn = refl; fq_drop_batch = refl }
says_apart (valued Positions.bands) k val d h = record { limit = refl; tbf_limit = refl; bands = ap not h; priomap = refl; rate = refl; burst = refl; fq_limit = refl; fq_flows = refl; fq_quantum = refl; fq_target = refl; fq_interval = refl; fq_ecn = refl; fq_drop_batch = refl }
says_apart (valued Positions.rate) k val d h = record { limit = refl; tbf_limit = refl; bands = refl; priomap = refl; rate = ap not h; burst = refl; fq_limit = refl; fq_flows = refl; fq_quantum = refl; fq_target = refl; fq_interval = refl; fq_ecn = refl; fq_drop_batch = refl }
says_apart (valued Positions.burst) k val d h = record { limit = refl; tbf_limit = refl; bands = refl; priomap = refl; rate = refl; burst = ap not h; fq_limit = refl; fq_flows = refl; fq_quantum = refl; fq_target = refl; fq_interval = refl; fq_ecn = refl; fq_drop_batch = refl }
says_apart (valued Positions.flows) k val d h = record { limit = refl; tbf_limit = refl; bands = refl; priomap = refl; rate = refl; burst = refl; fq_limit = refl; fq_flows = ap not h; fq_quantum = refl; fq_target = refl; fq_interval = refl; fq_ecn = refl; fq_drop_batch = refl }
says_apart (valued Positions.quantum) k val d h = record { limit = refl; tbf_limit = refl; bands = refl; priomap = refl; rate = refl; burst = refl; fq_limit = refl; fq_flows = refl; fq_quantum = ap not h; fq_target = refl; fq_interval = refl; fq_ecn = refl; fq_drop_batch = refl }
says_apart (valued Positions.target) k val d h = record { limit = refl; tbf_limit = refl; bands = refl; priomap = refl; rate = refl; burst = refl; fq_limit = refl; fq_flows = refl; fq_quantum = refl; fq_target = ap not h; fq_interval = refl; fq_ecn = refl; fq_drop_batch = refl }
says_apart (valued Positions.interval) k val d h = record { limit = refl; tbf_limit = refl; bands = refl; priomap = refl; rate = refl; burst = refl; fq_limit = refl; fq_flows = refl; fq_quantum = refl; fq_target = refl; fq_interval = ap not h; fq_ecn = refl; fq_drop_batch = refl }
says_apart (valued Positions.drop_batch) k val d h = record { limit = refl; tbf_limit = refl; bands = refl; priomap = refl; rate = refl; burst = refl; fq_limit = refl; fq_flows = refl; fq_quantum = refl; fq_target = refl; fq_interval = refl; fq_ecn = refl; fq_drop_batch = ap not h }
says_apart (flag b) k val d h = record { limit = refl; tbf_limit = refl; bands = refl; priomap = refl; rate = refl; burst = refl; fq_limit = refl; fq_flows = refl; fq_quantum = refl; fq_target = refl; fq_interval = refl; fq_ecn = ap not h; fq_drop_batch = refl }
says_apart numbers k val d h = record { limit = refl; tbf_limit = refl; bands = refl; priomap = ap not h; rate = refl; burst = refl; fq_limit = refl; fq_flows = refl; fq_quantum = refl; fq_target = refl; fq_interval = refl; fq_ecn = refl; fq_drop_batch = refl }

pub not_given : {A : Type 0} (a : A) (b : Option A) → apart (Some a) b ≡ true → is_some b ≡ false
not_given a None h = refl
not_given a (Some b) h = sym h

pub said_apart : (e : Entry) (k : KindName) (val : Value) (d : OptionDraft) → Apart (says e k val) d → has e k d ≡ false
said_apart (valued Positions.limit) kind_name.Pfifo val d h = not_given (val.number) d.limit h.limit
said_apart (valued Positions.limit) kind_name.Bfifo val d h = not_given (val.number) d.limit h.limit
said_apart (valued Positions.limit) kind_name.Prio val d h = refl
said_apart (valued Positions.limit) kind_name.Tbf val d h = not_given (tbf_limit.Bytes val.number) d.tbf_limit h.tbf_limit
said_apart (valued Positions.limit) kind_name.Drr val d h = refl
said_apart (valued Positions.limit) kind_name.FqCodel val d h = not_given (val.number) d.fq_codel.limit h.fq_limit
said_apart (valued Positions.latency) k val d h = not_given (tbf_limit.Latency val.number) d.tbf_limit h.tbf_limit
said_apart (valued Positions.bands) k val d h = not_given (val.number) d.bands h.bands
said_apart (valued Positions.rate) k val d h = not_given (val.number) d.rate h.rate
said_apart (valued Positions.burst) k val d h = not_given (val.number) d.burst h.burst
said_apart (valued Positions.flows) k val d h = not_given (val.number) d.fq_codel.flows h.fq_flows
said_apart (valued Positions.quantum) k val d h = not_given (val.number) d.fq_codel.quantum h.fq_quantum
said_apart (valued Positions.target) k val d h = not_given (val.number) d.fq_codel.target h.fq_target
said_apart (valued Positions.interval) k val d h = not_given (val.number) d.fq_codel.interval h.fq_interval
said_apart (valued Positions.drop_batch) k val d h = not_given (val.number) d.fq_codel.drop_batch h.fq_drop_batch
said_apart (flag b) k val d h = not_given (b) d.fq_codel.ecn h.fq_ecn
said_apart numbers k val d h = not_given val.bands d.priomap h.priomap

pub not_some : {A : Type 0} (a : Option A) → is_some a ≡ false → a ≡ None
not_some None h = refl
not_some (Some a) h = absurd (let k : true ≡ false = h in cc)

-- what is apart goes over a draft in either order
pub crossed : {A : Type 0} (a b c : Option A) → apart a b ≡ true → option_or b (option_or a c) ≡ option_or a (option_or b c)
crossed None b c h = refl
crossed (Some a) None c h = refl
crossed (Some a) (Some b) c h = absurd (let k : false ≡ true = h in cc)

pub over_either : (d e o : OptionDraft) → Apart d e → over e (over d o) ≡ over d (over e o)
over_either d e o h =
    let limit = crossed d.limit e.limit o.limit h.limit in
    let tbf_limit = crossed d.tbf_limit e.tbf_limit o.tbf_limit h.tbf_limit in
    let bands = crossed d.bands e.bands o.bands h.bands in
    let priomap = crossed d.priomap e.priomap o.priomap h.priomap in
    let rate = crossed d.rate e.rate o.rate h.rate in
    let burst = crossed d.burst e.burst o.burst h.burst in
    let fq_limit = crossed d.fq_codel.limit e.fq_codel.limit o.fq_codel.limit h.fq_limit in
    let fq_flows = crossed d.fq_codel.flows e.fq_codel.flows o.fq_codel.flows h.fq_flows in
    let fq_quantum = crossed d.fq_codel.quantum e.fq_codel.quantum o.fq_codel.quantum h.fq_quantum in
    let fq_target = crossed d.fq_codel.target e.fq_codel.target o.fq_codel.target h.fq_target in
    let fq_interval = crossed d.fq_codel.interval e.fq_codel.interval o.fq_codel.interval h.fq_interval in
    let fq_ecn = crossed d.fq_codel.ecn e.fq_codel.ecn o.fq_codel.ecn h.fq_ecn in
    let fq_drop_batch = crossed d.fq_codel.drop_batch e.fq_codel.drop_batch o.fq_codel.drop_batch h.fq_drop_batch in
    cc

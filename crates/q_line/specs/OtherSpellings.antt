-- Other spellings of a line: its options in another order, an option by another of its names, and an option given twice.
-- Which words are names of one option is after tc(8) and the pages of the disciplines; the laws are stated on functions of the module
-- `laws`.
use Rattle.std.specs.Prelude.{◌≡◌, ℕ, suc, ◌||◌, ◌&&◌, true, Bool, List, [], ◌∷◌, ◌++◌, length, codes, if◌then◌else◌, Ok, Err}
use Rattle.std.specs.List.{list_any}
use Rattle.std.specs.Str.{bytes_eq}
use Rattle.q_words.specs.declared.line_fault.LineFault.TheVariants.{Twice}
use Rattle.q_line.specs.Drafts.{OptionDraft, of_filter}
use Rattle.q_line.specs.Grammar.{line_of_words}
use Rattle.q_line.specs.Laws.{reached}
use Rattle.q_line.specs.Positions.{Position, first, options, head, keys, packet, qdisc, class, filter}
use Rattle.q_line.specs.declared.filter_verb.FilterVerb.{FilterVerb}
use Rattle.q_line.specs.declared.head_draft.HeadDraft.{HeadDraft}
use Rattle.q_line.specs.declared.key_draft.KeyDraft.{KeyDraft}
use Rattle.q_line.specs.declared.kind_name.KindName.{KindName}
use Rattle.q_line.specs.declared.kind_name.KindName.TheVariants.{Pfifo, Bfifo, Prio, Tbf, Drr, FqCodel}
use Rattle.q_line.specs.declared.line.Line.{Line}
use Rattle.q_line.specs.declared.packet_draft.PacketDraft.{PacketDraft}
use Rattle.q_line.specs.declared.qdisc_verb.QdiscVerb.{QdiscVerb}

-- the words fit, and lead to this position
abbrev pub Reaches : List (List ℕ) → Position → Type 0
Reaches words position = reached first 1 words ≡ Ok position

-- the words fit, and an option of this kind may follow them
abbrev pub IsBeforeOption : KindName → List (List ℕ) → Type 0
IsBeforeOption k words = (v : QdiscVerb) × (h : HeadDraft) × (o : OptionDraft) × Reaches words (options v h k o)

-- how many words follow the name of an option: 16 numbers, none behind a flag, else a value
abbrev pub values_of : List ℕ → ℕ
values_of name = if bytes_eq name (codes "priomap") then 16 else if bytes_eq name (codes "ecn") || bytes_eq name (codes "noecn") then 0 else 1

-- an option with all that belongs to it
pub record IsOption (words : List (List ℕ)) : Type 0 where
  pub name : List ℕ
  pub values : List (List ℕ)
  pub is : words ≡ name ∷ values
  pub whole : length values ≡ values_of name

-- two options may change places, and so may as many as there are
abbrev pub OptionsChangePlaces : Type 0
OptionsChangePlaces =
    (k : KindName) (before one other behind : List (List ℕ)) (line : Line) → IsBeforeOption k before → IsOption one → IsOption other
    → line_of_words (before ++ (one ++ (other ++ behind))) ≡ Ok line → line_of_words (before ++ (other ++ (one ++ behind))) ≡ Ok line

-- a word and its value
abbrev pub IsPair : List (List ℕ) → Type 0
IsPair words = (name : List ℕ) × (value : List ℕ) × (words ≡ name ∷ value ∷ [])

-- two keys of a filter may change places, its class among them
abbrev pub KeysChangePlaces : Type 0
KeysChangePlaces =
    (h : HeadDraft) (d : KeyDraft) (before one other behind : List (List ℕ)) (line : Line) → Reaches before (keys h d) → IsPair one → IsPair other
    → line_of_words (before ++ (one ++ (other ++ behind))) ≡ Ok line → line_of_words (before ++ (other ++ (one ++ behind))) ≡ Ok line

-- two options of a packet may change places
abbrev pub FieldsChangePlaces : Type 0
FieldsChangePlaces =
    (d : PacketDraft) (before one other behind : List (List ℕ)) (line : Line) → Reaches before (packet d) → IsPair one → IsPair other
    → line_of_words (before ++ (one ++ (other ++ behind))) ≡ Ok line → line_of_words (before ++ (other ++ (one ++ behind))) ≡ Ok line

-- whatever follows it, either word makes the same line behind these words
abbrev pub SaysTheSame : List (List ℕ) → List ℕ → List ℕ → Type 0
SaysTheSame before word other = (behind : List (List ℕ)) → line_of_words (before ++ word ∷ behind) ≡ line_of_words (before ++ other ∷ behind)

-- an option, a word of a head or a verb by another of its names
pub record NamesAreFree : Type 0 where
  pub buffer : (before : List (List ℕ)) → IsBeforeOption Tbf before → SaysTheSame before (codes "buffer") (codes "burst")
  pub maxburst : (before : List (List ℕ)) → IsBeforeOption Tbf before → SaysTheSame before (codes "maxburst") (codes "burst")
  pub pref : (before : List (List ℕ)) (v : FilterVerb) (h : HeadDraft) → Reaches before (head (of_filter v) h) → SaysTheSame before (codes "pref") (codes "prio")
  pub flowid : (before : List (List ℕ)) (h : HeadDraft) (d : KeyDraft) → Reaches before (keys h d) → SaysTheSame before (codes "flowid") (codes "classid")
  pub delete_qdisc : (before : List (List ℕ)) (counters : Bool) → Reaches before (qdisc counters) → SaysTheSame before (codes "delete") (codes "del")
  pub delete_class : (before : List (List ℕ)) (counters : Bool) → Reaches before (class counters) → SaysTheSame before (codes "delete") (codes "del")
  pub delete_filter : (before : List (List ℕ)) (counters : Bool) → Reaches before (filter counters) → SaysTheSame before (codes "delete") (codes "del")
  pub list_qdiscs : (before : List (List ℕ)) (counters : Bool) → Reaches before (qdisc counters) → SaysTheSame before (codes "list") (codes "show")
  pub list_classes : (before : List (List ℕ)) (counters : Bool) → Reaches before (class counters) → SaysTheSame before (codes "list") (codes "show")
  pub list_filters : (before : List (List ℕ)) (counters : Bool) → Reaches before (filter counters) → SaysTheSame before (codes "list") (codes "show")
  pub ls_qdiscs : (before : List (List ℕ)) (counters : Bool) → Reaches before (qdisc counters) → SaysTheSame before (codes "ls") (codes "show")
  pub ls_classes : (before : List (List ℕ)) (counters : Bool) → Reaches before (class counters) → SaysTheSame before (codes "ls") (codes "show")
  pub ls_filters : (before : List (List ℕ)) (counters : Bool) → Reaches before (filter counters) → SaysTheSame before (codes "ls") (codes "show")

-- the names of each option of a kind
abbrev pub names_of : KindName → List (List (List ℕ))
names_of Pfifo = (codes "limit" ∷ []) ∷ []
names_of Bfifo = (codes "limit" ∷ []) ∷ []
names_of Prio = (codes "bands" ∷ []) ∷ (codes "priomap" ∷ []) ∷ []
names_of Tbf = (codes "rate" ∷ []) ∷ (codes "burst" ∷ codes "buffer" ∷ codes "maxburst" ∷ []) ∷ (codes "limit" ∷ codes "latency" ∷ []) ∷ []
names_of Drr = []
names_of FqCodel =
    (codes "limit" ∷ []) ∷ (codes "flows" ∷ []) ∷ (codes "quantum" ∷ []) ∷ (codes "target" ∷ []) ∷ (codes "interval" ∷ [])
    ∷ (codes "drop_batch" ∷ []) ∷ (codes "ecn" ∷ codes "noecn" ∷ []) ∷ []

-- both words are names of one option
abbrev pub names_one : KindName → List ℕ → List ℕ → Bool
names_one k a b = list_any (λ names. list_any (λ name. bytes_eq a name) names && list_any (λ name. bytes_eq b name) names) (names_of k)

-- an option that was given, by this name or another, is a fault at its second name, whatever is between and behind
abbrev pub OptionsStandOnce : Type 0
OptionsStandOnce =
    (k : KindName) (before between behind : List (List ℕ)) (given again : List ℕ) → IsBeforeOption k before
    → IsBeforeOption k (before ++ (given ∷ between)) → names_one k given again ≡ true
    → line_of_words (before ++ (given ∷ between) ++ (again ∷ behind)) ≡ Err (Twice (suc (length (before ++ (given ∷ between)))))

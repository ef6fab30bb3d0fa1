-- Two options may change places: each says the same of the draft before it and of the one behind it.
use Rattle.std.proofs.Common.{◌≡◌, ◌∙◌, ℕ, suc, ◌+◌, ◌==◌, ◌||◌, Bool, true, false, List, [], ◌∷◌, ◌++◌, length, map, Some, None, Result, Ok, Err, refl, sym, ap, subst, arith, if◌then◌else◌}
use Rattle.std.specs.List.{AllByRecursion}
use Rattle.std.specs.Str.{bytes_eq, is_utf8}
use Rattle.std.proofs.lemmas.Slice.Eq.{bytes_eq-Decides}
use Rattle.q_words.specs.Words.{is_blank_line}
use Rattle.q_words.specs.declared.wrong.Wrong.{Wrong}
use Rattle.q_line.specs.Drafts.{OptionDraft, band_number}
use Rattle.q_line.specs.Grammar.{after, fits, line_of_words, numbered, rest_of, option_fits, value}
use Rattle.q_line.specs.Grammar
use Rattle.q_line.specs.Laws.{reached}
use Rattle.q_line.specs.OtherSpellings.{IsOption, OptionsChangePlaces, values_of}
use Rattle.q_line.specs.Positions
use Rattle.q_line.specs.Positions.{OptionValue, Position, first, once, options}
use Rattle.q_line.specs.declared.head_draft.HeadDraft.{HeadDraft}
use Rattle.q_line.specs.declared.kind_name.KindName.{KindName}
use Rattle.q_line.specs.declared.kind_name.KindName.TheVariants as kind_name
use Rattle.q_line.specs.declared.line.Line.{Line}
use Rattle.q_line.specs.declared.line.Line.TheVariants.{Blank}
use Rattle.q_line.specs.declared.qdisc_verb.QdiscVerb.{QdiscVerb}
use Rattle.q_line.proofs.OptionEntries.{Entry, valued, flag, numbers, Value, number, entries, entry_in, has, behind, says, over, reading, option_fits_as, has_over, says_apart, said_apart, over_either}
use Rattle.q_line.proofs.OptionSteps.{name_leads, named, utf8_after, word_fitted}
use Rattle.q_line.proofs.Steps.{word_fits}
use Rattle.q_line.proofs.MovedBands.{goods, moved_reads, walk_numbers, good_numbers, started}

-- an option of a kind, and what it says where its first word has this index
pub record Phrase (k : KindName) (words : List (List ℕ)) : Type 0 where
  pub entry : Entry
  pub val : ℕ → Value
  pub leads : (v : QdiscVerb) (h : HeadDraft) (o : OptionDraft) (i : ℕ) (ws : List (List ℕ)) → has entry k o ≡ false
      → rest_of (options v h k o) i (words ++ ws) ≡ rest_of (options v h k (over (says entry k (val i)) o)) (i + length words) ws
  pub moves : (i j : ℕ) (v : QdiscVerb) (h : HeadDraft) (o : OptionDraft) (n : ℕ) (ws : List (List ℕ)) (line : Line)
      → rest_of (options v h k (over (says entry k (val i)) o)) n ws ≡ Ok line → rest_of (options v h k (over (says entry k (val j)) o)) n ws ≡ Ok line

-- how many words stand behind an entry's name
abbrev count : Entry → ℕ
count (valued x) = 1
count (flag b) = 0
count numbers = 16

-- the words behind a name are as many as its entry wants
abbrev Counted : List (List ℕ × Entry) → Type 0
Counted es = AllByRecursion (λ (e : List ℕ × Entry). values_of e.0 ≡ count e.1) es

counted_in : (es : List (List ℕ × Entry)) (w : List ℕ) (x : Entry) → Counted es → entry_in es w ≡ Some x → values_of w ≡ count x
counted_in [] w x all e = absurd (let k : None ≡ Some x = e in cc)
counted_in (e ∷ es) w x all is = by_test (counted_in es w x all.1) (bytes_eq w e.0) refl
  where
    by_test : (entry_in es w ≡ Some x → values_of w ≡ count x) → (b : Bool) → bytes_eq w e.0 ≡ b → values_of w ≡ count x
    by_test more true t =
        let same : Some e.1 ≡ Some x = sym (ap (λ (b : Bool). if b then Some e.1 else entry_in es w) t) ∙ is in
        let here : e.1 ≡ x = cc in
        ap values_of ((bytes_eq-Decides w e.0).0 t) ∙ all.0 ∙ ap count here
    by_test more false t = more (sym (ap (λ (b : Bool). if b then Some e.1 else entry_in es w) t) ∙ is)

counted : (k : KindName) → Counted (entries k)
counted kind_name.Pfifo = (refl, tt)
counted kind_name.Bfifo = (refl, tt)
counted kind_name.Prio = (refl, (refl, tt))
counted kind_name.Tbf = (refl, (refl, (refl, (refl, (refl, (refl, tt))))))
counted kind_name.Drr = tt
counted kind_name.FqCodel = (refl, (refl, (refl, (refl, (refl, (refl, (refl, (refl, tt))))))))

-- a phrase, with what it wants of the draft before it
pub record Found (k : KindName) (words : List (List ℕ)) (o : OptionDraft) : Type 0 where
  pub phrase : Phrase k words
  pub fresh : has phrase.entry k o ≡ false

flag_found : (v : QdiscVerb) (h : HeadDraft) (k : KindName) (o : OptionDraft) (b : Bool) (w : List ℕ) → is_utf8 w ≡ true → entry_in (entries k) w ≡ Some (flag b)
    → has (flag b) k o ≡ false → Found k (w ∷ []) o
flag_found v h k o b w t is g = record {
  phrase = record {
    entry = flag b;
    val = λ i. number 0;
    leads = λ v h o i ws g. word_fits (options v h k o) (behind (flag b) v h k o) i w ws (name_leads v h k o i w (flag b) t is g) ∙ (let n : suc i ≡ i + 1 = omega arith in
        ap (λ m. rest_of (options v h k (over (says (flag b) k (number 0)) o)) m ws) n);
    moves = λ i j v h o n ws line e. e;
  };
  fresh = g;
}

value_ok : (r : Result ℕ Wrong) (f : ℕ → Position) (q : Position) → value r f ≡ Ok q → (n : ℕ) × (r ≡ Ok n)
value_ok (Ok n) f q e = (n, refl)
value_ok (Err x) f q e = absurd (let k : Err x ≡ Ok q = e in cc)

value_found : (v : QdiscVerb) (h : HeadDraft) (k : KindName) (o : OptionDraft) (x : OptionValue) (i : ℕ) (w value : List ℕ) (ws : List (List ℕ)) (line : Line)
    → is_utf8 w ≡ true → entry_in (entries k) w ≡ Some (valued x) → has (valued x) k o ≡ false
    → rest_of (Positions.option_value x v h k o) i (value ∷ ws) ≡ Ok line → Found k (w ∷ value ∷ []) o
value_found v h k o x i w value ws line t is g e =
    let fit = word_fitted (Positions.option_value x v h k o) i value ws line e in
    let n = value_ok (reading x k value) (λ n. options v h k (over (says (valued x) k (number n)) o)) fit.next (sym (option_fits_as x v h k o value) ∙ fit.fits_is) in
    record {
      phrase = record {
        entry = valued x;
        val = λ i. number n.0;
        leads = λ v h o i ws g. word_fits (options v h k o) (behind (valued x) v h k o) i w (value ∷ ws) (name_leads v h k o i w (valued x) t is g)
            ∙ word_fits (Positions.option_value x v h k o) (options v h k (over (says (valued x) k (number n.0)) o)) (suc i) value ws
            (utf8_after (suc i) (Positions.option_value x v h k o) value fit.text ∙ option_fits_as x v h k o value
            ∙ ap (λ r. value_next v h o r) n.1)
            ∙ (let m : suc (suc i) ≡ i + 2 = omega arith in ap (λ m. rest_of (options v h k (over (says (valued x) k (number n.0)) o)) m ws) m);
        moves = λ i j v h o n ws line e. e;
      };
      fresh = g;
    }
  where
    value_next : QdiscVerb → HeadDraft → OptionDraft → Result ℕ Wrong → Result Position Wrong
    value_next v h o r = Grammar.value r (λ n. options v h k (over (says (valued x) k (number n)) o))

numbers_found : (v : QdiscVerb) (h : HeadDraft) (k : KindName) (o : OptionDraft) (i : ℕ) (w : List ℕ) (values ws : List (List ℕ)) (line : Line)
    → is_utf8 w ≡ true → entry_in (entries k) w ≡ Some numbers → has numbers k o ≡ false → length values ≡ 16
    → rest_of (Positions.priomap v h k o) i (values ++ ws) ≡ Ok line → Found k (w ∷ values) o
numbers_found v h k o i w values ws line t is g many e =
    let good : goods values ≡ true = good_numbers v h k o (record { from = i; numbers = [] }) i values ws line (omega arith) (sym (started v h k o i (values ++ ws) g) ∙ e) in
    record {
      phrase = record {
        entry = numbers;
        val = mapped;
        leads = λ v h o j ws g. word_fits (options v h k o) (behind numbers v h k o) j w (values ++ ws) (name_leads v h k o j w numbers t is g)
            ∙ started v h k o (suc j) (values ++ ws) g ∙ walk_numbers v h k o (record { from = suc j; numbers = [] }) (suc j) values ws good (omega arith) (omega arith)
            ∙ (let n : suc j + length values ≡ j + length (w ∷ values) = omega arith in ap (λ n. rest_of (options v h k (over (says numbers k (mapped j)) o)) n ws) n);
        moves = λ a b v h o n ws line e. moved_reads v h k ws (over (says numbers k (mapped a)) o) n (suc b) line e;
      };
      fresh = g;
    }
  where
    mapped : ℕ → Value
    mapped j = record { number = 0; bands = record { from = suc j; numbers = map band_number values } }

option_found : (v : QdiscVerb) (h : HeadDraft) (k : KindName) (o : OptionDraft) (i : ℕ) (name : List ℕ) (values ws : List (List ℕ)) (line : Line)
    → length values ≡ values_of name → rest_of (options v h k o) i (name ∷ (values ++ ws)) ≡ Ok line → Found k (name ∷ values) o
option_found v h k o i name values ws line whole e =
    let fit = word_fitted (options v h k o) i name (values ++ ws) line e in
    let n = named v h k o i name fit.next fit.fits_is in
    by_entry fit.text n.entry n.is n.fresh (whole ∙ counted_in (entries k) name n.entry (counted k) n.is) (ap (λ q. rest_of q (suc i) (values ++ ws)) (sym n.leads) ∙ fit.rest)
  where
    by_value : (x : OptionValue) (values : List (List ℕ)) → is_utf8 name ≡ true → entry_in (entries k) name ≡ Some (valued x) → has (valued x) k o ≡ false
        → length values ≡ 1 → rest_of (Positions.option_value x v h k o) (suc i) (values ++ ws) ≡ Ok line → Found k (name ∷ values) o
    by_value x [] t is g many e = absurd (omega arith)
    by_value x (value ∷ []) t is g many e = value_found v h k o x (suc i) name value ws line t is g e
    by_value x (value ∷ more ∷ others) t is g many e = absurd (omega arith)

    by_flag : (b : Bool) (values : List (List ℕ)) → is_utf8 name ≡ true → entry_in (entries k) name ≡ Some (flag b) → has (flag b) k o ≡ false
        → length values ≡ 0 → Found k (name ∷ values) o
    by_flag b [] t is g many = flag_found v h k o b name t is g
    by_flag b (value ∷ others) t is g many = absurd (omega arith)

    by_entry : is_utf8 name ≡ true → (x : Entry) → entry_in (entries k) name ≡ Some x → has x k o ≡ false → length values ≡ count x
        → rest_of (behind x v h k o) (suc i) (values ++ ws) ≡ Ok line → Found k (name ∷ values) o
    by_entry t (valued x) is g many e = by_value x values t is g many e
    by_entry t (flag b) is g many e = by_flag b values t is g many
    by_entry t numbers is g many e = numbers_found v h k o (suc i) name values ws line t is g many e

pub left_false : (a b : Bool) → (a || b) ≡ false → a ≡ false
left_false true b h = h
left_false false b h = refl

pub right_false : (a b : Bool) → (a || b) ≡ false → b ≡ false
right_false true b h = absurd (let k : true ≡ false = h in cc)
right_false false b h = h

-- from an option list on
pub change_places : (v : QdiscVerb) (h : HeadDraft) (k : KindName) (o : OptionDraft) (i : ℕ) (one other ws : List (List ℕ)) (line : Line)
    → IsOption one → IsOption other → rest_of (options v h k o) i (one ++ (other ++ ws)) ≡ Ok line → rest_of (options v h k o) i (other ++ (one ++ ws)) ≡ Ok line
change_places v h k o i one other ws line a b e =
    let read_one : rest_of (options v h k o) i ((a.name ∷ a.values) ++ (other ++ ws)) ≡ Ok line = ap (λ w. rest_of (options v h k o) i (w ++ (other ++ ws))) (sym a.is) ∙ e in
    let x = option_found v h k o i a.name a.values (other ++ ws) line a.whole read_one in
    by_one (subst (λ w. Found k w o) (sym a.is) x)
  where
    by_both : (x : Found k one o) (y : Found k other (over (says x.phrase.entry k (x.phrase.val i)) o))
        → rest_of (options v h k (over (says x.phrase.entry k (x.phrase.val i)) o)) (i + length one) (other ++ ws) ≡ Ok line
        → rest_of (options v h k o) i (other ++ (one ++ ws)) ≡ Ok line
    by_both x y e =
        let j = i + length one in
        let d = says x.phrase.entry k (x.phrase.val i) in
        let f = says y.phrase.entry k (y.phrase.val j) in
        let neither : (has y.phrase.entry k d || has y.phrase.entry k o) ≡ false = sym (has_over y.phrase.entry k d o) ∙ y.fresh in
        let fresh : has y.phrase.entry k o ≡ false = right_false (has y.phrase.entry k d) (has y.phrase.entry k o) neither in
        let away = says_apart y.phrase.entry k (y.phrase.val i) d (left_false (has y.phrase.entry k d) (has y.phrase.entry k o) neither) in
        let g = says y.phrase.entry k (y.phrase.val i) in
        let fresh_one : has x.phrase.entry k (over g o) ≡ false = has_over x.phrase.entry k g o
        ∙ (let p = said_apart x.phrase.entry k (x.phrase.val i) g away in let q = x.fresh in ap (λ (b : Bool). b || has x.phrase.entry k o) p ∙ q) in
        let m = i + length other in
        let ending : rest_of (options v h k (over f (over d o))) (j + length other) ws ≡ Ok line = sym (y.phrase.leads v h (over d o) j ws y.fresh) ∙ e in
        let moved : rest_of (options v h k (over g (over d o))) (j + length other) ws ≡ Ok line = y.phrase.moves j i v h (over d o) (j + length other) ws line ending in
        let crossed : rest_of (options v h k (over d (over g o))) (j + length other) ws ≡ Ok line = ap (λ u. rest_of (options v h k u) (j + length other) ws) (sym (over_either d g o away)) ∙ moved in
        let last : rest_of (options v h k (over (says x.phrase.entry k (x.phrase.val m)) (over g o))) (j + length other) ws ≡ Ok line =
        x.phrase.moves i m v h (over g o) (j + length other) ws line crossed in
        let index : m + length one ≡ j + length other = omega arith in
        y.phrase.leads v h o i (one ++ ws) fresh ∙ x.phrase.leads v h (over g o) m ws fresh_one
        ∙ ap (λ n. rest_of (options v h k (over (says x.phrase.entry k (x.phrase.val m)) (over g o))) n ws) index ∙ last

    by_one : Found k one o → rest_of (options v h k o) i (other ++ (one ++ ws)) ≡ Ok line
    by_one x =
        let d = says x.phrase.entry k (x.phrase.val i) in
        let e2 : rest_of (options v h k (over d o)) (i + length one) (other ++ ws) ≡ Ok line = sym (x.phrase.leads v h o i (other ++ ws) x.fresh) ∙ e in
        let read_other : rest_of (options v h k (over d o)) (i + length one) ((b.name ∷ b.values) ++ ws) ≡ Ok line =
        ap (λ w. rest_of (options v h k (over d o)) (i + length one) (w ++ ws)) (sym b.is) ∙ e2 in
        let y = option_found v h k (over d o) (i + length one) b.name b.values ws line b.whole read_other in
        by_both x (subst (λ w. Found k w (over d o)) (sym b.is) y) e2

-- from the first word of a line on
pub reached_reads : (p q : Position) (i : ℕ) (before ws : List (List ℕ)) → reached p i before ≡ Ok q → rest_of p i (before ++ ws) ≡ rest_of q (i + length before) ws
reached_reads p q i [] ws e =
    let same : p ≡ q = cc in
    let index : i ≡ i + 0 = omega arith in
    ap (λ r. rest_of r i ws) same ∙ ap (λ n. rest_of q n ws) index
reached_reads p q i (w ∷ before) ws e = by_word (λ next. reached_reads next q (suc i) before ws) (after i p w) refl
  where
    by_word : ((next : Position) → reached next (suc i) before ≡ Ok q → rest_of next (suc i) (before ++ ws) ≡ rest_of q (suc i + length before) ws)
        → (r : Result Position Wrong) → after i p w ≡ r → rest_of p i (w ∷ (before ++ ws)) ≡ rest_of q (i + length (w ∷ before)) ws
    by_word more (Ok next) t =
        let led : reached next (suc i) before ≡ Ok q = sym (ap (λ r. elim r as (λ _. Result Position Wrong) [ Ok next ↦ reached next (suc i) before | Err x ↦ Err x ]) t) ∙ e in
        let index : suc i + length before ≡ i + length (w ∷ before) = omega arith in
        word_fits p next i w (before ++ ws) t ∙ more next led ∙ ap (λ n. rest_of q n ws) index
    by_word more (Err x) t = absurd (
        let led : Err x ≡ Ok q = sym (ap (λ r. elim r as (λ _. Result Position Wrong) [ Ok next ↦ reached next (suc i) before | Err x ↦ Err x ]) t) ∙ e in cc)

abbrev pub commented : List ℕ → Bool
commented [] = false
commented (b ∷ bytes) = b == 35

pub begins : (w : List ℕ) (ws : List (List ℕ)) → is_blank_line (w ∷ ws) ≡ commented w
begins [] ws = refl
begins (b ∷ bytes) ws = refl

-- a line is read from what its first words lead to, or is a comment, whatever stands behind them
pub read_from : (before : List (List ℕ)) (p : Position) → reached first 1 before ≡ Ok p → (p ≡ first → ⊥)
    → (b : Bool) × ((ws : List (List ℕ)) → line_of_words (before ++ ws) ≡ (if b then Ok Blank else rest_of p (1 + length before) ws))
read_from [] p e away = absurd (away (let both : Ok first ≡ Ok p = e in cc))
read_from (w ∷ before) p e away = (
  commented w,
  λ ws. ap (λ (b : Bool). if b then Ok Blank else rest_of first 1 (w ∷ (before ++ ws))) (begins w (before ++ ws))
      ∙ ap (λ r. if commented w then Ok Blank else r) (reached_reads first p 1 (w ∷ before) ws e),
)

pub options_change_places : OptionsChangePlaces
options_change_places k before one other behind line at a b e =
    let read = read_from before (options at.0 at.1 k at.2) at.3 (λ same. cc) in
    read.1 (other ++ (one ++ behind)) ∙ by_test read.0 (sym (read.1 (one ++ (other ++ behind))) ∙ e)
  where
    by_test : (t : Bool) → (if t then Ok Blank else rest_of (options at.0 at.1 k at.2) (1 + length before) (one ++ (other ++ behind))) ≡ Ok line
        → (if t then Ok Blank else rest_of (options at.0 at.1 k at.2) (1 + length before) (other ++ (one ++ behind))) ≡ Ok line
    by_test true e = e
    by_test false e = change_places at.0 at.1 k at.2 (1 + length before) one other behind line a b e

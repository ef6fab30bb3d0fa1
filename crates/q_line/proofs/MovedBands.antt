-- The numbers of a priomap: sixteen of them lead back to the options, and a line that has said them says the same wherever they
-- stood.
use Rattle.std.proofs.Common.{◌≡◌, ◌∙◌, ℕ, suc, ◌+◌, ◌<◌, ◌==◌, ◌&&◌, Bool, true, false, List, [], ◌∷◌, ◌++◌, length, map, Option, Some, None, is_some, option_map, unwrap_or, Result, Ok, Err, refl, sym, ap, arith, if◌then◌else◌, append_assoc, length-append, nat_le}
use Rattle.std.specs.List.{list_all, position}
use Rattle.std.specs.Str.{is_utf8}
use Rattle.std.proofs.lemmas.Bool.{eqb-true}
use Rattle.q_line.proofs.SpelledWords.{both, left_of, right_of}
use Rattle.q_words.specs.Values.{is_numeral}
use Rattle.q_words.specs.declared.line_fault.LineFault.{LineFault}
use Rattle.q_words.specs.declared.line_fault.LineFault.TheVariants as fault
use Rattle.q_words.specs.declared.wrong.Wrong.{Wrong}
use Rattle.q_words.specs.declared.wrong.Wrong.TheVariants as wrong
use Rattle.q_line.specs.Drafts.{Bands, OptionDraft, band_number, bands_of}
use Rattle.q_line.specs.Grammar.{after, ended, ends, fits, late_fault, rest_of, said, value}
use Rattle.q_line.specs.Positions
use Rattle.q_line.specs.Positions.{OptionValue, Position, once, options}
use Rattle.q_line.specs.declared.head_draft.HeadDraft.{HeadDraft}
use Rattle.q_line.specs.declared.kind_name.KindName.{KindName}
use Rattle.q_line.specs.declared.kind_name.KindName.TheVariants as kind_name
use Rattle.q_line.specs.declared.line.Line.{Line}
use Rattle.q_line.specs.declared.qdisc_verb.QdiscVerb.{QdiscVerb}
use Rattle.q_line.proofs.OptionEntries.{Entry, valued, flag, numbers, Value, number, entries, entry_in, entered, found, has, behind, says, over, reading, option_fits_as, not_some}
use Rattle.q_line.proofs.OptionSteps.{named, utf8_after, word_fitted}
use Rattle.q_line.proofs.Steps.{continued, rest_of-cons, word_fits}

-- words that are numbers
abbrev pub goods : List (List ℕ) → Bool
goods ws = list_all (λ w. is_utf8 w && is_numeral 10 w) ws

abbrev pub more : Bands → ℕ → Bands
more b n = record b { numbers = b.numbers ++ n ∷ [] }

-- with these numbers
abbrev pub with_map : OptionDraft → Bands → OptionDraft
with_map o b = record o { priomap = Some b }

abbrev pub next_of : QdiscVerb → HeadDraft → KindName → OptionDraft → Bands → Position
next_of v h k o b = if length b.numbers == 16 then Positions.options v h k (with_map o b) else Positions.priomap v h k (with_map o b)

abbrev pub stepped : QdiscVerb → HeadDraft → KindName → OptionDraft → Bands → List ℕ → Result Position Wrong
stepped v h k o b w = if is_numeral 10 w then Ok (next_of v h k o (more b (band_number w))) else Err wrong.BadNumber

-- before its first number it is as with none
pub started : (v : QdiscVerb) (h : HeadDraft) (k : KindName) (o : OptionDraft) (i : ℕ) (ws : List (List ℕ)) → is_some o.priomap ≡ false
    → rest_of (Positions.priomap v h k o) i ws ≡ rest_of (Positions.priomap v h k (with_map o (record { from = i; numbers = [] }))) i ws
started v h k o i [] g = ap (λ (m : Option Bands). ended (Positions.priomap v h k (record o { priomap = m })) i) (not_some o.priomap g)
started v h k o i (w ∷ ws) g =
    let empty : Bands = record { from = i; numbers = [] } in
    let same : after i (Positions.priomap v h k o) w ≡ after i (Positions.priomap v h k (with_map o empty)) w =
    ap (λ (m : Option Bands). if is_utf8 w then stepped v h k o (unwrap_or m empty) w else Err wrong.BadUtf8) (not_some o.priomap g) in
    rest_of-cons (Positions.priomap v h k o) i w ws ∙ ap (λ r. continued r i ws) same ∙ sym (rest_of-cons (Positions.priomap v h k (with_map o empty)) i w ws)

append_false : (n : ℕ) → (n ≡ 16 → ⊥) → (n == 16) ≡ false
append_false n h = by_test (n == 16) refl
  where
    by_test : (b : Bool) → (n == 16) ≡ b → (n == 16) ≡ false
    by_test true e = absurd (h (eqb-true n 16 e))
    by_test false e = e

number_next : (v : QdiscVerb) (h : HeadDraft) (k : KindName) (o : OptionDraft) (b : Bands) (i : ℕ) (w : List ℕ) → (is_utf8 w && is_numeral 10 w) ≡ true
    → after i (Positions.priomap v h k (with_map o b)) w ≡ Ok (next_of v h k o (more b (band_number w)))
number_next v h k o b i w good =
    utf8_after i (Positions.priomap v h k (with_map o b)) w (left_of (is_utf8 w) (is_numeral 10 w) good)
    ∙ ap (λ (t : Bool). if t then Ok (next_of v h k o (more b (band_number w))) else Err wrong.BadNumber) (right_of (is_utf8 w) (is_numeral 10 w) good)

-- so many numbers that they are sixteen
pub walk_numbers : (v : QdiscVerb) (h : HeadDraft) (k : KindName) (o : OptionDraft) (b : Bands) (i : ℕ) (ws rest : List (List ℕ)) → goods ws ≡ true → 0 < length ws
    → length b.numbers + length ws ≡ 16
    → rest_of (Positions.priomap v h k (with_map o b)) i (ws ++ rest) ≡ rest_of (options v h k (with_map o (record b { numbers = b.numbers ++ map band_number ws }))) (i + length ws) rest
walk_numbers v h k o b i [] rest good some many = absurd (omega arith)
walk_numbers v h k o b i (w ∷ []) rest good some many =
    let n = band_number w in
    let long : length (b.numbers ++ n ∷ []) ≡ length b.numbers + 1 = length-append b.numbers (n ∷ []) in
    let whole : length (b.numbers ++ n ∷ []) ≡ 16 = omega arith in
    let here = left_of (is_utf8 w && is_numeral 10 w) (goods []) good in
    let leads : next_of v h k o (more b n) ≡ options v h k (with_map o (more b n)) =
    ap (λ m. if m == 16 then options v h k (with_map o (more b n)) else Positions.priomap v h k (with_map o (more b n))) whole in
    let index : suc i ≡ i + 1 = omega arith in
    word_fits (Positions.priomap v h k (with_map o b)) (options v h k (with_map o (more b n))) i w rest (number_next v h k o b i w here ∙ ap Ok leads)
    ∙ ap (λ m. rest_of (options v h k (with_map o (more b n))) m rest) index
walk_numbers v h k o b i (w ∷ u ∷ ws) rest good some many =
    let n = band_number w in
    let long : length (b.numbers ++ n ∷ []) ≡ length b.numbers + 1 = length-append b.numbers (n ∷ []) in
    let here = left_of (is_utf8 w && is_numeral 10 w) (goods (u ∷ ws)) good in
    let not_yet : (length (b.numbers ++ n ∷ []) == 16) ≡ false = append_false (length (b.numbers ++ n ∷ [])) (λ same. omega arith) in
    let leads : next_of v h k o (more b n) ≡ Positions.priomap v h k (with_map o (more b n)) =
    ap (λ (t : Bool). if t then options v h k (with_map o (more b n)) else Positions.priomap v h k (with_map o (more b n))) not_yet in
    let fewer : length (b.numbers ++ n ∷ []) + length (u ∷ ws) ≡ 16 = omega arith in
    let index : suc i + length (u ∷ ws) ≡ i + length (w ∷ u ∷ ws) = omega arith in
    word_fits (Positions.priomap v h k (with_map o b)) (Positions.priomap v h k (with_map o (more b n))) i w ((u ∷ ws) ++ rest) (number_next v h k o b i w here ∙ ap Ok leads)
    ∙ walk_numbers v h k o (more b n) (suc i) (u ∷ ws) rest (right_of (is_utf8 w && is_numeral 10 w) (goods (u ∷ ws)) good) (omega arith) fewer
    ∙ ap (λ m. rest_of (options v h k (with_map o (record b { numbers = (b.numbers ++ n ∷ []) ++ map band_number (u ∷ ws) }))) m rest) index
    ∙ ap (λ ns. rest_of (options v h k (with_map o (record b { numbers = ns }))) (i + length (w ∷ u ∷ ws)) rest) (append_assoc b.numbers (n ∷ []) (map band_number (u ∷ ws)))

pub numeral_of : (t : Bool) (p q : Position) → (if t then Ok p else Err wrong.BadNumber) ≡ Ok q → (t ≡ true) × (p ≡ q)
numeral_of true p q e = (refl, cc)
numeral_of false p q e = absurd (let k : Err wrong.BadNumber ≡ Ok q = e in cc)

-- where the line is read, they are numbers
pub good_numbers : (v : QdiscVerb) (h : HeadDraft) (k : KindName) (o : OptionDraft) (b : Bands) (i : ℕ) (ws rest : List (List ℕ)) (l : Line)
    → length b.numbers + length ws ≡ 16 → rest_of (Positions.priomap v h k (with_map o b)) i (ws ++ rest) ≡ Ok l → goods ws ≡ true
good_numbers v h k o b i [] rest l many e = refl
good_numbers v h k o b i (w ∷ []) rest l many e =
    let fit = word_fitted (Positions.priomap v h k (with_map o b)) i w rest l e in
    let number = numeral_of (is_numeral 10 w) (next_of v h k o (more b (band_number w))) fit.next fit.fits_is in
    both (both fit.text number.0) refl
good_numbers v h k o b i (w ∷ u ∷ ws) rest l many e =
    let fit = word_fitted (Positions.priomap v h k (with_map o b)) i w ((u ∷ ws) ++ rest) l e in
    let number = numeral_of (is_numeral 10 w) (next_of v h k o (more b (band_number w))) fit.next fit.fits_is in
    let n = band_number w in
    let long : length (b.numbers ++ n ∷ []) ≡ length b.numbers + 1 = length-append b.numbers (n ∷ []) in
    let not_yet : (length (b.numbers ++ n ∷ []) == 16) ≡ false = append_false (length (b.numbers ++ n ∷ [])) (λ same. omega arith) in
    let leads : next_of v h k o (more b n) ≡ Positions.priomap v h k (with_map o (more b n)) =
    ap (λ (t : Bool). if t then options v h k (with_map o (more b n)) else Positions.priomap v h k (with_map o (more b n))) not_yet in
    let rest_is : rest_of (Positions.priomap v h k (with_map o (more b n))) (suc i) ((u ∷ ws) ++ rest) ≡ Ok l =
    ap (λ q. rest_of q (suc i) ((u ∷ ws) ++ rest)) (sym leads ∙ number.1) ∙ fit.rest in
    both (both fit.text number.0) (good_numbers v h k o (more b n) (suc i) (u ∷ ws) rest l (omega arith) rest_is)

-- a draft whose priomap stood elsewhere
abbrev begun : ℕ → Bands → Bands
begun n b = record b { from = n }

abbrev pub moved : ℕ → OptionDraft → OptionDraft
moved n o = record o { priomap = option_map (begun n) o.priomap }

-- the three positions among options
pub data Spot : Type 0 where
  list : Spot
  value_at : OptionValue → Spot
  bands_at : Spot

abbrev pub at : Spot → QdiscVerb → HeadDraft → KindName → OptionDraft → Position
at list v h k o = Positions.options v h k o
at (value_at x) v h k o = Positions.option_value x v h k o
at bands_at v h k o = Positions.priomap v h k o

-- a word that fits leads from one of them to another, wherever a priomap stood before it
record Step (v : QdiscVerb) (h : HeadDraft) (k : KindName) (s : Spot) (o : OptionDraft) (i n : ℕ) (w : List ℕ) (q : Position) : Type 0 where
  spot : Spot
  draft : OptionDraft
  is : q ≡ at spot v h k draft
  index : ℕ
  leads : fits i (at s v h k (moved n o)) w ≡ Ok (at spot v h k (moved index draft))

has_moved : (e : Entry) (k : KindName) (n : ℕ) (o : OptionDraft) → has e k (moved n o) ≡ has e k o
has_moved (valued Positions.limit) kind_name.Pfifo n o = refl
has_moved (valued Positions.limit) kind_name.Bfifo n o = refl
has_moved (valued Positions.limit) kind_name.Prio n o = refl
has_moved (valued Positions.limit) kind_name.Tbf n o = refl
has_moved (valued Positions.limit) kind_name.Drr n o = refl
has_moved (valued Positions.limit) kind_name.FqCodel n o = refl
has_moved (valued Positions.latency) k n o = refl
has_moved (valued Positions.bands) k n o = refl
has_moved (valued Positions.rate) k n o = refl
has_moved (valued Positions.burst) k n o = refl
has_moved (valued Positions.flows) k n o = refl
has_moved (valued Positions.quantum) k n o = refl
has_moved (valued Positions.target) k n o = refl
has_moved (valued Positions.interval) k n o = refl
has_moved (valued Positions.drop_batch) k n o = refl
has_moved (flag b) k n o = refl
has_moved numbers k n o = by_map o.priomap
  where
    by_map : (m : Option Bands) → is_some (option_map (begun n) m) ≡ is_some m
    by_map None = refl
    by_map (Some b) = refl

moved_over : (x : OptionValue) (k : KindName) (val : Value) (n : ℕ) (o : OptionDraft) → over (says (valued x) k val) (moved n o) ≡ moved n (over (says (valued x) k val) o)
moved_over Positions.limit kind_name.Pfifo val n o = refl
moved_over Positions.limit kind_name.Bfifo val n o = refl
moved_over Positions.limit kind_name.Prio val n o = refl
moved_over Positions.limit kind_name.Tbf val n o = refl
moved_over Positions.limit kind_name.Drr val n o = refl
moved_over Positions.limit kind_name.FqCodel val n o = refl
moved_over Positions.latency k val n o = refl
moved_over Positions.bands k val n o = refl
moved_over Positions.rate k val n o = refl
moved_over Positions.burst k val n o = refl
moved_over Positions.flows k val n o = refl
moved_over Positions.quantum k val n o = refl
moved_over Positions.target k val n o = refl
moved_over Positions.interval k val n o = refl
moved_over Positions.drop_batch k val n o = refl

name_fits : (v : QdiscVerb) (h : HeadDraft) (k : KindName) (o : OptionDraft) (i : ℕ) (w : List ℕ) (e : Entry) → entry_in (entries k) w ≡ Some e → has e k o ≡ false
    → fits i (options v h k o) w ≡ Ok (behind e v h k o)
name_fits v h k o i w e is g = found v h k o w ∙ ap (entered v h k o) is ∙ ap (λ (b : Bool). once b (behind e v h k o)) g

list_step : (v : QdiscVerb) (h : HeadDraft) (k : KindName) (o : OptionDraft) (i n : ℕ) (w : List ℕ) (q : Position) → fits i (options v h k o) w ≡ Ok q → Step v h k list o i n w q
list_step v h k o i n w q e = let x = named v h k o i w q e in by_entry x.entry x.is x.fresh x.leads
  where
    by_entry : (e : Entry) → entry_in (entries k) w ≡ Some e → has e k o ≡ false → q ≡ behind e v h k o → Step v h k list o i n w q
    by_entry (valued x) is g leads = record { spot = value_at x; draft = o; is = leads; index = n; leads = name_fits v h k (moved n o) i w (valued x) is (has_moved (valued x) k n o ∙ g) }
    by_entry (flag b) is g leads =
        record {
          spot = list;
          draft = over (says (flag b) k (number 0)) o;
          is = leads;
          index = n;
          leads = name_fits v h k (moved n o) i w (flag b) is
              (has_moved (flag b) k n o ∙ g);
        }
    by_entry numbers is g leads = record { spot = bands_at; draft = o; is = leads; index = n; leads = name_fits v h k (moved n o) i w numbers is (has_moved numbers k n o ∙ g) }

value_step : (v : QdiscVerb) (h : HeadDraft) (k : KindName) (x : OptionValue) (o : OptionDraft) (i n : ℕ) (w : List ℕ) (q : Position)
    → fits i (Positions.option_value x v h k o) w ≡ Ok q → Step v h k (value_at x) o i n w q
value_step v h k x o i n w q e = by_value (reading x k w) refl
  where
    led : OptionDraft → ℕ → Position
    led o m = options v h k (over (says (valued x) k (number m)) o)

    by_value : (r : Result ℕ Wrong) → reading x k w ≡ r → Step v h k (value_at x) o i n w q
    by_value (Ok m) is =
        let here : fits i (Positions.option_value x v h k o) w ≡ Ok (led o m) = option_fits_as x v h k o w ∙ ap (λ r. value r (led o)) is in
        let same : Ok (led o m) ≡ Ok q = sym here ∙ e in
        let is_led : led o m ≡ q = cc in
        record {
          spot = list;
          draft = over (says (valued x) k (number m)) o;
          is = sym is_led;
          index = n;
          leads = option_fits_as x v h k (moved n o) w ∙ ap (λ r. value r (led (moved n o))) is ∙ ap (λ d. Ok (options v h k d)) (moved_over x k (number m) n o);
        }
    by_value (Err y) is = absurd (
        let here : fits i (Positions.option_value x v h k o) w ≡ Err y = option_fits_as x v h k o w ∙ ap (λ r. value r (led o)) is in
        let same : Err y ≡ Ok q = sym here ∙ e in cc)

-- one number more leads to the same, wherever the first one stood
record Counted (v : QdiscVerb) (h : HeadDraft) (k : KindName) (o : OptionDraft) (b : Bands) (w : List ℕ) (q : Position) : Type 0 where
  spot : Spot
  draft : OptionDraft
  is : q ≡ at spot v h k draft
  leads : (n : ℕ) → stepped v h k o (begun n b) w ≡ Ok (at spot v h k (moved n draft))

number_step : (v : QdiscVerb) (h : HeadDraft) (k : KindName) (o : OptionDraft) (b : Bands) (w : List ℕ) (q : Position) → stepped v h k o b w ≡ Ok q → Counted v h k o b w q
number_step v h k o b w q e =
    let number = numeral_of (is_numeral 10 w) (next_of v h k o (more b (band_number w))) q e in
    by_whole number.0 number.1 (length (more b (band_number w)).numbers == 16) refl
  where
    d : OptionDraft
    d = with_map o (more b (band_number w))

    picked : Bool → OptionDraft → Position
    picked c d = if c then options v h k d else Positions.priomap v h k d

    by_whole : is_numeral 10 w ≡ true → next_of v h k o (more b (band_number w)) ≡ q → (c : Bool) → (length (more b (band_number w)).numbers == 16) ≡ c → Counted v h k o b w q
    by_whole t is true c = record {
      spot = list;
      draft = d;
      is = sym is ∙ ap (λ (c : Bool). picked c d) c;
      leads = λ n. ap (λ (t : Bool). if t then Ok (next_of v h k o (more (begun n b) (band_number w))) else Err wrong.BadNumber) t ∙ ap (λ (c : Bool). Ok (picked c (moved n d))) c;
    }
    by_whole t is false c = record {
      spot = bands_at;
      draft = d;
      is = sym is ∙ ap (λ (c : Bool). picked c d) c;
      leads = λ n. ap (λ (t : Bool). if t then Ok (next_of v h k o (more (begun n b) (band_number w))) else Err wrong.BadNumber) t ∙ ap (λ (c : Bool). Ok (picked c (moved n d))) c;
    }

bands_step : (v : QdiscVerb) (h : HeadDraft) (k : KindName) (o : OptionDraft) (i n : ℕ) (w : List ℕ) (q : Position)
    → fits i (Positions.priomap v h k o) w ≡ Ok q → Step v h k bands_at o i n w q
bands_step v h k o i n w q e = by_map o.priomap e refl
  where
    first_here : Bands
    first_here = record { from = i; numbers = [] }

    by_map : (m : Option Bands) → stepped v h k o (unwrap_or m first_here) w ≡ Ok q → o.priomap ≡ m → Step v h k bands_at o i n w q
    by_map None e is = let x = number_step v h k o first_here w q e in record {
      spot = x.spot;
      draft = x.draft;
      is = x.is;
      index = i;
      leads = ap (λ (m : Option Bands). stepped v h k o (unwrap_or (option_map (begun n) m) first_here) w) is ∙ x.leads i;
    }
    by_map (Some b) e is = let x = number_step v h k o b w q e in record {
      spot = x.spot;
      draft = x.draft;
      is = x.is;
      index = n;
      leads = ap (λ (m : Option Bands). stepped v h k o (unwrap_or (option_map (begun n) m) first_here) w) is ∙ x.leads n;
    }

step : (v : QdiscVerb) (h : HeadDraft) (k : KindName) (s : Spot) (o : OptionDraft) (i n : ℕ) (w : List ℕ) (q : Position) → fits i (at s v h k o) w ≡ Ok q → Step v h k s o i n w q
step v h k list o i n w q e = list_step v h k o i n w q e
step v h k (value_at x) o i n w q e = value_step v h k x o i n w q e
step v h k bands_at o i n w q e = bands_step v h k o i n w q e

-- at the end only the numbers count, and not where they stood
never_ends : (late : Option ℕ) (i : ℕ) (l : Line) → (elim late as (λ _. Result Line LineFault) [ Some word ↦ Err (fault.OutOfRange word) | None ↦ said None i ]) ≡ Ok l → ⊥
never_ends (Some word) i l e = let k : Err (fault.OutOfRange word) ≡ Ok l = e in cc
never_ends None i l e = let k : Err (fault.Missing i) ≡ Ok l = e in cc

abbrev judged : ℕ → Option ℕ → Option Line → ℕ → Result Line LineFault
judged from bad end i = elim (option_map (λ (x : ℕ). from + x) bad) as (λ _. Result Line LineFault) [ Some word ↦ Err (fault.OutOfRange word) | None ↦ said end i ]

judged_moved : (from n : ℕ) (bad : Option ℕ) (end : Option Line) (i : ℕ) (l : Line) → judged from bad end i ≡ Ok l → judged n bad end i ≡ Ok l
judged_moved from n (Some x) end i l e = absurd (let k : Err (fault.OutOfRange (from + x)) ≡ Ok l = e in cc)
judged_moved from n None end i l e = e

prio_ended : (v : QdiscVerb) (h : HeadDraft) (o : OptionDraft) (m : Option Bands) (i n : ℕ) (l : Line) → ended (options v h kind_name.Prio (record o { priomap = m })) i ≡ Ok l
    → ended (options v h kind_name.Prio (record o { priomap = option_map (begun n) m })) i ≡ Ok l
prio_ended v h o None i n l e = e
prio_ended v h o (Some b) i n l e = judged_moved b.from n (position (λ x. nat_le (bands_of o) x) b.numbers) (ends (options v h kind_name.Prio (with_map o b))) i l e

list_ended : (v : QdiscVerb) (h : HeadDraft) (k : KindName) (o : OptionDraft) (i n : ℕ) (l : Line) → ended (options v h k o) i ≡ Ok l → ended (options v h k (moved n o)) i ≡ Ok l
list_ended v h kind_name.Pfifo o i n l e = e
list_ended v h kind_name.Bfifo o i n l e = e
list_ended v h kind_name.Prio o i n l e = prio_ended v h o o.priomap i n l e
list_ended v h kind_name.Tbf o i n l e = e
list_ended v h kind_name.Drr o i n l e = e
list_ended v h kind_name.FqCodel o i n l e = e

ended_moved : (v : QdiscVerb) (h : HeadDraft) (k : KindName) (s : Spot) (o : OptionDraft) (i n : ℕ) (l : Line) → ended (at s v h k o) i ≡ Ok l → ended (at s v h k (moved n o)) i ≡ Ok l
ended_moved v h k list o i n l e = list_ended v h k o i n l e
ended_moved v h k (value_at x) o i n l e = absurd (never_ends (late_fault (Positions.option_value x v h k o)) i l e)
ended_moved v h k bands_at o i n l e = absurd (never_ends (late_fault (Positions.priomap v h k o)) i l e)

spots_read : (v : QdiscVerb) (h : HeadDraft) (k : KindName) (ws : List (List ℕ)) (s : Spot) (o : OptionDraft) (i n : ℕ) (l : Line)
    → rest_of (at s v h k o) i ws ≡ Ok l → rest_of (at s v h k (moved n o)) i ws ≡ Ok l
spots_read v h k [] s o i n l e = ended_moved v h k s o i n l e
spots_read v h k (w ∷ ws) s o i n l e =
    let fit = word_fitted (at s v h k o) i w ws l e in
    let x = step v h k s o i n w fit.next fit.fits_is in
    word_fits (at s v h k (moved n o)) (at x.spot v h k (moved x.index x.draft)) i w ws (utf8_after i (at s v h k (moved n o)) w fit.text ∙ x.leads)
    ∙ spots_read v h k ws x.spot x.draft (suc i) x.index l (ap (λ q. rest_of q (suc i) ws) (sym x.is) ∙ fit.rest)

pub moved_reads : (v : QdiscVerb) (h : HeadDraft) (k : KindName) (ws : List (List ℕ)) (o : OptionDraft) (i n : ℕ) (l : Line)
    → rest_of (options v h k o) i ws ≡ Ok l → rest_of (options v h k (moved n o)) i ws ≡ Ok l
moved_reads v h k ws o i n l e = spots_read v h k ws list o i n l e

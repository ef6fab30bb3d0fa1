-- A prio that is written is read as itself: its bands, and the numbers of its priomap one by one.
use Rattle.std.proofs.Common.{◌≡◌, ◌∙◌, ℕ, suc, ◌+◌, ◌<◌, ◌≤◌, ◌^◌, Bool, true, false, cond, List, [], ◌∷◌, ◌++◌, length, length-append, map, min, ltb, leb, not, Option, Result, Ok, Err, Some, None, option_map, option_and_then, ◌==◌, refl, ap, arith, if◌then◌else◌, codes, append_assoc, lit<}
use Rattle.std.specs.List.{AllByRecursion, list_all, position, position_or_len}
use Rattle.std.specs.Fmt.{decimal}
use Rattle.std.proofs.lemmas.Bool.{eq-eqb, lt-ltb}
use Rattle.std.proofs.lemmas.Bool.Decides.{nat_tests}
use Rattle.std.proofs.lemmas.Fmt.{decimal_is_IsNumeral}
use Rattle.std.proofs.lemmas.List.Elements.{recursion_from_All}
use Rattle.q_words.specs.Values.{is_numeral}
use Rattle.q_words.specs.declared.wrong.Wrong.TheVariants.{BadNumber}
use Rattle.q_line.specs.Spelling.{is_word}
use Rattle.q_line.proofs.SpelledWords.{both, digits_from_numeral, number_read, decimal_digits, digits_word}
use Rattle.q_model.specs.Options.{PrioSettings, IsPrio}
use Rattle.q_model.specs.declared.command.Command.{Command}
use Rattle.q_model.specs.declared.kind.Kind.TheVariants.{Prio}
use Rattle.q_words.specs.declared.line_fault.LineFault.{LineFault}
use Rattle.q_words.specs.declared.line_fault.LineFault.TheVariants as fault
use Rattle.q_line.specs.Drafts.{OptionDraft, no_options, band_number, qdisc_line}
use Rattle.q_line.specs.Grammar.{fits, rest_of, said, value}
use Rattle.q_line.specs.Positions
use Rattle.q_line.specs.Positions.{Position, options, option_value}
use Rattle.q_line.specs.declared.head_draft.HeadDraft.{HeadDraft}
use Rattle.q_line.specs.declared.kind_name.KindName.TheVariants as kind_name
use Rattle.q_line.specs.declared.line.Line.{Line}
use Rattle.q_line.specs.declared.line.Line.TheVariants.{Tc}
use Rattle.q_line.specs.declared.qdisc_verb.QdiscVerb.{QdiscVerb}
use Rattle.q_line.proofs.SpelledSteps.{Says, Word, decimal_word, chain, chain_says, pair, word, word_at}
use Rattle.q_line.proofs.SpelledValues.{not_below_itself, prefix_all}

abbrev pub Below : ℕ → List ℕ → Type 0
Below bands xs = AllByRecursion (λ band. band < bands) xs

numbers_good : (bands : ℕ) (xs : List ℕ) → bands ≤ 16 → Below bands xs → list_all is_word (map decimal xs) ≡ true
numbers_good bands [] few h = refl
numbers_good bands (x ∷ xs) few h = let below = h.0 in both (digits_word (decimal x) (decimal_digits x (omega arith))) (numbers_good bands xs few h.1)

-- a number of the priomap is read as itself

numeral : (n : ℕ) → n < 2 ^ 64 → is_numeral 10 (decimal n) ≡ true
numeral n small = let d = decimal_is_IsNumeral n small in both (lt-ltb _ _ d.0.0) (digits_from_numeral 10 (decimal n) d.0.1)

band_is : (n : ℕ) → n ≤ 16 → band_number (decimal n) ≡ n
band_is n few = let d = decimal_is_IsNumeral n (omega arith) in ap (λ k. min k 16) d.1 ∙ omega arith

-- the options so far: the bands, and the numbers of the priomap, the first of which has this index
abbrev mapped : ℕ → ℕ → List ℕ → OptionDraft
mapped bands from xs = record no_options { bands = Some bands; priomap = Some (record { from = from; numbers = xs }) }

abbrev pub at_map : QdiscVerb → HeadDraft → OptionDraft → Position
at_map v h o = Positions.priomap v h kind_name.Prio o

abbrev pub at_options : QdiscVerb → HeadDraft → OptionDraft → Position
at_options v h o = options v h kind_name.Prio o

abbrev next : QdiscVerb → HeadDraft → ℕ → ℕ → List ℕ → Position
next v h bands from xs = if length xs == 16 then at_options v h (mapped bands from xs) else at_map v h (mapped bands from xs)

first_fits : (v : QdiscVerb) (h : HeadDraft) (bands i x : ℕ) → x ≤ 16 → fits i (at_map v h (record no_options { bands = Some bands })) (decimal x) ≡ Ok (at_map v h (mapped bands i (x ∷ [])))
first_fits v h bands i x few =
    ap (λ (t : Bool). if t then Ok (at_map v h (mapped bands i (band_number (decimal x) ∷ []))) else Err BadNumber) (numeral x (omega arith))
    ∙ ap (λ n. Ok (at_map v h (mapped bands i (n ∷ [])))) (band_is x few)

number_fits : (v : QdiscVerb) (h : HeadDraft) (bands from i x : ℕ) (acc : List ℕ) → x ≤ 16 → fits i (at_map v h (mapped bands from acc)) (decimal x) ≡ Ok (next v h bands from (acc ++ x ∷ []))
number_fits v h bands from i x acc few =
    ap (λ (t : Bool). if t then Ok (next v h bands from (acc ++ band_number (decimal x) ∷ [])) else Err BadNumber) (numeral x (omega arith))
    ∙ ap (λ n. Ok (next v h bands from (acc ++ n ∷ []))) (band_is x few)

is_next : (v : QdiscVerb) (h : HeadDraft) (bands from : ℕ) (xs : List ℕ) (t : Bool) → (length xs == 16) ≡ t
    → next v h bands from xs ≡ (if t then at_options v h (mapped bands from xs) else at_map v h (mapped bands from xs))
is_next v h bands from xs t e = ap (λ (t : Bool). if t then at_options v h (mapped bands from xs) else at_map v h (mapped bands from xs)) e

not_sixteen : (n : ℕ) → n < 16 → (n == 16) ≡ false
not_sixteen n h = grind (arith, nat_tests)

number_word : (x : ℕ) → x ≤ 16 → Word (decimal x)
number_word x few = decimal_word x (omega arith)

numbers_read : (xs : List ℕ) (v : QdiscVerb) (h : HeadDraft) (bands from i : ℕ) (acc : List ℕ) → bands ≤ 16 → Below bands xs → length acc + length xs ≡ 16 → 1 ≤ length xs
    → (j : ℕ) × (rest_of (at_map v h (mapped bands from acc)) i (map decimal xs) ≡ rest_of (at_options v h (mapped bands from (acc ++ xs))) j [])
numbers_read [] v h bands from i acc few below all some = absurd (omega arith)
numbers_read (x ∷ []) v h bands from i acc few below all some =
    let x_below = below.0 in
    let whole : length (acc ++ x ∷ []) ≡ 16 = length-append acc (x ∷ []) ∙ all in (
      suc i,
      word_at (at_map v h (mapped bands from acc)) (at_options v h (mapped bands from (acc ++ x ∷ []))) (decimal x) i [] (number_word x (omega arith))
          (number_fits v h bands from i x acc (omega arith) ∙ ap Ok (is_next v h bands from (acc ++ x ∷ []) true (eq-eqb _ _ whole))),
    )
numbers_read (x ∷ y ∷ ys) v h bands from i acc few below all some =
    let x_below = below.0 in
    let more : length (acc ++ x ∷ []) ≡ length acc + 1 = length-append acc (x ∷ []) in
    let rest = numbers_read (y ∷ ys) v h bands from (suc i) (acc ++ x ∷ []) few below.1 (omega arith) (omega arith) in (
      rest.0,
      word_at (at_map v h (mapped bands from acc)) (at_map v h (mapped bands from (acc ++ x ∷ []))) (decimal x) i (map decimal (y ∷ ys)) (number_word x (omega arith))
          (number_fits v h bands from i x acc (omega arith) ∙ ap Ok (is_next v h bands from (acc ++ x ∷ []) false (not_sixteen _ (omega arith))))
          ∙ rest.1 ∙ ap (λ l. rest_of (at_options v h (mapped bands from l)) rest.0 []) (append_assoc acc (x ∷ []) (y ∷ ys)),
    )

-- the line ends with a priomap that names bands alone

below_passes : (bands : ℕ) (xs : List ℕ) → Below bands xs → list_all (λ n. not (leb bands n)) xs ≡ true
below_passes bands [] h = refl
below_passes bands (x ∷ xs) h = both (passes x h.0) (below_passes bands xs h.1)
  where
    passes : (n : ℕ) → n < bands → not (leb bands n) ≡ true
    passes n h = grind (arith, nat_tests)

no_bad_band : (bands : ℕ) (xs : List ℕ) → Below bands xs → position (λ n. leb bands n) xs ≡ None
no_bad_band bands xs h =
    let none : position_or_len (λ n. leb bands n) xs ≡ length xs = prefix_all (λ n. not (leb bands n)) xs (below_passes bands xs h) in
    ap (λ k. cond (ltb k (length xs)) (Some k) None) none ∙ ap (λ (t : Bool). cond t (Some (length xs)) None) (not_below_itself (length xs))

abbrev verdict : QdiscVerb → HeadDraft → ℕ → List ℕ → ℕ → Option ℕ → Bool → Result Line LineFault
verdict v h bands xs index late whole =
    elim late as (λ _. Result Line LineFault) [
      | Some word ↦ Err (fault.OutOfRange word)
      | None ↦ said
          (option_map Tc (option_and_then (qdisc_line v h)
          (option_map (λ m. Prio (record { bands = bands; priomap = m })) (if whole then Some xs else None)))) index
    ]

map_ends : (v : QdiscVerb) (h : HeadDraft) (bands from index : ℕ) (xs : List ℕ) (c : Command) → Below bands xs → length xs ≡ 16
    → qdisc_line v h (Prio (record { bands = bands; priomap = xs })) ≡ Some c
    → rest_of (at_options v h (mapped bands from xs)) index [] ≡ Ok (Tc c)
map_ends v h bands from index xs c below all made =
    ap (λ late. verdict v h bands xs index (option_map (λ i. from + i) late) (length xs == 16)) (no_bad_band bands xs below)
    ∙ ap (verdict v h bands xs index None) (eq-eqb _ _ all)
    ∙ ap (λ o. said (option_map Tc o) index) made

priomap_read : (v : QdiscVerb) (h : HeadDraft) (bands i : ℕ) (xs : List ℕ) (c : Command) → bands ≤ 16 → Below bands xs → length xs ≡ 16
    → qdisc_line v h (Prio (record { bands = bands; priomap = xs })) ≡ Some c
    → rest_of (at_map v h (record no_options { bands = Some bands })) i (map decimal xs) ≡ Ok (Tc c)
priomap_read v h bands i [] c few below all made = absurd (omega arith)
priomap_read v h bands i (x ∷ xs) c few below all made =
    let x_below = below.0 in
    let rest = numbers_read xs v h bands i (suc i) (x ∷ []) few below.1 (omega arith) (omega arith) in
    word_at (at_map v h (record no_options { bands = Some bands })) (at_map v h (mapped bands i (x ∷ []))) (decimal x) i (map decimal xs)
    (number_word x (omega arith)) (first_fits v h bands i x (omega arith))
    ∙ rest.1 ∙ map_ends v h bands i rest.0 (x ∷ xs) c below all made

-- behind the kind's name
pub prio_says : (v : QdiscVerb) (h : HeadDraft) (s : PrioSettings) (c : Command) → IsPrio s → qdisc_line v h (Prio s) ≡ Some c
    → Says (at_options v h no_options) (Tc c) (codes "bands" ∷ decimal s.bands ∷ codes "priomap" ∷ map decimal s.priomap)
prio_says v h s c is made =
    let few = is.few.1 in
    let below = recursion_from_All (λ band. band < s.bands) s.priomap is.there in
    let start = record no_options { bands = Some s.bands } in
    chain_says (at_options v h no_options) (at_map v h start) (Tc c) (codes "bands" ∷ decimal s.bands ∷ codes "priomap" ∷ []) (map decimal s.priomap)
    (chain (at_options v h no_options) (at_options v h start) (at_map v h start) (codes "bands" ∷ decimal s.bands ∷ []) (codes "priomap" ∷ [])
    (pair (at_options v h no_options) (option_value Positions.bands v h kind_name.Prio no_options) (at_options v h start) (codes "bands") (decimal s.bands) (refl, refl) (decimal_word s.bands (omega arith)) (λ i. refl)
    (λ i. ap (λ r. value r (λ n. at_options v h (record no_options { bands = Some n }))) (number_read 2 16 s.bands is.few.0 few (lit< tt))))
    (word (at_options v h start) (at_map v h start) (codes "priomap") (refl, refl) (λ i. refl)))
    (record { good = numbers_good s.bands s.priomap few below; read = λ i. priomap_read v h s.bands i s.priomap c few below is.each made })

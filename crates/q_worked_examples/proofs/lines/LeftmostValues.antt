-- Where the fault of a line lies, with a priomap in it: its bands are judged once every word of the line fits.
-- The order of faults is that of docs/LANGUAGE.md, "Order of faults".
use Rattle.std.proofs.Common.{◌≡◌, ℕ, List, [], ◌∷◌, ◌++◌, map, Option, Some, None, refl}
use Rattle.std.specs.Prelude.{codes, Ok, Err}
use Rattle.q_words.specs.Words.{words_in}
use Rattle.q_words.specs.declared.line_fault.LineFault.{LineFault}
use Rattle.q_words.specs.declared.line_fault.LineFault.TheVariants as fault
use Rattle.q_line.specs.Grammar.{late_fault, line_of, line_of_words}
use Rattle.q_line.specs.Laws.{FitSoFar, reached}
use Rattle.q_line.specs.Positions.{first}
use Rattle.q_worked_examples.proofs.SharedRules.{line_rules}

abbrev fault_in : List ℕ → Option LineFault
fault_in bytes = elim (line_of bytes) [ Ok line ↦ None | Err fault ↦ Some fault ]

-- the word of a band that is put off, where the line could end
abbrev put_off : List ℕ → Option ℕ
put_off bytes = elim (reached first 1 (words_in bytes)) [ Ok position ↦ late_fault position | Err e ↦ None ]

-- what stands before the numbers of a priomap, which begin at word 9
abbrev prio : List ℕ
prio = codes "tc qdisc add dev e root prio priomap "

-- a later word comes first, then the leftmost band, then a missing word
order :
    map fault_in
    ((prio ++ codes "0 9 x") ∷
    (prio ++ codes "0 9 8") ∷
    (prio ++ codes "0 1 2") ∷
    (prio ++ codes "0 0 0 0 0 0 0 0 0 0 0 0 0 0 3 4") ∷
    (prio ++ codes "0 0 0 0 0 0 0 0 0 0 0 0 0 0 3 4 bands") ∷
    (prio ++ codes "0 0 0 0 0 0 0 0 0 0 0 0 0 0 3 4 bands 4") ∷
    (prio ++ codes "0 0 0 0 0 0 0 0 0 0 0 0 0 0 3 4 bands 5") ∷
    (prio ++ codes "0 0 0 0 0 0 0 0 0 0 0 0 0 0 3 4 bands 17") ∷
    (prio ++ codes "0 0 0 0 0 0 0 0 0 0 0 0 0 0 3 4 bands 5 bands") ∷
    codes "tc qdisc add root prio priomap 0 9" ∷
    codes "tc qdisc add root prio priomap 0 0 0 0 0 0 0 0 0 0 0 0 0 0 0 0" ∷ []) ≡
    (Some (fault.BadNumber 11) ∷
    Some (fault.OutOfRange 10) ∷
    Some (fault.Missing 12) ∷
    Some (fault.OutOfRange 23) ∷
    Some (fault.OutOfRange 23) ∷
    Some (fault.OutOfRange 24) ∷
    None ∷
    Some (fault.OutOfRange 26) ∷
    Some (fault.Twice 27) ∷
    Some (fault.OutOfRange 8) ∷
    Some (fault.Missing 23) ∷ [])
unfolding line_rules
order = refl

-- the band is put off at each word behind it, until `bands` says that there are enough
judged_at_the_end :
    map put_off
    ((prio ++ codes "0") ∷
    (prio ++ codes "0 9") ∷
    (prio ++ codes "0 9 8 0 0 0 0 0 0 0 0 0 0 0 0 0") ∷
    (prio ++ codes "0 9 8 0 0 0 0 0 0 0 0 0 0 0 0 0 bands 9") ∷
    (prio ++ codes "0 9 8 0 0 0 0 0 0 0 0 0 0 0 0 0 bands 10") ∷ []) ≡
    None ∷ Some 10 ∷ Some 10 ∷ Some 10 ∷ None ∷ []
unfolding line_rules
judged_at_the_end = refl

-- words with such a band in them fit so far
fits_with_a_bad_band : FitSoFar (words_in (prio ++ codes "0 9"))
unfolding line_rules
fits_with_a_bad_band = refl

fits_where_words_are_missing : FitSoFar (words_in (codes "tc qdisc add handle"))
unfolding line_rules
fits_where_words_are_missing = refl

-- and words of which one does not fit do not
does_not_fit : line_of_words (words_in (prio ++ codes "0 x") ++ (255 ∷ []) ∷ []) ≡ Err (fault.BadNumber 10)
unfolding line_rules
does_not_fit = refl

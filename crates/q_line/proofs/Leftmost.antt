-- A fault lies at the leftmost word that does not fit, or at the end of a line whose words fit: by induction on the words.
use Rattle.std.proofs.Common.{◌≡◌, ◌∙◌, ℕ, zero, suc, ◌+◌, ◌<◌, ◌≤◌, ◌⊎◌, inl, inr, Bool, true, false, List, [], ◌∷◌, ◌++◌, length, take, Result, Ok, Err, Option, Some, None, refl, sym, ap, subst, arith, if◌then◌else◌}
use Rattle.std.specs.Str.{is_utf8, chars}
use Rattle.std.proofs.lemmas.List.{length-take-le}
use Rattle.q_words.specs.FaultText.{fault_word}
use Rattle.q_words.specs.Words.{is_blank_line}
use Rattle.q_line.specs.Laws.{FitSoFar, IsAtWord, IsAtEnd, IsJudged, FaultsAreLeftmost, reached}
use Rattle.q_line.specs.Grammar.{after, ended, ends, fits, late_fault, line_of_words, numbered, rest_of, said}
use Rattle.q_line.specs.Positions.{Position, first}
use Rattle.q_line.specs.declared.line.Line.{Line}
use Rattle.q_line.specs.declared.line.Line.TheVariants.{Blank}
use Rattle.q_words.specs.declared.line_fault.LineFault.{LineFault}
use Rattle.q_words.specs.declared.line_fault.LineFault.TheVariants as fault
use Rattle.q_words.specs.declared.wrong.Wrong.{Wrong}
use Rattle.q_words.specs.declared.wrong.Wrong.TheVariants as wrong
use Rattle.q_line.proofs.LateBands.{Stands, late_within, reached_stands}
use Rattle.q_line.proofs.Steps.{continued, reached_by, rest_of-cons, word_fits}

abbrev read : Position → ℕ → List (List ℕ) → Result Line LineFault
read p i ws = rest_of p i ws

abbrev bad : List (List ℕ)
bad = (255 ∷ []) ∷ []

word_faults : (p : Position) (x : Wrong) (i : ℕ) (w : List ℕ) (ws : List (List ℕ)) → after i p w ≡ Err x → read p i (w ∷ ws) ≡ Err (numbered x i)
word_faults p x i w ws e = rest_of-cons p i w ws ∙ ap (λ r. continued r i ws) e

not_utf8 : is_utf8 (255 ∷ []) ≡ false
unfolding is_utf8 chars lib.Utf8.encode
not_utf8 = refl

bad_word : (p : Position) (i : ℕ) → read p i bad ≡ Err (fault.BadUtf8 i)
bad_word p i = word_faults p wrong.BadUtf8 i (255 ∷ []) [] (ap (λ (b : Bool). if b then fits i p (255 ∷ []) else Err wrong.BadUtf8) not_utf8)

index_numbered : (x : Wrong) (i : ℕ) → fault_word (numbered x i) ≡ i
index_numbered wrong.UnknownWord i = refl
index_numbered wrong.BadNumber i = refl
index_numbered wrong.OutOfRange i = refl
index_numbered wrong.Twice i = refl
index_numbered wrong.BadUtf8 i = refl

-- these words fit from here on, where the word behind them has this index
abbrev Fits : Position → ℕ → List (List ℕ) → ℕ → Type 0
Fits p i ws next = read p i (ws ++ bad) ≡ Err (fault.BadUtf8 next)

record AtWord (p : Position) (i : ℕ) (ws : List (List ℕ)) (f : LineFault) : Type 0 where
  low : i ≤ fault_word f
  high : fault_word f < i + length ws
  before : (n next : ℕ) → next ≡ i + n → next ≤ fault_word f → Fits p i (take n ws) next
  behind : (n : ℕ) (others : List (List ℕ)) → fault_word f < i + n → n ≤ length ws → read p i (take n ws ++ others) ≡ Err f

record AtEnd (p : Position) (i : ℕ) (ws : List (List ℕ)) (f : LineFault) : Type 0 where
  fit : (n next : ℕ) → next ≡ i + n → n ≤ length ws → Fits p i (take n ws) next
  judged : (q : Position) × (reached p i ws ≡ Ok q) × IsJudged q (i + length ws) f

abbrev From : Position → ℕ → List (List ℕ) → LineFault → Type 0
From p i ws f = AtWord p i ws f ⊎ AtEnd p i ws f

nothing_yet : (p : Position) (i next : ℕ) → next ≡ i → Fits p i [] next
nothing_yet p i next e = bad_word p i ∙ ap (λ n. Err (fault.BadUtf8 n)) (sym e)

same_fault : (f g : LineFault) (r : Result Line LineFault) → r ≡ Err f → r ≡ Err g → f ≡ g
same_fault f g r e k = let both : Err f ≡ Err g = sym e ∙ k in cc

abbrev answer : Position → ℕ → Option ℕ → Result Line LineFault
answer p i late = elim late as (λ _. Result Line LineFault) [ Some word ↦ Err (fault.OutOfRange word) | None ↦ said (ends p) i ]

-- the words are at their end
at_end : (p : Position) (i : ℕ) (f : LineFault) → ended p i ≡ Err f → AtEnd p i [] f
at_end p i f e = record { fit = λ n next q h. fit n next q h; judged = (p, refl, by_late (late_fault p) refl) }
  where
    fit : (n next : ℕ) → next ≡ i + n → n ≤ 0 → Fits p i (take n []) next
    fit zero next q h = nothing_yet p i next (omega arith)
    fit (suc n) next q h = absurd (omega arith)

    by_ends : late_fault p ≡ None → (end : Option Line) → ends p ≡ end → IsJudged p (i + 0) f
    by_ends late None q =
        let h : ended p i ≡ Err (fault.Missing i) = ap (answer p i) late ∙ ap (λ end. said end i) q in
        let g : fault.Missing i ≡ fault.Missing (i + 0) = ap fault.Missing (omega arith) in
        inr (late, q, same_fault f (fault.Missing i) _ e h ∙ g)
    by_ends late (Some line) q =
        let h : ended p i ≡ Ok line = ap (answer p i) late ∙ ap (λ end. said end i) q in let k : Ok line ≡ Err f = sym h ∙ e in absurd (cc)

    by_late : (late : Option ℕ) → late_fault p ≡ late → IsJudged p (i + 0) f
    by_late (Some word) q = let h : ended p i ≡ Err (fault.OutOfRange word) = ap (answer p i) q in inl (word, q, same_fault f (fault.OutOfRange word) _ e h)
    by_late None q = by_ends q (ends p) refl

-- a word that does not fit
at_word : (p : Position) (i : ℕ) (w : List ℕ) (ws : List (List ℕ)) (x : Wrong) → after i p w ≡ Err x → AtWord p i (w ∷ ws) (numbered x i)
at_word p i w ws x e = let index = index_numbered x i in record {
  low = omega arith;
  high = omega arith;
  before = λ n next q h. at n next q (omega arith);
  behind = λ n others h k. from n others (omega arith);
}
  where
    at : (n next : ℕ) → next ≡ i + n → next ≤ i → Fits p i (take n (w ∷ ws)) next
    at zero next q h = nothing_yet p i next (omega arith)
    at (suc n) next q h = absurd (omega arith)

    from : (n : ℕ) (others : List (List ℕ)) → i < i + n → read p i (take n (w ∷ ws) ++ others) ≡ Err (numbered x i)
    from zero others h = absurd (omega arith)
    from (suc n) others h = word_faults p x i w (take n ws ++ others) e

-- a word that fits, with the fault at a word behind it
past_word : (p q : Position) (i : ℕ) (w : List ℕ) (ws : List (List ℕ)) (f : LineFault) → after i p w ≡ Ok q → AtWord q (suc i) ws f → AtWord p i (w ∷ ws) f
past_word p q i w ws f e rest = let low = rest.low in let high = rest.high in record {
  low = omega arith;
  high = omega arith;
  before = λ n next k h. at n next k h;
  behind = λ n others h k. from n others h k;
}
  where
    at : (n next : ℕ) → next ≡ i + n → next ≤ fault_word f → Fits p i (take n (w ∷ ws)) next
    at zero next k h = nothing_yet p i next (omega arith)
    at (suc n) next k h = word_fits p q i w (take n ws ++ bad) e ∙ rest.before n next (omega arith) h

    from : (n : ℕ) (others : List (List ℕ)) → fault_word f < i + n → n ≤ length (w ∷ ws) → read p i (take n (w ∷ ws) ++ others) ≡ Err f
    from zero others h k = let low = rest.low in absurd (omega arith)
    from (suc n) others h k = word_fits p q i w (take n ws ++ others) e ∙ rest.behind n others (omega arith) (omega arith)

-- a word that fits, with the fault at the end
past_end : (p q : Position) (i : ℕ) (w : List ℕ) (ws : List (List ℕ)) (f : LineFault) → after i p w ≡ Ok q → AtEnd q (suc i) ws f → AtEnd p i (w ∷ ws) f
past_end p q i w ws f e rest = record { fit = λ n next k h. at n next k h; judged = (rest.judged.0, ap (reached_by i ws) e ∙ rest.judged.1, judged) }
  where
    judged : IsJudged rest.judged.0 (i + length (w ∷ ws)) f
    judged = let index : suc i + length ws ≡ i + length (w ∷ ws) = omega arith in subst (λ n. IsJudged rest.judged.0 n f) index rest.judged.2

    at : (n next : ℕ) → next ≡ i + n → n ≤ length (w ∷ ws) → Fits p i (take n (w ∷ ws)) next
    at zero next k h = nothing_yet p i next (omega arith)
    at (suc n) next k h = word_fits p q i w (take n ws ++ bad) e ∙ rest.fit n next (omega arith) (omega arith)

from_here : (ws : List (List ℕ)) (p : Position) (i : ℕ) (f : LineFault) → read p i ws ≡ Err f → From p i ws f
from_here [] p i f e = inr (at_end p i f e)
from_here (w ∷ ws) p i f e = by_word (from_here ws) (after i p w) refl
  where
    past : (q : Position) → after i p w ≡ Ok q → From q (suc i) ws f → From p i (w ∷ ws) f
    past q k (inl rest) = inl (past_word p q i w ws f k rest)
    past q k (inr rest) = inr (past_end p q i w ws f k rest)

    by_word : ((q : Position) (j : ℕ) (g : LineFault) → read q j ws ≡ Err g → From q j ws g) → (r : Result Position Wrong) → after i p w ≡ r → From p i (w ∷ ws) f
    by_word more (Ok q) k = past q k (more q (suc i) f (sym (word_fits p q i w ws k) ∙ e))
    by_word more (Err x) k = inl (subst (λ g. AtWord p i (w ∷ ws) g) (same_fault _ _ _ (word_faults p x i w ws k) e) (at_word p i w ws x k))

-- a line that is not blank is read from the first position on, whatever stands behind its first word
not_blank : (w : List ℕ) (ws : List (List ℕ)) → is_blank_line (w ∷ ws) ≡ false → (others : List (List ℕ)) → line_of_words (w ∷ others) ≡ read first 1 (w ∷ others)
not_blank [] ws e others = refl
not_blank (b ∷ bytes) ws e others = ap (λ (t : Bool). if t then Ok Blank else read first 1 ((b ∷ bytes) ∷ others)) e

nothing_fits : FitSoFar []
nothing_fits = not_blank (255 ∷ []) [] refl [] ∙ bad_word first 1

by_judged : (p : Position) {next : ℕ} {f : LineFault} → Stands p next → IsJudged p next f → 1 ≤ next → (1 ≤ fault_word f) × (fault_word f ≤ next)
by_judged p {next} {f} s (inl h) some =
    let place = late_within p next h.0 s h.1 in
    let low = place.0 in
    let high = place.1 in
    let is : fault_word f ≡ h.0 = ap fault_word h.2 in (omega arith, omega arith)
by_judged p {next} {f} s (inr h) some = let is : fault_word f ≡ next = ap fault_word h.2 in (omega arith, omega arith)

pub leftmost : FaultsAreLeftmost
leftmost [] f e = absurd (let k : Ok Blank ≡ Err f = e in cc)
leftmost (w ∷ ws) f e = by_blank (is_blank_line (w ∷ ws)) refl
  where
    by_blank : (t : Bool) → is_blank_line (w ∷ ws) ≡ t → IsAtWord (w ∷ ws) f ⊎ IsAtEnd (w ∷ ws) f
    by_blank true q = absurd (let k : Ok Blank ≡ Err f = sym (ap (λ (t : Bool). if t then Ok Blank else read first 1 (w ∷ ws)) q) ∙ e in cc)
    by_blank false q = by_place (from_here (w ∷ ws) first 1 f (sym (not_blank w ws q ws) ∙ e))
      where
        fitting : (n : ℕ) → n ≤ length ws → Fits first 1 (take (suc n) (w ∷ ws)) (suc (suc n)) → FitSoFar (take (suc n) (w ∷ ws))
        fitting n h known =
            let count : length (take n ws) ≡ n = length-take-le n ws h in
            not_blank w ws q (take n ws ++ bad) ∙ known ∙ ap (λ m. Err (fault.BadUtf8 (suc (suc m)))) (sym count)

        before : AtWord first 1 (w ∷ ws) f → (n : ℕ) → n < fault_word f → FitSoFar (take n (w ∷ ws))
        before here zero h = nothing_fits
        before here (suc n) h = let high = here.high in fitting n (omega arith) (here.before (suc n) (suc (suc n)) (omega arith) (omega arith))

        behind : AtWord first 1 (w ∷ ws) f → (n : ℕ) (others : List (List ℕ)) → fault_word f ≤ n → n ≤ length (w ∷ ws) → line_of_words (take n (w ∷ ws) ++ others) ≡ Err f
        behind here zero others h k = let low = here.low in absurd (omega arith)
        behind here (suc n) others h k = not_blank w ws q (take n ws ++ others) ∙ here.behind (suc n) others (omega arith) k

        fit : AtEnd first 1 (w ∷ ws) f → (n : ℕ) → n ≤ length (w ∷ ws) → FitSoFar (take n (w ∷ ws))
        fit here zero h = nothing_fits
        fit here (suc n) h = fitting n (omega arith) (here.fit (suc n) (suc (suc n)) (omega arith) h)

        judged : (here : AtEnd first 1 (w ∷ ws) f) → IsJudged here.judged.0 (suc (length (w ∷ ws))) f
        judged here = let next : 1 + length (w ∷ ws) ≡ suc (length (w ∷ ws)) = omega arith in subst (λ n. IsJudged here.judged.0 n f) next here.judged.2

        within : AtEnd first 1 (w ∷ ws) f → (1 ≤ fault_word f) × (fault_word f ≤ suc (length (w ∷ ws)))
        within here = by_judged here.judged.0 (reached_stands (w ∷ ws) first here.judged.0 1 (suc (length (w ∷ ws))) (omega arith) (omega arith) tt here.judged.1) (judged here) (omega arith)

        by_place : From first 1 (w ∷ ws) f → IsAtWord (w ∷ ws) f ⊎ IsAtEnd (w ∷ ws) f
        by_place (inl here) = let low = here.low in let high = here.high in inl (record {
          from_one = low;
          to_the_last = omega arith;
          before = λ n h. before here n h;
          behind = λ n others h k. behind here n others h k;
        })
        by_place (inr here) = let place = within here in inr (record { from_one = place.0; to_one_past = place.1; fit = λ n h. fit here n h; judged = (here.judged.0, here.judged.1, judged here) })

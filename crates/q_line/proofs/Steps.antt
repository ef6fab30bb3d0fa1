-- One word of a line that is not UTF-8 is that fault, at every position; and a line from its first word on.
use Rattle.std.proofs.Common.{◌≡◌, ◌∙◌, ℕ, suc, Bool, true, false, List, ◌∷◌, sym, Result, Ok, Err, refl, ap, if◌then◌else◌}
use Rattle.std.specs.Str.{is_utf8, IsUtf8}
use Rattle.std.proofs.lemmas.Str.{IsUtf8-from_is_utf8}
use Rattle.q_words.specs.Words.{words_in, is_blank_line}
use Rattle.q_words.specs.declared.line_fault.LineFault.{LineFault}
use Rattle.q_words.specs.declared.line_fault.LineFault.TheVariants as fault
use Rattle.q_words.specs.declared.wrong.Wrong.{Wrong}
use Rattle.q_words.specs.declared.wrong.Wrong.TheVariants as wrong
use Rattle.q_line.specs.Grammar.{fits, after, rest_of, numbered, line_of}
use Rattle.q_line.specs.Laws.{reached}
use Rattle.q_line.specs.Positions.{Position, first}
use Rattle.q_line.specs.declared.line.Line.{Line}
use Rattle.q_line.specs.declared.line.Line.TheVariants.{Blank}

-- what the words from an answer of a position on say
abbrev pub continued : Result Position Wrong → ℕ → List (List ℕ) → Result Line LineFault
continued (Ok next) index words = rest_of next (suc index) words
continued (Err e) index words = Err (numbered e index)

pub rest_of-cons : (p : Position) (i : ℕ) (w : List ℕ) (ws : List (List ℕ)) → rest_of p i (w ∷ ws) ≡ continued (after i p w) i ws
rest_of-cons p i w ws = by_answer (after i p w)
  where
    by_answer : (r : Result Position Wrong) → (elim r as (λ _. Result Line LineFault) [ Ok next ↦ rest_of next (suc i) ws | Err e ↦ Err (numbered e i) ]) ≡ continued r i ws
    by_answer (Ok next) = refl
    by_answer (Err e) = refl

-- a word that fits
pub word_fits : (p q : Position) (i : ℕ) (w : List ℕ) (ws : List (List ℕ)) → after i p w ≡ Ok q → rest_of p i (w ∷ ws) ≡ rest_of q (suc i) ws
word_fits p q i w ws e = rest_of-cons p i w ws ∙ ap (λ r. continued r i ws) e

-- the position that the words from an answer of a position on reach
abbrev pub reached_by : ℕ → List (List ℕ) → Result Position Wrong → Result Position Wrong
reached_by index words r = elim r as (λ _. Result Position Wrong) [ Ok next ↦ reached next (suc index) words | Err e ↦ Err e ]

pub not_utf8 : (w : List ℕ) → ¬ (IsUtf8 w) → is_utf8 w ≡ false
not_utf8 w h = by_test (is_utf8 w) refl
  where
    by_test : (b : Bool) → is_utf8 w ≡ b → is_utf8 w ≡ false
    by_test true e = absurd (h (IsUtf8-from_is_utf8 w e))
    by_test false e = e

pub bad_utf8 : (p : Position) (i : ℕ) (w : List ℕ) (ws : List (List ℕ)) → ¬ (IsUtf8 w) → rest_of p i (w ∷ ws) ≡ Err (fault.BadUtf8 i)
bad_utf8 p i w ws h =
    rest_of-cons p i w ws ∙ ap (λ r. continued r i ws) (ap (λ (b : Bool). if b then fits i p w else Err wrong.BadUtf8) (not_utf8 w h))

pub whole_line : (bytes : List ℕ) (words : List (List ℕ)) (taken : ℕ) → words ≡ words_in bytes → taken ≡ 0 → is_blank_line (words_in bytes) ≡ false
    → rest_of first (suc taken) words ≡ line_of bytes
whole_line bytes words taken all none says =
    ap (λ i. rest_of first (suc i) words) none ∙ ap (rest_of first 1) all
    ∙ sym (ap (λ (b : Bool). if b then Ok Blank else rest_of first 1 (words_in bytes)) says)

-- What holds of the grammar as a whole: where the fault of a line lies, and that each line can be written.
-- A fault is at the leftmost word that does not fit, or at the end, where every word fits.
-- The bands of a priomap are judged at the end, since `bands` may follow it. The script language is this project's,
-- after tc(8); the laws are stated on functions of the module `laws`.
use Rattle.std.specs.Prelude.{◌≡◌, ℕ, suc, ◌<◌, ◌≤◌, ◌⊎◌, List, [], ◌∷◌, ◌++◌, length, take, true, Some, None, Result, Ok, Err}
use Rattle.std.specs.Str.{IsUtf8}
use Rattle.q_words.specs.FaultText.{fault_word}
use Rattle.q_words.specs.declared.line_fault.LineFault.{LineFault}
use Rattle.q_words.specs.declared.line_fault.LineFault.TheVariants.{Missing, OutOfRange, BadUtf8}
use Rattle.q_words.specs.declared.wrong.Wrong.{Wrong}
use Rattle.q_line.specs.Grammar.{after, ends, late_fault, line_of, line_of_words}
use Rattle.q_line.specs.Positions.{Position, first}
use Rattle.q_line.specs.Ranges.{IsLine}
use Rattle.q_line.specs.Spelling.{is_word, spelling}
use Rattle.q_line.specs.declared.line.Line.{Line}

-- nothing is wrong with these words so far: a word behind them that is not UTF-8 is the fault of the line
abbrev pub FitSoFar : List (List ℕ) → Type 0
FitSoFar words = line_of_words (words ++ (255 ∷ []) ∷ []) ≡ Err (BadUtf8 (suc (length words)))

-- the words before the fault's word fit, and its word is wrong whatever follows it
pub record IsAtWord (words : List (List ℕ)) (fault : LineFault) : Type 0 where
  pub from_one : 1 ≤ fault_word fault
  pub to_the_last : fault_word fault ≤ length words
  pub before : (n : ℕ) → n < fault_word fault → FitSoFar (take n words)
  pub behind : (n : ℕ) (others : List (List ℕ)) → fault_word fault ≤ n → n ≤ length words → line_of_words (take n words ++ others) ≡ Err fault

-- the position behind words that fit, the first of which has this index
abbrev pub reached : Position → ℕ → List (List ℕ) → Result Position Wrong
reached position index [] = Ok position
reached position index (word ∷ words) = elim (after index position word) [ Ok next ↦ reached next (suc index) words | Err e ↦ Err e ]

-- what is wrong with a line that ends at this position: first a number of a priomap that names no band, then a missing word
abbrev pub IsJudged : Position → ℕ → LineFault → Type 0
IsJudged position index fault =
    ((word : ℕ) × (late_fault position ≡ Some word) × (fault ≡ OutOfRange word))
    ⊎ ((late_fault position ≡ None) × (ends position ≡ None) × (fault ≡ Missing index))

-- all of the words fit, and what they say together is judged
pub record IsAtEnd (words : List (List ℕ)) (fault : LineFault) : Type 0 where
  -- it is at one of the words, or one past the last
  pub from_one : 1 ≤ fault_word fault
  pub to_one_past : fault_word fault ≤ suc (length words)
  pub fit : (n : ℕ) → n ≤ length words → FitSoFar (take n words)
  pub judged : (position : Position) × (reached first 1 words ≡ Ok position) × IsJudged position (suc (length words)) fault

abbrev pub FaultsAreLeftmost : Type 0
FaultsAreLeftmost = (words : List (List ℕ)) (fault : LineFault) → line_of_words words ≡ Err fault → IsAtWord words fault ⊎ IsAtEnd words fault

-- a device's name that a line can have
pub record IsName (name : List ℕ) : Type 0 where
  pub word : is_word name ≡ true
  pub short : length name ≤ 15
  pub text : IsUtf8 name

-- each line whose parts are in range can be written, with any name for the device, and is read as itself
abbrev pub SpellingsAreRead : Type 0
SpellingsAreRead = (name packet : List ℕ) (line : Line) → IsName name → IsLine packet line → line_of (spelling name packet line) ≡ Ok line

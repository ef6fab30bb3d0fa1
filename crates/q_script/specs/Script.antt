-- The lines of a script, and how a report speaks of one of them: by its number, counted from 1.
-- The texts are those of this project's script language.
use Rattle.std.specs.Prelude.{ℕ, Bool, ◌==◌, List, [], ◌∷◌, ◌++◌, if◌then◌else◌, codes, decimal}
use Rattle.std.specs.List.{list_any}
use Rattle.q_words.specs.FaultText.{fault_text}
use Rattle.q_words.specs.declared.line_fault.LineFault.{LineFault}

abbrev pub newline : List ℕ
newline = 10 ∷ []

-- each line ends with byte 10, and the last one with the script, where it has any byte
abbrev pub onto_first : ℕ → List (List ℕ) → List (List ℕ)
onto_first b [] = (b ∷ []) ∷ []
onto_first b (l ∷ lines) = (b ∷ l) ∷ lines

abbrev pub lines_of : List ℕ → List (List ℕ)
lines_of [] = []
lines_of (b ∷ bytes) = if b == 10 then [] ∷ lines_of bytes else onto_first b (lines_of bytes)

-- an allocation fails at the lines of these numbers
abbrev pub is_starved : List ℕ → ℕ → Bool
is_starved starved k = list_any (λ n. n == k) starved

-- what is said of a line begins with its number
abbrev pub line_text : ℕ → List ℕ
line_text k = codes "line " ++ decimal k ++ codes ": "

abbrev pub fault_line : ℕ → LineFault → List ℕ
fault_line k f = line_text k ++ fault_text f ++ newline

-- The rule of a book of rows, and what the step that adds a row reports.
use Rattle.std.specs.Prelude.{ℕ, ◌≡◌, ◌==◌, true, List, [], ◌∷◌, ◌++◌, length, MatchBool}
use Rattle.logbook.specs.Pages.{Cell, Step, View, Book, Named}
use Rattle.q_model.specs.declared.row.Row.{Row}
use Rattle.q_ports.specs.Rows.{IsLegal}

-- The first word is the length of the history, which is legal. A book has two words, of which this one leaves the second at 0.
pub record IsKept (cells : List Cell) (log : List Row) : Type 0 where
  pub words : cells ≡ (length log, true) ∷ (0, true) ∷ []
  pub legal : IsLegal log

abbrev pub head_of : Book → Named
head_of b = record { tracked = true; key = 0; book = b }

-- the row was added to all that had been seen; or the history was longer, and was seen
abbrev pub Adds : Step Row → View Row ℕ → ℕ → View Row ℕ → Type 0
Adds s v found w = MatchBool (found == s.old) ((w.0 ≡ v.0 ++ s.ask ∷ []) × IsLegal w.0) (IsLegal w.0)

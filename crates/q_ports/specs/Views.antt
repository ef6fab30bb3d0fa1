-- What the drain and its gauges know of the board that they share: which rows it has shown.
use Rattle.std.specs.Prelude.{◌≡◌, ℕ, ◌+◌, true, false, List, [], ◌∷◌, ◌++◌}
use Rattle.std.specs.List.{fold}
use mathlib.Core.Option.{some}
use lib.ListN.{get_elem?}
use Rattle.q_ports.specs.declared.board.Board.{Board}
use Rattle.q_ports.specs.declared.board_view.BoardView.{BoardView}
use Rattle.q_ports.specs.Rows.{Continues, RowHistorySeen}

-- what is known is a beginning of what is shown
abbrev pub HasBeenShown : Board → BoardView → Type 0
HasBeenShown x v = v.known ≡ true → Continues v.front x.front

abbrev pub IsShared : Board → List BoardView → Type 0
IsShared x views = (seat : ℕ) (v : BoardView) → get_elem? views seat ≡ some v → HasBeenShown x v

-- nothing is known yet
abbrev pub newcomer : BoardView
newcomer = record { known = false; reads = 0; front = record { book = record { number = 0; log_name = 0; cells_name = 0 }; rows = [] } }

abbrev pub knows : ℕ → RowHistorySeen → BoardView
knows reads f = record { known = true; reads = reads; front = f }

-- The board is read, or changed, once more. What it shows then is known, and goes on behind what was known before.
pub record Reads (v : BoardView) (x y : Board) (w : BoardView) : Type 0 where
  pub seen : w ≡ knows (v.reads + 1) y.front
  pub continues : v.known ≡ true → Continues v.front y.front

-- what a contract sees of the writer: what the board shows, and what was appended since, which it does not show yet
pub record WriterSeen : Type 0 where
  pub shown : RowHistorySeen
  pub pending : List RowHistorySeen

abbrev pub writer_seen : RowHistorySeen → List RowHistorySeen → WriterSeen
writer_seen shown pending = record { shown = shown; pending = pending }

-- the last of these, and the first where there are no others
abbrev pub last_front : RowHistorySeen → List RowHistorySeen → RowHistorySeen
last_front first others = fold (λ (x y : RowHistorySeen). y) first others

-- what was appended last, and what is shown where nothing was
abbrev pub newest : WriterSeen → RowHistorySeen
newest w = last_front w.shown w.pending

-- a front more was appended
abbrev pub appending : WriterSeen → RowHistorySeen → WriterSeen
appending w f = writer_seen w.shown (w.pending ++ f ∷ [])

-- the board shows what was appended last
abbrev pub showing : WriterSeen → WriterSeen
showing w = writer_seen (newest w) []

-- each goes on behind the one before
abbrev pub AreContinued : RowHistorySeen → List RowHistorySeen → Type 0
AreContinued first [] = Unit {0}
AreContinued first (f ∷ others) = Continues first f × AreContinued f others

-- Histories of a device's row: which are legal, and what a contract sees of a beginning of one.
-- The counters are those of `tc -s qdisc show` (tc(8)), which never fall; the rest is this project's own.
use Rattle.std.specs.Prelude.{◌≡◌, ℕ, List, [], ◌∷◌, ◌++◌, ◌⊎◌}
use mathlib.Core.List.{IsPrefix}
use Rattle.logbook.specs.Pages.{Book}
use Rattle.q_device.specs.Counters.{IsNotBelow}
use Rattle.q_model.specs.declared.row.Row.{Row}
use Rattle.q_model.specs.Conserved.{IsBalanced}
use Rattle.q_model.specs.Tally.{no_totals}

-- the row of a device at which nothing has arrived
abbrev pub opening : Row
opening = record { arrived = no_totals; sent = no_totals; refused = no_totals; dropped = no_totals; queued = no_totals; marked = no_totals }

-- no counter is lower; what is queued may be
pub record IsNotLower (before after : Row) : Type 0 where
  pub arrived : IsNotBelow before.arrived after.arrived
  pub sent : IsNotBelow before.sent after.sent
  pub refused : IsNotBelow before.refused after.refused
  pub dropped : IsNotBelow before.dropped after.dropped
  pub marked : IsNotBelow before.marked after.marked

-- each row is balanced, and not lower than the one before
abbrev pub IsRisingFrom : Row → List Row → Type 0
IsRisingFrom first [] = Unit {0}
IsRisingFrom first (r ∷ rows) = IsBalanced r × IsNotLower first r × IsRisingFrom r rows

abbrev pub last_from : Row → List Row → Row
last_from first [] = first
last_from first (r ∷ rows) = last_from r rows

-- the rows after the opening one
abbrev pub IsLegal : List Row → Type 0
IsLegal rows = IsRisingFrom opening rows

-- the last row, and the opening one where there is none
abbrev pub last_of : List Row → Row
last_of rows = last_from opening rows

-- the row may come next
abbrev pub MayFollow : List Row → Row → Type 0
MayFollow rows r = IsBalanced r × IsNotLower (last_of rows) r

-- a beginning of the history that a book keeps
pub record RowHistorySeen : Type 0 where
  pub book : Book
  pub rows : List Row

abbrev pub front_seen : Book → List Row → RowHistorySeen
front_seen book rows = record { book = book; rows = rows }

-- one beginning of a book's history, and a later one
pub record Continues (before after : RowHistorySeen) : Type 0 where
  pub book : after.book ≡ before.book
  pub rows : IsPrefix before.rows after.rows

-- The board of a drain: the rows that were handed over for publication, in order, and those of them that it shows.
pub record BoardSeen : Type 0 where
  pub book : Book
  pub rows : List Row
  pub shown : List Row

abbrev pub board_seen : RowHistorySeen → List Row → BoardSeen
board_seen front shown = record { book = front.book; rows = front.rows; shown = shown }

-- what the board shows
abbrev pub shown_on : BoardSeen → RowHistorySeen
shown_on b = front_seen b.book b.shown

-- the row was handed over, and the board shows all rows
abbrev pub publishing : BoardSeen → Row → BoardSeen
publishing b r = record { book = b.book; rows = b.rows ++ r ∷ []; shown = b.rows ++ r ∷ [] }

-- the row was handed over, and the board shows what it showed
abbrev pub handing_over : BoardSeen → Row → BoardSeen
handing_over b r = record b { rows = b.rows ++ r ∷ [] }

-- the row may come next, and was published
pub record Publishes (before : BoardSeen) (r : Row) (after : BoardSeen) : Type 0 where
  pub follows : MayFollow before.rows r
  pub published : after ≡ publishing before r

-- the row is lower than the last one in some counter, and nothing has changed; or the allocation for the publication failed, and the
-- row waits for the next one
abbrev pub Withholds : BoardSeen → Row → BoardSeen → Type 0
Withholds before r after = (¬ IsNotLower (last_of before.rows) r × (after ≡ before)) ⊎ (after ≡ handing_over before r)

-- Whose rows a gauge reads. The rows that the board showed when the gauge read it last, in order, and those that the gauge has learnt
-- of. How often it has read the board.
pub record GaugeSeen : Type 0 where
  pub book : Book
  pub rows : List Row
  pub learnt : List Row
  pub reads : ℕ

abbrev pub gauge_seen : RowHistorySeen → List Row → ℕ → GaugeSeen
gauge_seen shown learnt reads = record { book = shown.book; rows = shown.rows; learnt = learnt; reads = reads }

-- a gauge that has read nothing, and knows these rows to be on the board
abbrev pub new_gauge : RowHistorySeen → GaugeSeen
new_gauge shown = gauge_seen shown shown.rows 0

-- the gauge has learnt of these rows
abbrev pub learning : GaugeSeen → List Row → GaugeSeen
learning g rows = record g { learnt = rows }

-- The filters that take each value of one field, kept in pieces: values side by side that the same filters take.
-- Nothing here is of a standard.
use Rattle.std.specs.Prelude.{◌≡◌, ◌<◌, ◌≤◌, ◌^◌, ◌&&◌, ◌||◌, ◌==◌, Bool, List, Some, false, length, nat_le, slice_get, suc, ℕ}
use Rattle.std.specs.Option.{option_map_or}
use Rattle.std.specs.List.Sorted.{IsNonDecreasingBy}
use Rattle.q_tree.specs.filters.FilterSets.{holds}
use Rattle.q_tree.specs.declared.filters.field_sets.Piece.{Piece}
use Rattle.q_tree.specs.declared.filters.field_sets.Values.{Values}

abbrev pub is_in : Values → ℕ → Bool
is_in v x = nat_le v.first x && nat_le x v.last

-- whether the filter in this place takes a value, of those that take these values
abbrev pub takes_at : List Values → ℕ → ℕ → Bool
takes_at ranges j x = option_map_or (λ (v : Values). is_in v x) (slice_get ranges j) false

abbrev pub start_of : Piece → ℕ
start_of p = p.start

-- a value of the piece in this place
pub record IsInPiece (pieces : List Piece) (i x : ℕ) (p : Piece) : Type 0 where
  pub there : slice_get pieces i ≡ Some p
  pub from : p.start ≤ x
  pub before : (q : Piece) → slice_get pieces (suc i) ≡ Some q → x < q.start

-- pieces in rising order, from 0 on
pub record ArePieces (pieces : List Piece) : Type 0 where
  pub some : 0 < length pieces
  pub begins : (p : Piece) → slice_get pieces 0 ≡ Some p → p.start ≡ 0
  pub rising : IsNonDecreasingBy start_of pieces

-- each piece has those that take its values
pub record IsFieldOf (pieces : List Piece) (ranges : List Values) : Type 0 where
  pub right : (i j x : ℕ) (p : Piece) → IsInPiece pieces i x p → x < 2 ^ 128 → holds p.takers j ≡ takes_at ranges j x

-- a piece starts here
pub record IsStart (pieces : List Piece) (x : ℕ) : Type 0 where
  pub place : ℕ
  pub piece : Piece
  pub there : slice_get pieces place ≡ Some piece
  pub starts : piece.start ≡ x

-- no piece has values that are in these and others that are not
pub record IsCutBy (pieces : List Piece) (v : Values) : Type 0 where
  pub first : IsStart pieces v.first
  pub last : suc v.last < 2 ^ 128 → IsStart pieces (suc v.last)

-- a piece with one filter more, if that takes these values and the piece is of them
pub record IsMarked (place : ℕ) (v : Values) (old new : Piece) : Type 0 where
  pub start : new.start ≡ old.start
  pub takers : (j : ℕ) → holds new.takers j ≡ ((j == place && is_in v old.start) || holds old.takers j)

-- the first n pieces have it
pub record AreMarked (old new : List Piece) (place : ℕ) (v : Values) (n : ℕ) : Type 0 where
  pub long : length new ≡ length old
  pub each : (i : ℕ) (o p : Piece) → i < n → slice_get old i ≡ Some o → slice_get new i ≡ Some p → IsMarked place v o p
  pub others : (i : ℕ) → n ≤ i → slice_get new i ≡ slice_get old i

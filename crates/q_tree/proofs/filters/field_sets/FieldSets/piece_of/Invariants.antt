use Rattle.std.proofs.Common.{◌≡◌, ◌-◌, ◌<◌, ◌≤◌, Some, length, slice_get}
use Rattle.q_tree.specs.declared.filters.field_sets.Piece as specs
use Rattle.q_tree.proofs.filters.field_sets.FieldSets.piece_of.Given as goal

-- the value is not before the lower piece, and before the higher one
abbrev pub invariant-loop-high : goal.invariant-loop-high
invariant-loop-high l = record {
  within : l.low < l.high;
  end : l.high ≤ length l.self;
  from : (p : specs.Piece) → slice_get l.self l.low ≡ Some p → p.start ≤ l.value;
  before : (q : specs.Piece) → slice_get l.self l.high ≡ Some q → l.value < q.start;
}

abbrev pub decreases-loop-high : goal.decreases-loop-high
decreases-loop-high l = l.high - l.low

use Rattle.std.proofs.Common.{◌≡◌, ◌<◌, ◌≤◌, Some, false, length, slice_get, true, ℕ}
use Rattle.q_model.specs.Filters.{matches}
use Rattle.q_model.specs.declared.filter.Filter.{Filter}
use Rattle.q_tree.specs.filters.FilterShapes.{parts_of}
use Rattle.q_tree.specs.filters.IndexOfFilters.{home_of}
use Rattle.q_tree.specs.declared.filters.filter_shape.FilterShape.{FilterShape}
use Rattle.q_tree.proofs.filters.filter_index.FilterIndex.first_match.Given as goal

-- of the groups so far it is known which filter is the first that takes the packet
abbrev pub invariant-loop-group : goal.invariant-loop-group
invariant-loop-group l = record {
  within : l.first ≤ length l.filters;
  takes : (f : Filter) → l.first < length l.filters → slice_get l.filters l.first ≡ Some f → matches l.packet f ≡ true;
  passed : (g j : ℕ) (s : FilterShape) (f : Filter) → g < l.group → slice_get l.self.shapes.items g ≡ Some s → j < l.first
      → slice_get l.self.chains j ≡ Some (home_of g (parts_of s l.packet.key)) → slice_get l.filters j ≡ Some f → matches l.packet f ≡ false;
}

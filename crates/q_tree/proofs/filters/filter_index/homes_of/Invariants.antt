use Rattle.std.proofs.Common.{◌≡◌, ◌≤◌, length}
use Rattle.q_tree.specs.filters.IndexOfFilters.{AreDistinct, AreHomes, AreShapesIn}
use Rattle.q_tree.proofs.filters.filter_index.homes_of.Given as goal

-- the filters so far have their homes
abbrev pub invariant-loop-filter : goal.invariant-loop-filter
invariant-loop-filter l = record {
  long : length l.homes.items ≡ l.filter-index;
  groups : length l.shapes.items ≤ l.filter-index;
  each : AreHomes l.shapes.items l.filters l.homes.items;
  distinct : AreDistinct l.shapes.items;
  shapes : AreShapesIn l.filters l.shapes.items;
}

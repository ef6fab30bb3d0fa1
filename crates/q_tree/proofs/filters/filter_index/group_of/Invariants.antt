use Rattle.std.proofs.Common.{◌≡◌, ◌<◌, Some, slice_get, ℕ}
use Rattle.q_tree.specs.declared.filters.filter_shape.FilterShape as specs
use Rattle.q_tree.proofs.filters.filter_index.group_of.Given as goal

-- none of the groups so far has this shape
abbrev pub invariant-loop-group : goal.invariant-loop-group
invariant-loop-group l = record {
  passed : (j : ℕ) (other : specs.FilterShape) → j < l.group → slice_get l.shapes.items j ≡ Some other → other ≡ l.shape → ⊥;
}

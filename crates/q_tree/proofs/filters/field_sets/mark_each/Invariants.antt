use Rattle.q_tree.specs.filters.FieldSets.{AreMarked}
use Rattle.q_tree.proofs.filters.field_sets.mark_each.Given as goal

-- the pieces so far have the filter
abbrev pub invariant-loop-at : goal.invariant-loop-at
invariant-loop-at l = AreMarked l.fn.pieces.items l.pieces.items l.place l.values l.at

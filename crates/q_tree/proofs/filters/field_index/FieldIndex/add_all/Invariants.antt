use Rattle.std.proofs.Common.{take}
use Rattle.q_tree.specs.filters.IndexByField.{IsFieldIndexOf}
use Rattle.q_tree.proofs.filters.field_index.FieldIndex.add_all.Given as goal

-- the index of the filters so far
abbrev pub invariant-loop-place : goal.invariant-loop-place
invariant-loop-place l = IsFieldIndexOf l.self (take l.place l.filters)

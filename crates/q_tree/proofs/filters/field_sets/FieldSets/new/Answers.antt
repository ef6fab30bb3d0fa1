use Rattle.std.proofs.Common.{◌∙◌, ◌++◌, ◌∷◌, [], ap}
use Rattle.q_tree.proofs.filters.field_sets.FieldSets.new.Goals as goal
use Rattle.q_tree.proofs.filters.FieldSetLemmas.{field-none}
use Rattle.q_tree.proofs.filters.FilterSetLemmas.{none-holds}

pub returns : goal.returns
returns c = field-none c.push.new.self.items record { start = 0; takers = record { low = 0; high = 0 } } (c.in_ok-push.ensures.items ∙ ap (λ xs. xs ++ record { start = 0; takers = record { low = 0; high = 0 } } ∷ []) c.new-pieces.ensures.items) none-holds

-- An index of filters, by what they compare or by field.
-- Nothing here is of a standard.
use Rattle.std.specs.Prelude.{List}
use Rattle.q_model.specs.declared.filter.Filter.{Filter}
use Rattle.q_tree.specs.filters.IndexByField.{IsFieldIndexOf}
use Rattle.q_tree.specs.filters.IndexOfFilters.{IsIndexOf}
use Rattle.q_tree.specs.declared.filters.index_of_filters.IndexOfFilters.{IndexOfFilters}
use Rattle.q_tree.specs.declared.filters.index_of_filters.IndexOfFilters.TheVariants.{ByField, ByShape}

abbrev pub IsSomeIndexOf : IndexOfFilters → List Filter → Type 0
IsSomeIndexOf (ByShape index) filters = IsIndexOf index filters
IsSomeIndexOf (ByField index) filters = IsFieldIndexOf index filters

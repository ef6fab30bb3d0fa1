-- Which of up to 256 filters are in a set.
-- Nothing here is of a standard.
use Rattle.std.specs.Prelude.{ℕ, ◌-◌, Bool, ◌==◌, if◌then◌else◌, nat_lt}
use Rattle.std.specs.Int.{bit_at}
use Rattle.q_tree.specs.declared.filters.filter_set.FilterSet.{FilterSet}

-- whether the filter in this place is in it: the first 128 have their bits in one number, the others in another
unfoldable pub holds : FilterSet → ℕ → Bool
holds s j = if nat_lt j 128 then bit_at s.low j == 1 else bit_at s.high (j - 128) == 1

use Rattle.std.proofs.Common.{◌-◌, ◌≡◌, ◌<◌, ◌≤◌, Some, false, length, slice_get, ℕ}
use Rattle.q_model.specs.Filters.{matches}
use Rattle.q_model.specs.declared.filter.Filter.{Filter}
use Rattle.q_tree.proofs.filters.filter_index.first_of_home.Given as goal

-- no filter of this home before this one takes the packet
abbrev pub invariant-loop-place : goal.invariant-loop-place
invariant-loop-place l = record {
  within : l.place ≤ length l.chains;
  there : l.place < length l.chains → slice_get l.chains l.place ≡ Some l.home;
  passed : (j : ℕ) (f : Filter) → j < l.place → slice_get l.chains j ≡ Some l.home → slice_get l.filters j ≡ Some f → matches l.packet f ≡ false;
}

abbrev pub decreases-loop-place : goal.decreases-loop-place
decreases-loop-place l = l.end - l.place

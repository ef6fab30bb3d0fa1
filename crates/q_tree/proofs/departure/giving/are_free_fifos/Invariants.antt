use Rattle.std.proofs.Common.{◌<◌, ℕ}
use Rattle.std.specs.Prelude.{slice_index_or}
use Rattle.q_model.specs.Node as spec
use Rattle.q_tree.specs.departure.GiveSteps.{IsFreeFifo}
use Rattle.q_tree.specs.Kept.{Kept}
use Rattle.q_tree.proofs.departure.giving.are_free_fifos.Given as goal

abbrev pub invariant-loop-place : goal.invariant-loop-place
invariant-loop-place l = (k : ℕ) (d : spec.Node Kept) → k < l.place → IsFreeFifo (slice_index_or l.nodes k d)

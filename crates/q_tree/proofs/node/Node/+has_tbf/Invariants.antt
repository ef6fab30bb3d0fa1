use Rattle.std.proofs.Common.{◌≡◌}
use Rattle.q_tree.specs.answers.Ways.{has_tbf}
use Rattle.q_tree.proofs.answers.WayLemmas.{tbf_ahead}
use Rattle.q_tree.proofs.node.Node.+has_tbf.Given as goal

abbrev pub decreases-has_tbf : goal.decreases-has_tbf
decreases-has_tbf l = goal.size-has_tbf l

-- none among those that were looked at
abbrev pub invariant-loop-child : goal.invariant-loop-child
invariant-loop-child l = tbf_ahead l.child-index l.child-items ≡ has_tbf l.fn.self

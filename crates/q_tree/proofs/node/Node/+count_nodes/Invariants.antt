use Rattle.std.proofs.Common.{◌≡◌, ◌+◌}
use Rattle.q_model.specs.Find.{count_nodes}
use Rattle.q_tree.proofs.commands.CountingLemmas.{ahead}
use Rattle.q_tree.proofs.node.Node.+count_nodes.Given as goal

abbrev pub decreases-count_nodes : goal.decreases-count_nodes
decreases-count_nodes l = goal.size-count_nodes l

-- those that were counted, and those ahead
abbrev pub invariant-loop-child : goal.invariant-loop-child
invariant-loop-child l = l.nodes + ahead l.child-index l.child-items ≡ count_nodes l.fn.self

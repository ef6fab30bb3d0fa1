use Rattle.std.proofs.Common.{◌≡◌, ◌+◌}
use Rattle.q_tree.specs.commands.Changing.{nodes_from}
use Rattle.q_tree.proofs.commands.CountingLemmas.{ahead}
use Rattle.q_tree.proofs.node.Node.nodes_from.Given as goal

-- those that were counted, and those ahead
abbrev pub invariant-loop-child : goal.invariant-loop-child
invariant-loop-child l = l.nodes + ahead l.child-index l.child-items ≡ nodes_from l.place l.fn.self

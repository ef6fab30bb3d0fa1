use Rattle.std.proofs.Common.{Option, ap}
use Rattle.std.specs.Prelude.{count_by, is_some}
use Rattle.q_fqcodel.specs.declared.node.Node.{Node}
use Rattle.std.proofs.Common.{List}
use Rattle.q_fqcodel.proofs.NodesLemmas.{all_nodes}
use Rattle.q_fqcodel.proofs.nodes.Nodes.new.Goals as goal

pub invariant_of-result : goal.invariant_of-result
invariant_of-result c =
    all_nodes (record { slab = c.new.result; spare = 0; count = 0 }) (ap (λ (l : List (Option Node)). count_by is_some l) c.new.ensures.empty)

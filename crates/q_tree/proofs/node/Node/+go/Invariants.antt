use Rattle.q_tree.specs.NodeCode.{node_size}
use Rattle.q_tree.proofs.node.Node.+go.Given as goal

abbrev pub decreases-go : goal.decreases-go
decreases-go l = node_size l.self.now

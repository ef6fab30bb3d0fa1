use Rattle.std.proofs.Common.{arith}
use Rattle.q_tree.proofs.commands.planner.Planner.can_graft.Goals as goal

pub overflow_add-count_nodes : goal.overflow_add-count_nodes
overflow_add-count_nodes c = omega (arith, c.args.self.now.qdiscs.nodes, c.count_nodes.ensures, c.nodes_made.ensures.few)

pub overflow_add-nodes_at : goal.overflow_add-nodes_at
overflow_add-nodes_at c = omega (arith, c.nodes_at.ensures.few)

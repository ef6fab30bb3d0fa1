use Rattle.std.proofs.Common.{arith}
use Rattle.q_tree.proofs.commands.planner.Planner.can_add_class.Goals as goal

pub overflow_add-count_nodes : goal.overflow_add-count_nodes
overflow_add-count_nodes c = omega (arith, c.args.self.now.qdiscs.nodes, c.count_nodes.ensures)

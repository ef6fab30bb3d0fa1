use Rattle.std.proofs.Common.{length, ap, arith}
use Rattle.q_tree.proofs.commands.IndexLemmas.{few-all}
use Rattle.q_tree.specs.commands.Planning.{root_of}
use Rattle.q_tree.proofs.commands.planner.Planner.handle_or_free.Goals as goal

pub least_free-requires : goal.least_free-requires
least_free-requires c = omega (arith, few-all (root_of c.args.self.now), c.args.self.now.qdiscs.nodes, ap length c.args.self.now.qdiscs.indexed)

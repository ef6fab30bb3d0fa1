use Rattle.q_tree.proofs.commands.Plans.{bounded}
use Rattle.q_tree.proofs.tree.Tree.qdiscs.Goals as goal

pub invariant_of-result-clause-indexed : goal.invariant_of-result-clause-indexed
invariant_of-result-clause-indexed c = c.self.invariant.handles

pub invariant_of-result-clause-levels : goal.invariant_of-result-clause-levels
invariant_of-result-clause-levels c = (bounded c.self.inside c.self.invariant.device).levels

pub invariant_of-result-clause-nodes : goal.invariant_of-result-clause-nodes
invariant_of-result-clause-nodes c = (bounded c.self.inside c.self.invariant.device).nodes

use Rattle.std.proofs.Common.{◌∙◌, sym}
use Rattle.q_tree.proofs.disciplines.EmptyFifo.{empty-fifo}
use Rattle.q_tree.proofs.node.Node.is_an_empty_fifo.Goals as goal

pub returns-clause-means : goal.returns-clause-means
returns-clause-means c = λ _. empty-fifo c.self.inside c.args.self.now c.self.view_is c.in-Fifo.field-0 c.in-Fifo.is (sym c.is_empty.ensures ∙ c.if-not-is_empty.false)

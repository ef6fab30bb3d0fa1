use Rattle.std.proofs.Common.{◌∙◌, sym}
use Rattle.qtree_c.proofs.answers.Telling.{node-past, node-told}
use Rattle.qtree_c.proofs.answers.nodes.node_at.Goals as goal

pub returns-in-Some-clause-node : goal.returns-in-Some-clause-node
returns-in-Some-clause-node c =
    node-told c.args.index c.args.view.now c.of.result c.in-Some.node c.flows.result c.args.device.now c.tree-tree.result.now.tree c.tree-tree.ensures.numbers (sym c.in-Some.is ∙ c.node.ensures)
    c.flows.ensures c.of.ensures

pub returns-in-None-clause-node : goal.returns-in-None-clause-node
returns-in-None-clause-node c =
    node-past c.args.index c.args.view.now c.args.device.now c.tree-tree.result.now.tree c.tree-tree.ensures.numbers (sym c.in-None.is ∙ c.node.ensures)

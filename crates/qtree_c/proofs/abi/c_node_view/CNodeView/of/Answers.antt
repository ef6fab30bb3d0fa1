use Rattle.std.proofs.Common.{◌∙◌, ap}
use Rattle.qtree_c.specs.answers.Nodes.{with_listed}
use Rattle.qtree_c.specs.declared.abi.c_node_view.CNodeView.{CNodeView}
use Rattle.qtree_c.proofs.abi.c_node_view.CNodeView.of.Goals as goal

pub returns : goal.returns
returns c = c.with_listed.ensures ∙ ap (λ (n : CNodeView). with_listed c.args.listed n) c.unlisted.ensures

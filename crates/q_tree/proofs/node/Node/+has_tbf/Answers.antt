use Rattle.std.proofs.Common.{◌∙◌, sym, arith}
use Rattle.q_tree.proofs.answers.ShowLemmas.{beneath-size}
use Rattle.q_tree.proofs.answers.WayLemmas.{tbf-all}
use Rattle.q_tree.proofs.disciplines.AtHandLemmas.{there-at}
use Rattle.q_tree.proofs.node.Node.+has_tbf.Goals as goal

pub loop-child-init : goal.loop-child-init
loop-child-init t c = tbf-all c.args.self.now c.children-child-items.result.now c.children-child-items.ensures (sym c.is_tbf.ensures ∙ c.if-is_tbf.false)

pub has_tbf-requires : goal.has_tbf-requires
has_tbf-requires t c =
    let at = there-at c.children-child-items.result.now c.loop-child.child-index c.child-item.result c.loop-child-test.true c.child-item.is in
    (omega (arith, beneath-size c.args.self.now c.children-child-items.result.now c.loop-child.child-index c.child-item.result c.children-child-items.ensures at, c.decreases), tt)

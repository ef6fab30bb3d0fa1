use Rattle.std.proofs.Common.{arith}
use Rattle.q_tree.proofs.answers.ShowLemmas.{beneath-size}
use Rattle.q_tree.proofs.commands.CountingLemmas.{count-all, count-end, count-next}
use Rattle.q_tree.proofs.disciplines.AtHandLemmas.{there-at}
use Rattle.q_tree.proofs.node.Node.+count_nodes.Goals as goal

pub loop-child-init : goal.loop-child-init
loop-child-init t c = omega (arith, count-all c.args.self.now c.children-child-items.result.now c.children-child-items.ensures)

pub count_nodes-nodes-requires : goal.count_nodes-nodes-requires
count_nodes-nodes-requires t c =
    let at = there-at c.children-child-items.result.now c.loop-child.child-index c.child-item.result c.loop-child-test.true c.child-item.is in (
      omega (arith, beneath-size c.args.self.now c.children-child-items.result.now c.loop-child.child-index c.child-item.result c.children-child-items.ensures at, c.decreases),
      omega (arith, c.requires, c.loop-child.invariant, count-next c.children-child-items.result.now c.loop-child.child-index c.child-item.result c.loop-child-test.true c.child-item.is),
    )

pub overflow_add-nodes : goal.overflow_add-nodes
overflow_add-nodes t c =
    omega (
      arith,
      c.requires,
      c.loop-child.invariant,
      c.count_nodes-nodes.ensures,
      count-next c.children-child-items.result.now
          c.loop-child.child-index c.child-item.result c.loop-child-test.true c.child-item.is,
    )

pub loop-child-preserved : goal.loop-child-preserved
loop-child-preserved t c =
    omega (arith, c.loop-child.invariant, c.count_nodes-nodes.ensures, count-next c.children-child-items.result.now c.loop-child.child-index c.child-item.result c.loop-child-test.true c.child-item.is)

pub returns : goal.returns
returns t c = omega (arith, c.loop-child.invariant, count-end c.children-child-items.result.now c.loop-child.child-index c.loop-child-test.false)

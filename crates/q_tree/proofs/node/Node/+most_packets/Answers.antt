use Rattle.std.proofs.Common.{◌+◌, ap, arith}
use Rattle.q_model.specs.Node as spec
use Rattle.q_tree.specs.answers.MostPackets.{most_held, most_queued}
use Rattle.q_tree.specs.Kept.{Kept}
use Rattle.q_tree.proofs.answers.MostPacketsLemmas.{most-all, most-end, most-next}
use Rattle.q_tree.proofs.answers.ShowLemmas.{beneath-size}
use Rattle.q_tree.proofs.disciplines.AtHandLemmas.{there-at}
use Rattle.q_tree.proofs.node.Node.+most_packets.Goals as goal

pub loop-child-init : goal.loop-child-init
loop-child-init t c = (
  omega (
    arith,
    c.most_packets-most.ensures,
    ap (λ (n : spec.Node Kept). most_queued n.own.discipline + most_held n.own.discipline) c.self.view_is,
    most-all c.args.self.now c.children-child-items.result.now c.children-child-items.ensures,
  ),
  omega (arith, c.most_packets-most.ensures),
)

pub most_packets-requires : goal.most_packets-requires
most_packets-requires t c =
    let at = there-at c.children-child-items.result.now c.loop-child.child-index c.child-item.result c.loop-child-test.true c.child-item.is in (
      omega (arith, beneath-size c.args.self.now c.children-child-items.result.now c.loop-child.child-index c.child-item.result c.children-child-items.ensures at, c.decreases),
      tt,
    )

pub loop-child-preserved : goal.loop-child-preserved
loop-child-preserved t c = (
  omega (
    arith,
    c.loop-child.invariant.0,
    c.most_packets.ensures,
    c.saturating_add-most.ensures,
    most-next c.children-child-items.result.now c.loop-child.child-index c.child-item.result c.loop-child-test.true c.child-item.is,
  ),
  omega (arith, c.saturating_add-most.ensures),
)

pub returns : goal.returns
returns t c = omega (arith, c.loop-child.invariant.0, c.loop-child.invariant.1, most-end c.children-child-items.result.now c.loop-child.child-index c.loop-child-test.false)

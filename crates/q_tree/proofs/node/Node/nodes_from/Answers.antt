use Rattle.std.proofs.Common.{◌-◌, drop, length, take, arith}
use Rattle.q_tree.proofs.commands.CountingLemmas.{count-next, few-from}
use Rattle.q_tree.proofs.node.Node.nodes_from.Goals as goal

pub count_nodes-nodes-requires : goal.count_nodes-nodes-requires
count_nodes-nodes-requires c =
    omega (
      arith,
      c.requires,
      c.loop-child.invariant,
      few-from c.args.self.now c.args.place,
      count-next (take (length c.children-children.result.now - c.min.result) (drop c.min.result c.children-children.result.now))
          c.loop-child.child-index c.child-item.result c.loop-child-test.true c.child-item.is,
    )

pub overflow_add-nodes : goal.overflow_add-nodes
overflow_add-nodes c =
    omega (
      arith,
      c.requires,
      c.loop-child.invariant,
      c.count_nodes-nodes.ensures,
      few-from c.args.self.now c.args.place,
      count-next (take (length c.children-children.result.now - c.min.result) (drop c.min.result c.children-children.result.now))
          c.loop-child.child-index c.child-item.result c.loop-child-test.true c.child-item.is,
    )

pub returns-clause-few : goal.returns-clause-few
returns-clause-few c = omega (arith, c.requires, c.loop-child.invariant, few-from c.args.self.now c.args.place)

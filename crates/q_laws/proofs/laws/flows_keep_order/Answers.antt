use Rattle.q_laws.proofs.order.OrderSteps.{flows-keep-order}
use Rattle.q_laws.proofs.laws.flows_keep_order.Goals as goal

pub returns : goal.returns
returns c = flows-keep-order c.args.settings c.ranges-2.ensures

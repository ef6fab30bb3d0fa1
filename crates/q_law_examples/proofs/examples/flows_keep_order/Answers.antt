use Rattle.std.proofs.Common.{subst}
use Rattle.q_laws.specs.order.Order.{FlowsKeepOrder}
use Rattle.q_law_examples.proofs.BandsHold.{order-of-flow}
use Rattle.q_law_examples.proofs.examples.flows_keep_order.Goals as goal

pub returns : goal.returns
returns c = order-of-flow (subst FlowsKeepOrder c.worked_settings.ensures c.flows_keep_order.ensures)

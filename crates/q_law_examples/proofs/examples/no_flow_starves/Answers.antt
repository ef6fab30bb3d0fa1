use Rattle.std.proofs.Common.{subst}
use Rattle.q_laws.specs.share.Service.{NoFlowStarves}
use Rattle.q_law_examples.proofs.FlowsHold.{flow-is-not-starved}
use Rattle.q_law_examples.proofs.examples.no_flow_starves.Goals as goal

pub returns : goal.returns
returns c = flow-is-not-starved (subst NoFlowStarves c.worked_settings.ensures c.no_flow_starves.ensures)

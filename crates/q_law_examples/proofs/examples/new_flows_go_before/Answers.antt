use Rattle.std.proofs.Common.{subst}
use Rattle.q_laws.specs.new_flow.NewFlow.{NewFlowsGoBefore}
use Rattle.q_law_examples.proofs.FlowsHold.{joins-before}
use Rattle.q_law_examples.proofs.examples.new_flows_go_before.Goals as goal

pub returns : goal.returns
returns c = joins-before (subst NewFlowsGoBefore c.worked_settings.ensures c.new_flows_go_before.ensures)

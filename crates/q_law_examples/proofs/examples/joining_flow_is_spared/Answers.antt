use Rattle.std.proofs.Common.{subst}
use Rattle.q_laws.specs.new_flow.Rest.{JoiningFlowsAreSpared}
use Rattle.q_law_examples.proofs.FlowsHold.{joins-spared}
use Rattle.q_law_examples.proofs.examples.joining_flow_is_spared.Goals as goal

pub returns : goal.returns
returns c = joins-spared (subst JoiningFlowsAreSpared c.worked_settings.ensures c.joining_flow_is_spared.ensures)

use Rattle.std.proofs.Common.{subst}
use Rattle.q_laws.specs.share.Service.{NewFlowFirst}
use Rattle.q_law_examples.proofs.FlowsHold.{joins-first}
use Rattle.q_law_examples.proofs.examples.new_flow_first.Goals as goal

pub returns : goal.returns
returns c = joins-first (subst NewFlowFirst c.worked_settings.ensures c.new_flow_first.ensures)

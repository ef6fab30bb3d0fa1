use Rattle.q_laws.proofs.new_flow.NewFlowService.{new-flow-first}
use Rattle.q_laws.proofs.laws.new_flow_first.Goals as goal

pub returns : goal.returns
returns c = new-flow-first c.args.settings c.ranges-2.ensures

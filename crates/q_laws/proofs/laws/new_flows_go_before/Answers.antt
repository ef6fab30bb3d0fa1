use Rattle.q_laws.proofs.new_flow.NewFlowSums.{new-flows-go-before}
use Rattle.q_laws.proofs.laws.new_flows_go_before.Goals as goal

pub returns : goal.returns
returns c = new-flows-go-before c.args.settings c.ranges-2.ensures

use Rattle.q_laws.proofs.share.FlowService.{no-flow-starves}
use Rattle.q_laws.proofs.laws.no_flow_starves.Goals as goal

pub returns : goal.returns
returns c = no-flow-starves c.args.settings c.ranges-2.ensures

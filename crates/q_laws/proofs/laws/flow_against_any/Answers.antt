use Rattle.q_laws.proofs.share.FlowService.{flow-against-any}
use Rattle.q_laws.proofs.laws.flow_against_any.Goals as goal

pub returns : goal.returns
returns c = flow-against-any c.args.settings c.ranges-2.ensures

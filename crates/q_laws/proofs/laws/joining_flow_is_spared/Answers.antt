use Rattle.q_laws.proofs.new_flow.RestMoves.{joining-flows-are-spared}
use Rattle.q_laws.proofs.laws.joining_flow_is_spared.Goals as goal

pub returns : goal.returns
returns c = joining-flows-are-spared c.args.settings c.ranges-2.ensures

use Rattle.std.proofs.Common.{subst}
use Rattle.q_laws.specs.share.Service.{FlowAgainstAny}
use Rattle.q_law_examples.proofs.FlowsHold.{flow-against-another}
use Rattle.q_law_examples.proofs.examples.flow_against_any.Goals as goal

pub returns : goal.returns
returns c = flow-against-another (subst FlowAgainstAny c.worked_settings.ensures c.flow_against_any.ensures)

use Rattle.std.proofs.Common.{subst}
use Rattle.q_device.specs.Sharing.{FlowsBeginNew, FlowsGiveTheirShares}
use Rattle.q_law_examples.proofs.FlowsHold.{flow-share, flow-begins-new}
use Rattle.q_law_examples.proofs.examples.flow_stretch.Goals as goal

pub returns-clause-share : goal.returns-clause-share
returns-clause-share c = flow-share (subst FlowsGiveTheirShares c.worked_settings.ensures c.flow_stretch.ensures.share)

pub returns-clause-begins : goal.returns-clause-begins
returns-clause-begins c = flow-begins-new (subst FlowsBeginNew c.worked_settings.ensures c.flow_stretch.ensures.begins)

use Rattle.std.proofs.Common.{subst}
use Rattle.q_device.specs.Sharing.{FlowsAreGrantedEvenly}
use Rattle.q_law_examples.proofs.FlowsHold.{granted-evenly}
use Rattle.q_law_examples.proofs.examples.pair_stretch.Goals as goal

pub returns : goal.returns
returns c = record { flows = granted-evenly (subst FlowsAreGrantedEvenly c.worked_settings.ensures c.pair_stretch.ensures.flows) }

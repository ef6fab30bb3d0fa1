use Rattle.q_device.proofs.laws.ShrinkLemmas.{step-shrunk}
use Rattle.q_device.proofs.laws.shrink_commutes.Goals as goal

pub returns : goal.returns
returns c = step-shrunk

use Rattle.q_device.proofs.laws.ShrinkLemmas.{replay-shrunk}
use Rattle.q_device.proofs.laws.replay_shrinks.Goals as goal

pub returns : goal.returns
returns c = replay-shrunk

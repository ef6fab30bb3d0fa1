use Rattle.q_device.proofs.laws.ClassStretches.{pairs-share}
use Rattle.q_device.proofs.laws.FlowStretches.{flows-even}
use Rattle.q_device.proofs.laws.pair_stretch.Goals as goal

pub returns : goal.returns
returns c = record { classes = pairs-share c.args.settings c.ranges-2.ensures; flows = flows-even c.args.settings c.ranges-2.ensures }

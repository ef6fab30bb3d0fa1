use Rattle.q_device.proofs.laws.FlowStretches.{flows-share, flows-begin}
use Rattle.q_device.proofs.laws.flow_stretch.Goals as goal

pub returns : goal.returns
returns c = record { share = flows-share c.args.settings c.ranges-2.ensures; begins = flows-begin c.args.settings c.ranges-2.ensures }

use Rattle.q_device.proofs.laws.ClassStretches.{classes-share, deficits-bounded, grants-short, classes-wake}
use Rattle.q_device.proofs.laws.class_stretch.Goals as goal

pub returns-clause-share : goal.returns-clause-share
returns-clause-share c = classes-share c.args.settings c.ranges-2.ensures

pub returns-clause-bounded : goal.returns-clause-bounded
returns-clause-bounded c = deficits-bounded c.args.settings c.ranges-2.ensures

pub returns-clause-granted : goal.returns-clause-granted
returns-clause-granted c = grants-short c.args.settings c.ranges-2.ensures

pub returns-clause-woken : goal.returns-clause-woken
returns-clause-woken c = classes-wake c.args.settings c.ranges-2.ensures

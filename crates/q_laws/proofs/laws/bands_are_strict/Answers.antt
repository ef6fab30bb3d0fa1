use Rattle.q_laws.proofs.work.WorkTrees.{bands-are-strict}
use Rattle.q_laws.proofs.laws.bands_are_strict.Goals as goal

pub returns : goal.returns
returns c = bands-are-strict c.args.settings c.ranges-2.ensures

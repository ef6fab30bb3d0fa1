use Rattle.q_laws.proofs.work.WorkTrees.{work-is-conserved}
use Rattle.q_laws.proofs.laws.work_is_conserved.Goals as goal

pub returns : goal.returns
returns c = work-is-conserved c.args.settings c.ranges-2.ensures

use Rattle.q_laws.proofs.share.ServiceStretches.{class-against-any}
use Rattle.q_laws.proofs.laws.class_against_any.Goals as goal

pub returns : goal.returns
returns c = class-against-any c.args.settings c.ranges-2.ensures

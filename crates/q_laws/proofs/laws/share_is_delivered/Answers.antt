use Rattle.q_laws.proofs.share.PromiseKept.{share-is-delivered}
use Rattle.q_laws.proofs.laws.share_is_delivered.Goals as goal

pub returns : goal.returns
returns c = share-is-delivered c.args.settings c.ranges-2.ensures

use Rattle.q_laws.proofs.share.CalmShare.{calm-classes-get-their-parts}
use Rattle.q_laws.proofs.share.CalmSteps.{classes-are-calm}
use Rattle.q_laws.proofs.share.LeastShare.{classes-get-their-parts}
use Rattle.q_laws.proofs.laws.least_share.Goals as goal

pub returns : goal.returns
returns c = record {
  part = classes-get-their-parts c.args.settings c.ranges-2.ensures;
  calm = calm-classes-get-their-parts c.args.settings c.ranges-2.ensures;
  since_empty = classes-are-calm c.args.settings c.ranges-2.ensures;
}

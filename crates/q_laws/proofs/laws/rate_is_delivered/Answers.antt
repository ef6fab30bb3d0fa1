use Rattle.q_laws.proofs.rate.LinkStretches.{rate-is-delivered}
use Rattle.q_laws.proofs.rate.NeverLate.{never-late-is-drained}
use Rattle.q_laws.proofs.rate.RateStretches.{rate-is-spent}
use Rattle.q_laws.proofs.laws.rate_is_delivered.Goals as goal

pub returns : goal.returns
returns c = record {
  exact = rate-is-spent c.args.settings c.ranges-2.ensures;
  in_time = rate-is-delivered c.args.settings c.ranges-2.ensures;
  never_late = never-late-is-drained;
}

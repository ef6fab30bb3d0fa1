use Rattle.q_laws.proofs.share.PromiseKept.{lateness-is-the-greatest, service-is-delivered, slack-is-the-laws}
use Rattle.q_laws.proofs.laws.service_is_delivered.Goals as goal

pub returns : goal.returns
returns c = record {
  delivered = service-is-delivered c.args.settings c.ranges-2.ensures;
  slack = slack-is-the-laws c.args.settings;
  late = lateness-is-the-greatest c.args.settings;
}

use Rattle.q_laws.proofs.rate.PollHolds.{polls-leave-holding}
use Rattle.q_laws.proofs.share.HandedInTime.{hand-in-time, leave-in-time}
use Rattle.q_laws.proofs.share.ShareInTime.{share-in-time}
use Rattle.q_laws.proofs.share.WayStretches.{shares-multiply}
use Rattle.q_laws.proofs.laws.share_in_time.Goals as goal

pub returns : goal.returns
returns c = record {
  below = share-in-time c.args.settings c.ranges-2.ensures;
  handed = hand-in-time c.args.settings c.ranges-2.ensures;
  holds = polls-leave-holding c.args.settings c.ranges-2.ensures;
  leaves = leave-in-time c.args.settings c.ranges-2.ensures;
  nested = shares-multiply c.args.settings c.ranges-2.ensures;
}

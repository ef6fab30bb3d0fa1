use Rattle.q_laws.proofs.line.LatestArrives.{latest-is-told-before, latest-rises-no-faster}
use Rattle.q_laws.proofs.line.LatestFills.{latest-stands-as-it-fills}
use Rattle.q_laws.proofs.line.LatestKept.{latest-is-enough, latest-is-in-time}
use Rattle.q_laws.proofs.laws.latest_is_enough.Goals as goal

pub returns : goal.returns
returns c = record {
  enough = latest-is-enough c.args.settings c.ranges-2.ensures;
  in_time = latest-is-in-time c.args.settings c.ranges-2.ensures;
  told_before = latest-is-told-before c.args.settings c.ranges-2.ensures;
  rises_no_faster = latest-rises-no-faster c.args.settings c.ranges-2.ensures;
  stands_as_it_fills = latest-stands-as-it-fills c.args.settings c.ranges-2.ensures;
}

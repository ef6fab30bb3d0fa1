use Rattle.q_laws.proofs.line.WorstKept.{lines-keep-limits, worst-is-enough, worst-is-in-time}
use Rattle.q_laws.proofs.laws.worst_is_enough.Goals as goal

pub returns : goal.returns
returns c = record {
  limit = lines-keep-limits c.args.settings c.ranges-2.ensures;
  enough = worst-is-enough c.args.settings c.ranges-2.ensures;
  in_time = worst-is-in-time c.args.settings c.ranges-2.ensures;
}

use Rattle.q_laws.proofs.nested.NestKept.{nested-turn-is-enough}
use Rattle.q_laws.proofs.nested.NestTime.{nested-turn-is-in-time}
use Rattle.q_laws.proofs.nested.PathTurns.{paths-are-bounded}
use Rattle.q_laws.proofs.laws.nested_turns_are_bounded.Goals as goal

pub returns : goal.returns
returns c = record {
  reached = paths-are-bounded c.args.settings c.ranges-2.ensures;
  enough = nested-turn-is-enough c.args.settings c.ranges-2.ensures;
  in_time = nested-turn-is-in-time c.args.settings c.ranges-2.ensures;
}

use Rattle.q_laws.proofs.turn.TurnAnswers.{turn-is-answered}
use Rattle.q_laws.proofs.turn.TurnKept.{turn-is-enough, turn-is-in-time}
use Rattle.q_laws.proofs.turn.TurnLimits.{turns-keep-limits}
use Rattle.q_laws.proofs.laws.turn_is_enough.Goals as goal

pub returns : goal.returns
returns c = record {
  answered = turn-is-answered c.args.settings;
  limit = turns-keep-limits c.args.settings c.ranges-2.ensures;
  enough = turn-is-enough c.args.settings c.ranges-2.ensures;
  in_time = turn-is-in-time c.args.settings c.ranges-2.ensures;
}

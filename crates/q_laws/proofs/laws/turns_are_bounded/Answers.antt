use Rattle.q_laws.proofs.turn.CalmTurns.{calm-turns-are-bounded, calm-classes-wait-at-most}
use Rattle.q_laws.proofs.turn.MostTurns.{turns-are-bounded, classes-wait-at-most}
use Rattle.q_laws.proofs.laws.turns_are_bounded.Goals as goal

pub returns : goal.returns
returns c = record {
  bytes_of_turn = turns-are-bounded c.args.settings c.ranges-2.ensures;
  sent = classes-wait-at-most c.args.settings c.ranges-2.ensures;
  calm_turn = calm-turns-are-bounded c.args.settings c.ranges-2.ensures;
  calm_sent = calm-classes-wait-at-most c.args.settings c.ranges-2.ensures;
}

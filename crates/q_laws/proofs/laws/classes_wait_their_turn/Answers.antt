use Rattle.q_laws.proofs.turn.TurnSums.{classes-wait}
use Rattle.q_laws.proofs.laws.classes_wait_their_turn.Goals as goal

pub returns : goal.returns
returns c = classes-wait c.args.settings c.ranges-2.ensures

use Rattle.q_laws.proofs.turn.FifoTurns.{fifos-wait-at-most}
use Rattle.q_laws.proofs.laws.fifos_wait_at_most.Goals as goal

pub returns : goal.returns
returns c = fifos-wait-at-most c.args.settings c.ranges-2.ensures

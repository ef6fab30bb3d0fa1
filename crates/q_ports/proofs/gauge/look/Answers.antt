use Rattle.q_ports.proofs.Boards.{continues-self, turns}
use Rattle.q_ports.proofs.gauge.look.Goals as goal

pub enter_as-requires : goal.enter_as-requires
enter_as-requires c x = turns _ _ x x (continues-self x.front)

use Rattle.q_drr.proofs.RingLemmas.{circle_without}
use Rattle.q_drr.proofs.ring.detach.Goals as goal

pub returns-clause-circle : goal.returns-clause-circle
returns-clause-circle c = λ others old. circle_without _ _ _ _ others old c.join.ensures c.mark.ensures

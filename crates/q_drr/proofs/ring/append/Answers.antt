use Rattle.q_drr.proofs.RingLemmas.{circle_grown}
use Rattle.q_drr.proofs.ring.append.Goals as goal

pub returns-clause-circle : goal.returns-clause-circle
returns-clause-circle c = λ others old fresh. circle_grown _ _ _ _ _ others _ old c.join.ensures c.join-2.ensures c.mark.ensures c.requires.inside fresh

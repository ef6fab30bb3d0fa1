use Rattle.q_codel.proofs.Promises.{only_late_heads_holds}
use Rattle.q_codel.proofs.laws.only_late_heads.Goals as goal

pub returns : goal.returns
returns c = only_late_heads_holds

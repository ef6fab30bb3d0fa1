use Rattle.q_codel.proofs.TakeLaws.{due_heads_go_holds}
use Rattle.q_codel.proofs.laws.due_heads_go.Goals as goal

pub returns : goal.returns
returns c = due_heads_go_holds

use Rattle.qtree_c.proofs.device.Reaping.{IsReaping}
use Rattle.qtree_c.proofs.device.losses.reap_many.Given as goal

abbrev pub invariant-loop-i : goal.invariant-loop-i
invariant-loop-i l = IsReaping l.i l.initial.losses l.losses l.initial.device l.device

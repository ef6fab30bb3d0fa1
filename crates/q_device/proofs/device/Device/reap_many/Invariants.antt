use Rattle.q_device.proofs.device.Device.reap_many.Given as goal
use Rattle.q_device.proofs.device.HandedOut.{IsReaping}

abbrev pub invariant-loop-i : goal.invariant-loop-i
invariant-loop-i g l = IsReaping g.L.ToldLoss.told l.i l.initial.places l.places l.initial.self l.self

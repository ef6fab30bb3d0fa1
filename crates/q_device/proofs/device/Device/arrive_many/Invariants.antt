use Rattle.std.proofs.Common.{◌≤◌, ◌-◌, length}
use Rattle.q_device.specs.device.Bursts.{IsArriving}
use Rattle.q_device.proofs.device.Device.arrive_many.Given as goal

abbrev pub invariant-loop-done : goal.invariant-loop-done
invariant-loop-done g l = IsArriving g.A.Answer.answer l.done l.now l.packets l.fn.fates l.fates l.fn.self l.self × (l.done ≤ length l.packets)

abbrev pub decreases-loop-done : goal.decreases-loop-done
decreases-loop-done g l = length l.packets - l.done

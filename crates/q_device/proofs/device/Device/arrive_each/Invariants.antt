use Rattle.std.proofs.Common.{◌≤◌, List, length}
use Rattle.q_device.specs.device.Bursts.{IsArriving}
use Rattle.q_device.specs.device.DeviceSeen.{DeviceSeen}
use Rattle.q_device.proofs.device.Device.arrive_each.Given as goal

abbrev pub invariant-loop-i : goal.invariant-loop-i
invariant-loop-i g l = (before : List _) (d : DeviceSeen) → length l.packets ≤ length before → IsArriving g.A.Answer.answer l.done l.now l.packets before l.fn.fates d l.fn.self → IsArriving g.A.Answer.answer l.i l.now l.packets before l.fates d l.self

use Rattle.std.proofs.Common.{◌≡◌, List, length}
use Rattle.q_device.specs.device.Bursts.{IsPolling}
use Rattle.q_device.specs.device.DeviceSeen.{DeviceSeen}
use Rattle.q_device.proofs.device.Device.poll_each.Given as goal

abbrev pub invariant-loop-i : goal.invariant-loop-i
invariant-loop-i g l = (before : List _) (d : DeviceSeen) → length before ≡ length l.fn.places → IsPolling g.T.Told.told l.done (length before) l.now before l.fn.places d l.fn.self
    → IsPolling g.T.Told.told l.i (length before) l.now before l.places d l.self

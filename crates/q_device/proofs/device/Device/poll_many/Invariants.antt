use Rattle.std.proofs.Common.{◌≡◌, ◌≤◌, ◌-◌, length}
use Rattle.q_device.specs.device.Bursts.{IsPolling}
use Rattle.q_device.proofs.device.Device.poll_many.Given as goal

abbrev pub invariant-loop-done : goal.invariant-loop-done
invariant-loop-done g l =
    IsPolling g.T.Told.told l.done (length l.fn.places) l.now l.fn.places l.places l.fn.self l.self × (l.done ≤ length l.fn.places) × (length l.places ≡ length l.fn.places)

abbrev pub decreases-loop-done : goal.decreases-loop-done
decreases-loop-done g l = length l.places - l.done

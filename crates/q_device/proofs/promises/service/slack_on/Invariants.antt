use Rattle.std.proofs.Common.{◌≡◌, ◌≤◌, ◌+◌, ◌*◌, ◌^◌, drop}
use Rattle.q_device.specs.promises.Promise.{lack_below}
use Rattle.q_device.proofs.promises.service.slack_on.Given as goal

-- what is lacking so far, with the drrs ahead
abbrev pub invariant-loop-share : goal.invariant-loop-share
invariant-loop-share l = (lack_below l.mtu l.slack (drop l.share-index l.rest) ≡ lack_below l.mtu l.initial.slack l.rest) × (l.slack ≤ (l.share-index + 1) * 2 ^ 36)

-- What a device answers to polls that come before the time at which it says to be ready, and what it says then.
-- Nothing here is of a standard.
use Rattle.std.specs.Prelude.{◌≡◌, ℕ, ◌≤◌, ◌^◌, true, false, List, [], map, All, Option, Some, None}
use Rattle.q_model.specs.declared.event.Event.TheVariants as event
use Rattle.q_model.specs.declared.reply.Reply.{Reply}
use Rattle.q_model.specs.declared.reply.Reply.TheVariants as reply
use Rattle.q_model.specs.Beneath.{is_empty}
use Rattle.q_model.specs.Replay.{Replay, replay_from}
use Rattle.q_model.specs.Step.{DeviceState, counts_at, polled_of, step}
use Rattle.q_model.specs.Tally.{Counts, totals}
use Rattle.q_model.specs.TreeState.{given}
use Rattle.q_tree.specs.answers.ReadyAt.{is_before, is_sure, ready_at}
use Rattle.q_device.specs.device.DeviceSeen.{DeviceSeen}

-- the time before which no poll gives a packet; none where none ever will
abbrev pub ready : DeviceState Counts → Option ℕ
ready d = ready_at d.clock d.tree.root

-- a device polled at these times, in turn, and what it answers
abbrev pub after_polls : List ℕ → DeviceState Counts → Replay Counts
after_polls moments d = replay_from totals (record { device = d; replies = []; losses = [] }) (map event.Poll moments)

-- a poll at this time counts before the device is ready
abbrev pub IsTooEarly : DeviceState Counts → ℕ → Type 0
IsTooEarly d moment = (moment ≤ 2 ^ 62) × (is_before (Some (counts_at moment d)) (ready d) ≡ true)

-- the answer to a poll that gives no packet: Later where something is queued, else Idle
abbrev pub empty_handed : DeviceState Counts → Reply
empty_handed d = reply.Polled (polled_of None (is_empty d.tree.root))

-- Each poll was empty-handed. The device is ready no sooner than it said before, and at that very time where it was sure of it.
pub record HasWaited (d : DeviceState Counts) (r : Replay Counts) : Type 0 where
  pub replies : All (λ (reply : Reply). reply ≡ empty_handed d) r.replies
  pub no_sooner : is_before (ready r.device) (ready d) ≡ false
  pub same : is_sure d.clock d.tree.root ≡ true → ready r.device ≡ ready d
  pub sure : is_sure d.clock d.tree.root ≡ true → is_sure r.device.clock r.device.tree.root ≡ true

-- However many polls come before the device is ready, and in whatever order.
abbrev pub EarlyPollsGiveNothing : DeviceSeen → Type 0
EarlyPollsGiveNothing d = (moments : List ℕ) → All (IsTooEarly d.device) moments → HasWaited d.device (after_polls moments d.device)

-- Once a poll has given no packet the device is ready after that poll, if ever.
abbrev pub ReadyPassesEmptyPolls : DeviceSeen → Type 0
ReadyPassesEmptyPolls d =
    (moment : ℕ) → moment ≤ 2 ^ 62 → given (counts_at moment d.device) d.device.tree ≡ None
    → (let after = (step totals d.device (event.Poll moment)).device in is_before (Some after.clock) (ready after) ≡ true)

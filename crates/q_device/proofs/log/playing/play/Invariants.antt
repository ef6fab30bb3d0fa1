use Rattle.std.proofs.Common.{◌≡◌, ◌≤◌, drop, length}
use Rattle.std.specs.Prelude.{vec_capacity}
use Rattle.q_model.specs.Replay.{replay, replay_from}
use Rattle.q_model.specs.Tally.{totals}
use Rattle.q_device.proofs.log.playing.play.Given as goal

-- the replay so far, and from it the events that are left, are the replay of all
abbrev pub invariant-loop-event : goal.invariant-loop-event
invariant-loop-event l = record {
  so_far : replay_from totals (record { device = l.device.device; replies = l.replies.items; losses = l.device.waiting }) (drop l.event-index l.events) ≡ replay totals l.fn.settings l.events;
  each : length l.replies.items ≡ l.event-index;
  room : length l.events ≤ vec_capacity l.replies;
}

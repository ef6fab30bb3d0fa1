use Rattle.std.proofs.Common.{◌≡◌, ◌-◌, ◌++◌}
use Rattle.std.specs.Prelude.{vec_len, vec_capacity}
use Rattle.q_device.specs.device.Polls.{given_by, polled_by}
use Rattle.q_ports.proofs.turn.poll_all.Given as goal

abbrev pub invariant-loop-poll : goal.invariant-loop-poll
invariant-loop-poll g l = record {
  sent : l.sent.items ++ given_by (l.most - l.poll) l.now l.booked ≡ given_by l.most l.now l.initial.booked;
  polled : polled_by (l.most - l.poll) l.now l.booked ≡ polled_by l.most l.now l.initial.booked;
  count : vec_len l.sent ≡ l.poll;
  room : vec_capacity l.sent ≡ vec_capacity l.initial.sent;
}

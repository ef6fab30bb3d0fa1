-- A turn, as it is reported to C.
-- The turn is that of q_device's specs/device/Turning.antt, and the numbers this project's own.
use Rattle.std.specs.Prelude.{◌≡◌, ℕ, ◌+◌, ◌-◌, ◌^◌, if◌then◌else◌, List, [], Option, Some, None, length, replicate, unwrap_or}
use Rattle.q_packet.specs.Cause.{cause_number}
use Rattle.q_codel.specs.declared.loss.Loss.{Loss}
use Rattle.q_model.specs.declared.event.Event.{Event}
use Rattle.q_model.specs.declared.event.Event.TheVariants.{Poll}
use Rattle.q_device.specs.device.DeviceSeen.{DeviceSeen}
use Rattle.q_device.specs.device.Polls.{given_by}
use Rattle.q_device.specs.device.Turning as turning
use Rattle.q_device.specs.device.Turning.{is_early}
use Rattle.q_device.specs.Waiting.{ready}
use Rattle.q_device.specs.declared.given.Given.{Given}
use Rattle.q_device.specs.declared.given.Given.TheVariants as given
use Rattle.qtree_c.specs.abi.Structs.{sent_of}
use Rattle.qtree_c.specs.device.Folds.{answer_by}
use Rattle.qtree_c.specs.events.Noting.{poll_events}
use Rattle.qtree_c.specs.declared.abi.c_lost.CLost.{CLost}
use Rattle.qtree_c.specs.declared.abi.c_sent.CSent.{CSent}
use Rattle.qtree_c.specs.declared.abi.c_turned.CTurned.{CTurned}

-- what a program needs in order to free the bytes of a packet that was lost
abbrev pub lost_of : Loss → CLost
lost_of l = record { number = l.packet.number; port = l.packet.port; buf = l.packet.buf; cause = cause_number l.cause }

-- nothing was sent or handed out, and there is nothing to come back for
abbrev pub no_turn : CTurned
no_turn = record { sent = 0; lost = 0; again = 2 ^ 64 - 1 }

-- A turn (0), which says when what is left is ready; the greatest number stands for never.
pub record IsTurn (now code : ℕ) (turned : CTurned) (before after : List CSent) (lost_before lost_after : List CLost) (d n : DeviceSeen) : Type 0 where
  pub done : code ≡ 0
  pub answer : Option Given
  pub turn : turning.IsTurn sent_of lost_of now (record { sent = turned.sent; lost = turned.lost; answer = answer; again = ready n.device }) before after lost_before lost_after d n
  pub again : turned.again ≡ unwrap_or (ready n.device) (2 ^ 64 - 1)

-- the events of a turn with so many places for packets: none where a poll would be too early, else those of as many polls
abbrev pub turn_events : ℕ → ℕ → DeviceSeen → List Event
turn_events now room d = if is_early now d then [] else poll_events now (answer_by room now d) (length (given_by room now d)) d

-- the polls of a turn that is answered so, at this time: none, as many as gave a packet, or one more
abbrev pub polls_of_turn : ℕ → Option Given → ℕ → List Event
polls_of_turn clock None count = []
polls_of_turn clock (Some given.Packet) count = replicate count (Poll clock)
polls_of_turn clock (Some given.Idle) count = replicate (count + 1) (Poll clock)
polls_of_turn clock (Some given.Later) count = replicate (count + 1) (Poll clock)

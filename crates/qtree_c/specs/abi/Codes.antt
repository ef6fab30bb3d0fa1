-- The number by which an event is answered, of which causes and refusals have their own.
-- Those of a poll are this project's own.
use Rattle.std.specs.Prelude.{ℕ, Ok, Err}
use Rattle.q_model.specs.Refusal.{refusal_number}
use Rattle.q_model.specs.declared.polled.Polled.{Polled}
use Rattle.q_model.specs.declared.polled.Polled.TheVariants as polled
use Rattle.q_model.specs.declared.reply.Reply.{Reply}
use Rattle.q_model.specs.declared.reply.Reply.TheVariants as reply
use Rattle.q_device.specs.device.Answers.{fate_number}

abbrev pub polled_number : Polled → ℕ
polled_number (polled.Packet p) = 0
polled_number polled.Idle = 30
polled_number polled.Later = 31

abbrev pub reply_number : Reply → ℕ
reply_number (reply.Fate f) = fate_number f
reply_number (reply.Polled p) = polled_number p
reply_number (reply.Done (Ok done)) = 0
reply_number (reply.Done (Err refusal)) = refusal_number refusal

use Rattle.std.proofs.Common.{◌∙◌, Option, Some, ap, refl, sym}
use Rattle.std.specs.Prelude.{option_map}
use Rattle.q_packet.specs.Descriptor.{Descriptor}
use Rattle.q_device.specs.device.Bursts.{given_as}
use Rattle.q_device.specs.Events.{after_event, reply_to}
use Rattle.q_device.specs.Laws.{given_in}
use Rattle.q_device.proofs.device.Device.poll_next.Goals as goal
use Rattle.q_device.proofs.device.PollLemmas.{poll-is}

pub returns-in-Packet-clause-polled : goal.returns-in-Packet-clause-polled
unfolding after_event
returns-in-Packet-clause-polled g c = poll-is c.args.now c.args.self.now c.poll_kept.new.self c.poll_kept.ensures.event c.poll_kept.ensures.memory

pub returns-in-Packet-clause-answer : goal.returns-in-Packet-clause-answer
unfolding reply_to
returns-in-Packet-clause-answer g c = ap given_as c.in-Packet.ensures.reply

pub returns-in-Packet-clause-given : goal.returns-in-Packet-clause-given
unfolding reply_to
returns-in-Packet-clause-given g c = λ is. ap (λ (o : Option Descriptor). option_map g.T.Told.told o) (ap given_in (sym c.in-Packet.ensures.reply)) ∙ ap Some (sym c.tell.ensures)

pub returns-in-Idle-clause-polled : goal.returns-in-Idle-clause-polled
unfolding after_event
returns-in-Idle-clause-polled g c = poll-is c.args.now c.args.self.now c.poll_kept.new.self c.poll_kept.ensures.event c.poll_kept.ensures.memory

pub returns-in-Idle-clause-answer : goal.returns-in-Idle-clause-answer
unfolding reply_to
returns-in-Idle-clause-answer g c = ap given_as c.in-Idle.ensures.reply

pub returns-in-Idle-clause-none : goal.returns-in-Idle-clause-none
unfolding reply_to
returns-in-Idle-clause-none g c = λ isnt. (ap given_in (sym c.in-Idle.ensures.reply), refl)

pub returns-in-Later-clause-polled : goal.returns-in-Later-clause-polled
unfolding after_event
returns-in-Later-clause-polled g c = poll-is c.args.now c.args.self.now c.poll_kept.new.self c.poll_kept.ensures.event c.poll_kept.ensures.memory

pub returns-in-Later-clause-answer : goal.returns-in-Later-clause-answer
unfolding reply_to
returns-in-Later-clause-answer g c = ap given_as c.in-Later.ensures.reply

pub returns-in-Later-clause-none : goal.returns-in-Later-clause-none
unfolding reply_to
returns-in-Later-clause-none g c = λ isnt. (ap given_in (sym c.in-Later.ensures.reply), refl)

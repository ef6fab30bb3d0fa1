use Rattle.std.proofs.Common.{◌∙◌, Option, ap}
use Rattle.std.specs.Prelude.{unwrap_or}
use Rattle.q_packet.specs.Descriptor.{Descriptor}
use Rattle.q_device.specs.Laws.{given_in}
use Rattle.q_device.proofs.device.Device.poll_into.Goals as goal

pub returns-in-Packet-clause-packet : goal.returns-in-Packet-clause-packet
returns-in-Packet-clause-packet c =
    c.packet.ensures ∙ ap (λ (g : Option Descriptor). unwrap_or g c.args.out.now) (ap given_in c.in-Packet.ensures.reply ∙ c.in-Packet.ensures.gives)

pub returns-in-Idle-clause-packet : goal.returns-in-Idle-clause-packet
returns-in-Idle-clause-packet c = ap (λ (g : Option Descriptor). unwrap_or g c.args.out.now) (ap given_in c.in-Idle.ensures.reply ∙ c.in-Idle.ensures.gives)

pub returns-in-Later-clause-packet : goal.returns-in-Later-clause-packet
returns-in-Later-clause-packet c = ap (λ (g : Option Descriptor). unwrap_or g c.args.out.now) (ap given_in c.in-Later.ensures.reply ∙ c.in-Later.ensures.gives)

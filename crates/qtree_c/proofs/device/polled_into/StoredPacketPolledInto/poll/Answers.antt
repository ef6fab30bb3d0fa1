use Rattle.std.proofs.Common.{◌≡◌, ◌∙◌, Option, Some, None, ap, refl, sym}
use Rattle.std.specs.Prelude.{unwrap_or}
use Rattle.std.specs.Option.{option_map_or}
use Rattle.std.proofs.lemmas.Option.{none-some}
use Rattle.q_packet.specs.Descriptor.{Descriptor}
use Rattle.q_packet.specs.Stored.{descriptor, stored_of}
use Rattle.q_packet.specs.declared.stored_packet.StoredPacket.{StoredPacket}
use Rattle.qtree_c.specs.abi.Structs.{told_or}
use Rattle.q_model.specs.declared.reply.Reply.{Reply}
use Rattle.q_model.specs.declared.reply.Reply.TheVariants.{Polled}
use Rattle.q_device.specs.declared.given.Given.{Given}
use Rattle.q_device.specs.declared.given.Given.TheVariants as given
use Rattle.q_device.specs.device.DeviceSeen.{DeviceSeen, Memory, polled_memory, with_event}
use Rattle.q_device.specs.device.Giving.{polled_in}
use Rattle.q_device.specs.Laws.{given_in}
use Rattle.q_model.specs.declared.event.Event.TheVariants.{Poll}
use Rattle.q_device.specs.device.Polls.{after_poll}
use Rattle.q_device.specs.Events.{after_event, reply_to, with_memory}
use Rattle.qtree_c.proofs.device.polled_into.StoredPacketPolledInto.poll.Goals as goal

pub returns-clause-polled : goal.returns-clause-polled
unfolding after_event after_poll
returns-clause-polled c =
    let e = Poll c.args.now in
    c.poll_stored.ensures.event
    ∙ ap (λ (m : Memory). with_memory m (with_event e c.args.device.now))
    (c.poll_stored.ensures.memory ∙ ap (λ (x : DeviceSeen). polled_memory x.device.clock c.args.device.now.memory) c.poll_stored.ensures.event)

-- where no packet was given it does not matter which one would stand in its place
other-told : (g : Option Descriptor) (r : Given) (a b : Descriptor) (reply : Reply) → Polled (polled_in (unwrap_or g a) r) ≡ reply → given_in reply ≡ g → Polled (polled_in (unwrap_or g b) r) ≡ reply
other-told (Some p) r a b reply is gives = is
other-told None given.Packet a b reply is gives = absurd (none-some a (sym (ap given_in is ∙ gives)))
other-told None given.Idle a b reply is gives = is
other-told None given.Later a b reply is gives = is

-- what is in the place
told-is : (g : Option Descriptor) (before : StoredPacket) → option_map_or stored_of g before ≡ told_or stored_of before g
told-is (Some p) before = refl
told-is None before = refl

pub returns-clause-packet : goal.returns-clause-packet
unfolding reply_to
returns-clause-packet c = c.poll_stored.ensures.packet ∙ ap (λ (g : Option Descriptor). option_map_or stored_of g c.args.place.now) (sym c.poll_stored.ensures.gives) ∙ told-is _ c.args.place.now

pub returns-clause-reply : goal.returns-clause-reply
unfolding reply_to
returns-clause-reply c = λ other.
    ap (λ (g : Option Descriptor). Polled (polled_in (unwrap_or g other) c.poll_stored.result)) c.poll_stored.ensures.gives
    ∙ other-told _ c.poll_stored.result (descriptor c.args.place.now) other _ c.poll_stored.ensures.reply c.poll_stored.ensures.gives

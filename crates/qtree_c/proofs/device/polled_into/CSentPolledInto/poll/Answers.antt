use Rattle.std.proofs.Common.{◌≡◌, ◌∙◌, Option, Some, None, ap, sym}
use Rattle.std.proofs.lemmas.Option.{none-some}
use Rattle.q_packet.specs.Descriptor.{Descriptor}
use Rattle.q_packet.specs.Stored.{descriptor, stored_of}
use Rattle.q_packet.specs.declared.stored_packet.StoredPacket.{StoredPacket}
use Rattle.q_device.specs.Laws.{given_in}
use Rattle.qtree_c.specs.abi.Structs.{sent_of, told_or, zero_packet}
use Rattle.qtree_c.specs.declared.abi.c_sent.CSent.{CSent}
use Rattle.qtree_c.proofs.device.polled_into.CSentPolledInto.poll.Goals as goal

abbrev sent : StoredPacket → CSent
sent s = record { number = s.number; port = s.port; buf = s.buf; len = s.len; ecn = s.ecn }

sent-told : (g : Option Descriptor) (x : Descriptor) (before : CSent) (s some : StoredPacket) → Some x ≡ g → s ≡ told_or stored_of some g → sent s ≡ told_or sent_of before g
sent-told (Some p) x before s some e is = ap sent is
sent-told None x before s some e is = absurd (none-some x (sym e))

pub returns-in-Packet-clause-packet : goal.returns-in-Packet-clause-packet
returns-in-Packet-clause-packet c = sent-told _ _ c.args.place.now _ _ (ap given_in (c.in-Packet.ensures.reply (descriptor zero_packet))) c.in-Packet.ensures.packet

pub returns-in-Idle-clause-packet : goal.returns-in-Idle-clause-packet
returns-in-Idle-clause-packet c = ap (told_or sent_of c.args.place.now) (ap given_in (c.in-Idle.ensures.reply (descriptor zero_packet)))

pub returns-in-Later-clause-packet : goal.returns-in-Later-clause-packet
returns-in-Later-clause-packet c = ap (told_or sent_of c.args.place.now) (ap given_in (c.in-Later.ensures.reply (descriptor zero_packet)))

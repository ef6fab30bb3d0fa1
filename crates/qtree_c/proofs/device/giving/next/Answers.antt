use Rattle.std.proofs.Common.{◌≡◌, ◌∙◌, Option, Some, None, ap, sym}
use Rattle.std.specs.Prelude.{option_map}
use Rattle.std.proofs.lemmas.Option.{none-some}
use Rattle.q_packet.specs.Descriptor.{Descriptor}
use Rattle.q_packet.specs.Stored.{descriptor}
use Rattle.q_device.specs.Laws.{given_in}
use Rattle.qtree_c.specs.abi.Codes.{reply_number}
use Rattle.qtree_c.specs.abi.Structs.{told_or, zero_packet}
use Rattle.qtree_c.proofs.device.giving.next.Goals as goal

told-given : {A : Type 0} (told : Descriptor → A) (g : Option Descriptor) (x : Descriptor) (before after : A) → Some x ≡ g → after ≡ told_or told before g → option_map told g ≡ Some after
told-given told (Some p) x before after e is = ap Some (sym is)
told-given told None x before after e is = absurd (none-some x (sym e))

pub returns-in-Packet-clause-given : goal.returns-in-Packet-clause-given
returns-in-Packet-clause-given g c = told-given g.T.PolledInto.told _ _ _ _ (ap given_in (c.in-Packet.ensures.reply (descriptor zero_packet))) c.in-Packet.ensures.packet

pub returns-in-Packet-clause-done : goal.returns-in-Packet-clause-done
returns-in-Packet-clause-done g c = sym (ap reply_number (c.in-Packet.ensures.reply (descriptor zero_packet)))

pub returns-in-Idle-clause-kept : goal.returns-in-Idle-clause-kept
returns-in-Idle-clause-kept g c = c.in-Idle.ensures.packet ∙ sym (ap (told_or g.T.PolledInto.told c.args.place.now) (ap given_in (c.in-Idle.ensures.reply (descriptor zero_packet))))

pub returns-in-Idle-clause-none : goal.returns-in-Idle-clause-none
returns-in-Idle-clause-none g c = sym (ap given_in (c.in-Idle.ensures.reply (descriptor zero_packet)))

pub returns-in-Idle-clause-answer : goal.returns-in-Idle-clause-answer
returns-in-Idle-clause-answer g c = ap reply_number (c.in-Idle.ensures.reply (descriptor zero_packet))

pub returns-in-Later-clause-kept : goal.returns-in-Later-clause-kept
returns-in-Later-clause-kept g c = c.in-Later.ensures.packet ∙ sym (ap (told_or g.T.PolledInto.told c.args.place.now) (ap given_in (c.in-Later.ensures.reply (descriptor zero_packet))))

pub returns-in-Later-clause-none : goal.returns-in-Later-clause-none
returns-in-Later-clause-none g c = sym (ap given_in (c.in-Later.ensures.reply (descriptor zero_packet)))

pub returns-in-Later-clause-answer : goal.returns-in-Later-clause-answer
returns-in-Later-clause-answer g c = ap reply_number (c.in-Later.ensures.reply (descriptor zero_packet))

-- The two bytes of the checksum are those of the word that the words before and after make.
use Rattle.std.proofs.Common.{◌≡◌, ◌∙◌, set, slice_index, sym, ap, subst, arith}
use Rattle.std.specs.Int.Bits.{bit_or}
use Rattle.byteorder.specs.Endian.{big_from}
use Rattle.q_packet.specs.Marking.{marked_ipv4, renewed_checksum, with_ce_ipv4}
use Rattle.q_packet.proofs.ChecksumLemmas.{checksum_stays}
use Rattle.q_packet.proofs.HeadLemmas.{number_from}
use Rattle.q_packet.proofs.MarkingLemmas.{Marks4, ipv4_parts, marks4, set_low_two}
use Rattle.q_packet.proofs.marking.mark_ipv4.Goals as goal

pub returns-clause-value : goal.returns-clause-value
unfolding marked_ipv4
returns-clause-value c =
    let packet = c.args.packet.now in
    let is = ipv4_parts packet c.requires in
    let traffic : set packet 1 (bit_or (slice_index packet 1) 3) ≡ with_ce_ipv4 packet = ap (set packet 1) (set_low_two (slice_index packet 1)) in
    let checksum : c.read_u16-checksum.result ≡ big_from 10 2 packet =
    c.read_u16-checksum.ensures ∙ number_from packet 10 2 (omega (arith, is.least, is.there)) in
    let old : c.read_u16-old.result ≡ big_from 0 2 packet = c.read_u16-old.ensures in
    let new : c.read_u16-new.result ≡ big_from 0 2 (with_ce_ipv4 packet) = c.read_u16-new.ensures ∙ ap (big_from 0 2) traffic in
    let renewed : c.renewed_checksum.result ≡ renewed_checksum (big_from 10 2 packet) (big_from 0 2 packet) (big_from 0 2 (with_ce_ipv4 packet)) = cc in
    let written = c.write_checksum.ensures in
    cc

pub returns-clause-checksum : goal.returns-clause-checksum
returns-clause-checksum c =
    let packet = c.args.packet.now in
    let is = ipv4_parts packet c.requires in
    let marks = subst (Marks4 packet) (sym (returns-clause-value c)) (marks4 packet (omega (arith, is.least, is.there))) in
    let checksum : c.read_u16-checksum.result ≡ big_from 10 2 packet =
    c.read_u16-checksum.ensures ∙ number_from packet 10 2 (omega (arith, is.least, is.there)) in
    checksum_stays packet _ marks is (λ i. omega (arith, c.type_inv.packet i)) (omega arith)

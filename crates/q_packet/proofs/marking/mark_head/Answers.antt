-- The head says whether a packet is marked, and its version how.
use Rattle.std.proofs.Common.{◌∙◌, ap, sym, subst, arith}
use Rattle.std.proofs.lemmas.Bool.{both_ways}
use Rattle.q_packet.specs.Head.{is_ipv4}
use Rattle.q_packet.specs.Marking.{becomes_ce}
use Rattle.q_packet.specs.declared.head.Head.{Head}
use Rattle.q_packet.proofs.MarkingLemmas.{Marks4, Marks6, capable4, capable6, capable_there, head_marked4, head_marked6, head_to_mark, ipv4_parts, kept, marked4, marked6, marks4, marks6, other_version}
use Rattle.q_packet.proofs.marking.mark_head.Goals as goal

-- before the bytes are written

pub bounds-packet-0 : goal.bounds-packet-0
bounds-packet-0 c =
    let packet = c.args.packet.now in
    let codes = head_to_mark packet _ c.read_head.ensures.value c.in-Ect0.is in
    omega (arith, capable_there packet codes.1)

pub mark_ipv4-requires : goal.mark_ipv4-requires
mark_ipv4-requires c =
    let packet = c.args.packet.now in
    let codes = head_to_mark packet _ c.read_head.ensures.value c.in-Ect0.is in
    capable4 packet codes.1 c.if-packet-eq4.true

pub mark_ipv6-requires : goal.mark_ipv6-requires
mark_ipv6-requires c =
    let packet = c.args.packet.now in
    let codes = head_to_mark packet _ c.read_head.ensures.value c.in-Ect0.is in
    omega (arith, capable_there packet codes.1)

-- where nothing is written

pub returns-in-NotEct-clause-value : goal.returns-in-NotEct-clause-value
returns-in-NotEct-clause-value c =
    kept c.args.packet.now (ap (λ (h : Head). becomes_ce h.ecn) (sym c.read_head.ensures.value) ∙ ap becomes_ce c.in-NotEct.is)

pub returns-in-Ce-clause-value : goal.returns-in-Ce-clause-value
returns-in-Ce-clause-value c =
    kept c.args.packet.now (ap (λ (h : Head). becomes_ce h.ecn) (sym c.read_head.ensures.value) ∙ ap becomes_ce c.in-Ce.is)

-- IPv4

pub returns-then-packet-eq4-clause-value : goal.returns-then-packet-eq4-clause-value
returns-then-packet-eq4-clause-value c =
    let packet = c.args.packet.now in
    let codes = head_to_mark packet _ c.read_head.ensures.value c.in-Ect0.is in
    c.mark_ipv4.ensures.value ∙ marked4 packet codes.0 (capable4 packet codes.1 c.if-packet-eq4.true)

pub returns-then-packet-eq4-clause-read : goal.returns-then-packet-eq4-clause-read
returns-then-packet-eq4-clause-read c =
    let packet = c.args.packet.now in
    let codes = head_to_mark packet _ c.read_head.ensures.value c.in-Ect0.is in
    let marks = subst (Marks4 packet) (sym c.mark_ipv4.ensures.value) (marks4 packet (omega (arith, capable_there packet codes.1))) in
    head_marked4 packet _ marks (ipv4_parts packet (capable4 packet codes.1 c.if-packet-eq4.true))

pub returns-then-packet-eq4-clause-checksum : goal.returns-then-packet-eq4-clause-checksum
returns-then-packet-eq4-clause-checksum c whole right = c.mark_ipv4.ensures.checksum.0 right

pub returns-then-packet-eq4-clause-damage : goal.returns-then-packet-eq4-clause-damage
returns-then-packet-eq4-clause-damage c whole right = c.mark_ipv4.ensures.checksum.1 right

pub returns-then-packet-eq4-clause-others : goal.returns-then-packet-eq4-clause-others
returns-then-packet-eq4-clause-others c =
    let packet = c.args.packet.now in
    let codes = head_to_mark packet _ c.read_head.ensures.value c.in-Ect0.is in
    let marks = subst (Marks4 packet) (sym c.mark_ipv4.ensures.value) (marks4 packet (omega (arith, capable_there packet codes.1))) in
    marks.bytes

pub returns-then-packet-eq4-clause-one_byte : goal.returns-then-packet-eq4-clause-one_byte
returns-then-packet-eq4-clause-one_byte c not_4 =
    let packet = c.args.packet.now in
    let codes = head_to_mark packet _ c.read_head.ensures.value c.in-Ect0.is in
    absurd (both_ways (is_ipv4 packet) not_4 (capable4 packet codes.1 c.if-packet-eq4.true))

-- IPv6

pub returns-else-packet-eq4-clause-value : goal.returns-else-packet-eq4-clause-value
returns-else-packet-eq4-clause-value c =
    let packet = c.args.packet.now in
    let codes = head_to_mark packet _ c.read_head.ensures.value c.in-Ect0.is in
    c.mark_ipv6.ensures ∙ marked6 packet codes.0 (other_version packet c.if-packet-eq4.false)

pub returns-else-packet-eq4-clause-read : goal.returns-else-packet-eq4-clause-read
returns-else-packet-eq4-clause-read c =
    let packet = c.args.packet.now in
    let codes = head_to_mark packet _ c.read_head.ensures.value c.in-Ect0.is in
    let marks = subst (Marks6 packet) (sym c.mark_ipv6.ensures) (marks6 packet (omega (arith, capable_there packet codes.1))) in
    head_marked6 packet _ marks (capable6 packet codes.1 (other_version packet c.if-packet-eq4.false))

pub returns-else-packet-eq4-clause-others : goal.returns-else-packet-eq4-clause-others
returns-else-packet-eq4-clause-others c i not_1 not_10 not_11 =
    let packet = c.args.packet.now in
    let codes = head_to_mark packet _ c.read_head.ensures.value c.in-Ect0.is in
    let marks = subst (Marks6 packet) (sym c.mark_ipv6.ensures) (marks6 packet (omega (arith, capable_there packet codes.1))) in
    marks.bytes i not_1

pub returns-else-packet-eq4-clause-one_byte : goal.returns-else-packet-eq4-clause-one_byte
returns-else-packet-eq4-clause-one_byte c not_4 =
    let packet = c.args.packet.now in
    let codes = head_to_mark packet _ c.read_head.ensures.value c.in-Ect0.is in
    let marks = subst (Marks6 packet) (sym c.mark_ipv6.ensures) (marks6 packet (omega (arith, capable_there packet codes.1))) in
    marks.bytes

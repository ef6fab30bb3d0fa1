-- Each field is the number that stands at its place.
use Rattle.std.proofs.Common.{◌≡◌, ◌≤◌, ◌∙◌, length, arith}
use Rattle.byteorder.specs.Endian.{big_from}
use Rattle.q_packet.specs.Head.{header_length, ipv4_head}
use Rattle.q_packet.proofs.HeadLemmas.{number_from, head_is_ipv4}
use Rattle.q_packet.proofs.head.read_ipv4.Goals as goal

pub returns-clause-value : goal.returns-clause-value
unfolding ipv4_head
returns-clause-value c =
    let packet = c.args.packet.now in
    let header = c.ipv4_header_length-header.ensures in
    let least : 20 ≤ header_length packet = omega arith in
    let there : header_length packet ≤ length packet = omega arith in
    let whole = head_is_ipv4 packet c.requires least there in
    let src : c.read_u32.result ≡ big_from 12 4 packet = c.read_u32.ensures ∙ number_from packet 12 4 (omega arith) in
    let dst : c.read_u32-2.result ≡ big_from 16 4 packet = c.read_u32-2.ensures ∙ number_from packet 16 4 (omega arith) in
    let prio = c.prio_of_traffic.ensures in
    let ecn = c.from_bits.ensures.value in
    let sport = c.read_ipv4_ports-sport.ensures.source in
    let dport = c.read_ipv4_ports-sport.ensures.destination in
    rw whole (cc)

-- Each field is the number that stands at its place.
use Rattle.std.proofs.Common.{◌≡◌, ◌∙◌, ap, arith}
use Rattle.byteorder.specs.Endian.{big_from}
use Rattle.q_packet.specs.Ecn.{ecn_of}
use Rattle.q_packet.specs.Head.{ipv6_head, prio_of}
use Rattle.q_packet.proofs.HeadLemmas.{number_from, head_is_ipv6}
use Rattle.q_packet.proofs.head.read_ipv6.Goals as goal

pub returns-clause-value : goal.returns-clause-value
unfolding ipv6_head
returns-clause-value c =
    let packet = c.args.packet.now in
    let whole = head_is_ipv6 packet c.requires c.if-packet-lt-IPV6_HEADER.false in
    let src : c.read_u128.result ≡ big_from 8 16 packet = c.read_u128.ensures ∙ number_from packet 8 16 (omega arith) in
    let dst : c.read_u128-2.result ≡ big_from 24 16 packet = c.read_u128-2.ensures ∙ number_from packet 24 16 (omega arith) in
    let prio = c.prio_of_traffic.ensures ∙ ap prio_of c.read_traffic_class-traffic.ensures in
    let ecn = c.from_bits.ensures.value ∙ ap ecn_of c.read_traffic_class-traffic.ensures in
    let sport = c.read_ports-sport.ensures.source in
    let dport = c.read_ports-sport.ensures.destination in
    rw whole (cc)

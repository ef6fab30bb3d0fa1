-- Lines with addresses of both versions, prefixes, and protocols above IP.
-- The rules are those of docs/LANGUAGE.md; ranges are those of docs/DISCIPLINES.md.
use Rattle.std.proofs.Common.{List, [], ◌∷◌, Some, refl}
use Rattle.std.specs.Prelude.{codes, Ok, Err}
use Rattle.q_packet.specs.Key.{zero_key}
use Rattle.q_model.specs.declared.ip_version.IpVersion.TheVariants.{V4, V6}
use Rattle.q_model.specs.declared.protocol.Protocol.TheVariants.{Ip, Ipv6}
use Rattle.q_words.specs.declared.line_fault.LineFault.TheVariants as fault
use Rattle.q_line.specs.declared.line.Line.TheVariants as line
use Rattle.q_worked_examples.proofs.lines.LineTable.{Row, AreRead, filter, no_keys, one_byte, one_filter, prio}
use Rattle.q_worked_examples.proofs.SharedRules.{line_rules}

-- eight groups; `::` at each place, and where it may not stand
abbrev ipv6_addresses : List Row
ipv6_addresses =
    (codes "pkt 1 src_ip ::", Ok (line.Pkt (record one_byte { key = record zero_key { family = 6; src = 0 } })))
    ∷ (codes "pkt 1 src_ip ::2:3:4:5:6:7:8", Ok (line.Pkt (record one_byte { key = record zero_key { family = 6; src = 158459951879775902770104041480 } })))
    ∷ (codes "pkt 1 src_ip 1::3:4:5:6:7:8", Ok (line.Pkt (record one_byte { key = record zero_key { family = 6; src = 5192296862161678875758079345360904 } })))
    ∷ (codes "pkt 1 src_ip 1:2::4:5:6:7:8", Ok (line.Pkt (record one_byte { key = record zero_key { family = 6; src = 5192455314859929945589378909143048 } })))
    ∷ (codes "pkt 1 src_ip 1:2:3::5:6:7:8", Ok (line.Pkt (record one_byte { key = record zero_key { family = 6; src = 5192455318486633617456971595055112 } })))
    ∷ (codes "pkt 1 src_ip 1:2:3:4::6:7:8", Ok (line.Pkt (record one_byte { key = record zero_key { family = 6; src = 5192455318486707403025891549708296 } })))
    ∷ (codes "pkt 1 src_ip 1:2:3:4:5::7:8", Ok (line.Pkt (record one_byte { key = record zero_key { family = 6; src = 5192455318486707404433240663457800 } })))
    ∷ (codes "pkt 1 src_ip 1:2:3:4:5:6::8", Ok (line.Pkt (record one_byte { key = record zero_key { family = 6; src = 5192455318486707404433266432802824 } })))
    ∷ (codes "pkt 1 src_ip 1:2:3:4:5:6:7::", Ok (line.Pkt (record one_byte { key = record zero_key { family = 6; src = 5192455318486707404433266433261568 } })))
    ∷ (codes "pkt 1 src_ip 1:2:3:4:5:6:7:8", Ok (line.Pkt (record one_byte { key = record zero_key { family = 6; src = 5192455318486707404433266433261576 } })))
    ∷ (codes "pkt 1 src_ip ::8", Ok (line.Pkt (record one_byte { key = record zero_key { family = 6; src = 8 } })))
    ∷ (codes "pkt 1 src_ip 1::", Ok (line.Pkt (record one_byte { key = record zero_key { family = 6; src = 5192296858534827628530496329220096 } })))
    ∷ (codes "pkt 1 src_ip 1:2::7:8", Ok (line.Pkt (record one_byte { key = record zero_key { family = 6; src = 5192455314859856157205683417579528 } })))
    ∷ (codes "pkt 1 src_ip FE80::00aB", Ok (line.Pkt (record one_byte { key = record zero_key { family = 6; src = 338288524927261089654018896841347694763 } })))
    ∷ (codes "pkt 1 src_ip 1:2:3:4::5:6:7:8", Err (fault.BadNumber 4))
    ∷ (codes "pkt 1 src_ip ::1:2:3:4:5:6:7:8", Err (fault.BadNumber 4))
    ∷ (codes "pkt 1 src_ip 1:2:3:4:5:6:7:8::", Err (fault.BadNumber 4))
    ∷ (codes "pkt 1 src_ip 1::2::3", Err (fault.BadNumber 4))
    ∷ (codes "pkt 1 src_ip :::", Err (fault.BadNumber 4))
    ∷ (codes "pkt 1 src_ip 1:2:3:4:5:6:7", Err (fault.BadNumber 4))
    ∷ (codes "pkt 1 src_ip 1:2:3:4:5:6:7:8:9", Err (fault.BadNumber 4))
    ∷ (codes "pkt 1 src_ip 12345::", Err (fault.BadNumber 4))
    ∷ (codes "pkt 1 src_ip ::g", Err (fault.BadNumber 4))
    ∷ (codes "pkt 1 src_ip ::1.2.3.4", Err (fault.BadNumber 4))
    ∷ (codes "pkt 1 src_ip :1", Err (fault.BadNumber 4))
    ∷ (codes "pkt 1 src_ip 1:", Err (fault.BadNumber 4))
    ∷ (codes "pkt 1 src_ip :", Err (fault.BadNumber 4))
    ∷ []

ipv6_addresses_are_read : AreRead ipv6_addresses
unfolding line_rules
ipv6_addresses_are_read = refl

-- four numbers
abbrev ipv4_addresses : List Row
ipv4_addresses =
    (codes "pkt 1 dst_ip 0.0.0.0", Ok (line.Pkt (record one_byte { key = record zero_key { family = 4; dst = 0 } })))
    ∷ (codes "pkt 1 dst_ip 255.255.255.255", Ok (line.Pkt (record one_byte { key = record zero_key { family = 4; dst = 4294967295 } })))
    ∷ (codes "pkt 1 dst_ip 10.0.0.1", Ok (line.Pkt (record one_byte { key = record zero_key { family = 4; dst = 167772161 } })))
    ∷ (codes "pkt 1 dst_ip 010.0.0.001", Ok (line.Pkt (record one_byte { key = record zero_key { family = 4; dst = 167772161 } })))
    ∷ (codes "pkt 1 dst_ip 256.0.0.0", Err (fault.OutOfRange 4))
    ∷ (codes "pkt 1 dst_ip 1.2.3.256", Err (fault.OutOfRange 4))
    ∷ (codes "pkt 1 dst_ip 1.2.3.00256", Err (fault.OutOfRange 4))
    ∷ (codes "pkt 1 dst_ip 0001.2.3.256", Err (fault.OutOfRange 4))
    ∷ (codes "pkt 1 dst_ip 1.2.3.0004", Err (fault.BadNumber 4))
    ∷ (codes "pkt 1 dst_ip 1.2.3", Err (fault.BadNumber 4))
    ∷ (codes "pkt 1 dst_ip 1.2.3.4.5", Err (fault.BadNumber 4))
    ∷ (codes "pkt 1 dst_ip 1.2.3.", Err (fault.BadNumber 4))
    ∷ (codes "pkt 1 dst_ip 1..3.4", Err (fault.BadNumber 4))
    ∷ (codes "pkt 1 dst_ip 1.2.3.x", Err (fault.BadNumber 4))
    ∷ (codes "pkt 1 dst_ip 1.2.3.-4", Err (fault.BadNumber 4))
    ∷ (codes "pkt 1 dst_ip 1.2.3.4/32", Err (fault.BadNumber 4))
    ∷ (codes "pkt 1 src_ip ::/0", Err (fault.BadNumber 4))
    ∷ []

ipv4_addresses_are_read : AreRead ipv4_addresses
unfolding line_rules
ipv4_addresses_are_read = refl

-- a prefix of no bits, of all, and of more; the form of either part comes first
abbrev prefixes : List Row
prefixes =
    (codes "tc filter add dev e parent 1: prio 1 flower classid 1:1 src_ip 1.2.3.4", filter 1 1 (record one_filter { keys = record no_keys { src_ip = Some (record { version = V4; address = 16909060; len = 32 }) } }))
    ∷ (codes "tc filter add dev e parent 1: prio 1 flower classid 1:1 src_ip 1.2.3.4/0", filter 1 1 (record one_filter { keys = record no_keys { src_ip = Some (record { version = V4; address = 16909060; len = 0 }) } }))
    ∷ (codes "tc filter add dev e parent 1: prio 1 flower classid 1:1 src_ip 1.2.3.4/32", filter 1 1 (record one_filter { keys = record no_keys { src_ip = Some (record { version = V4; address = 16909060; len = 32 }) } }))
    ∷ (codes "tc filter add dev e parent 1: prio 1 flower classid 1:1 src_ip 1.2.3.4/33", Err (fault.OutOfRange 14))
    ∷ (codes "tc filter add dev e parent 1: prio 1 flower classid 1:1 src_ip 1.2.3.4/008", filter 1 1 (record one_filter { keys = record no_keys { src_ip = Some (record { version = V4; address = 16909060; len = 8 }) } }))
    ∷ (codes "tc filter add dev e parent 1: prio 1 flower classid 1:1 src_ip 1.2.3.4/", Err (fault.BadNumber 14))
    ∷ (codes "tc filter add dev e parent 1: prio 1 flower classid 1:1 src_ip 1.2.3.4/-1", Err (fault.BadNumber 14))
    ∷ (codes "tc filter add dev e parent 1: prio 1 flower classid 1:1 src_ip 1.2.3.256/8", Err (fault.OutOfRange 14))
    ∷ (codes "tc filter add dev e parent 1: prio 1 flower classid 1:1 src_ip 1.2.3.256/x", Err (fault.BadNumber 14))
    ∷ (codes "tc filter add dev e parent 1: prio 1 flower classid 1:1 src_ip 1.2.3/33", Err (fault.BadNumber 14))
    ∷ (codes "tc filter add dev e parent 1: prio 1 flower classid 1:1 src_ip 1.2.3.4/8/8", Err (fault.BadNumber 14))
    ∷ (codes "tc filter add dev e parent 1: prio 1 flower classid 1:1 src_ip /8", Err (fault.BadNumber 14))
    ∷ (codes "tc filter add dev e parent 1: prio 1 flower classid 1:1 dst_ip 1::2", filter 1 1 (record one_filter { keys = record no_keys { dst_ip = Some (record { version = V6; address = 5192296858534827628530496329220098; len = 128 }) } }))
    ∷ (codes "tc filter add dev e parent 1: prio 1 flower classid 1:1 dst_ip ::/0", filter 1 1 (record one_filter { keys = record no_keys { dst_ip = Some (record { version = V6; address = 0; len = 0 }) } }))
    ∷ (codes "tc filter add dev e parent 1: prio 1 flower classid 1:1 dst_ip ::1/128", filter 1 1 (record one_filter { keys = record no_keys { dst_ip = Some (record { version = V6; address = 1; len = 128 }) } }))
    ∷ (codes "tc filter add dev e parent 1: prio 1 flower classid 1:1 dst_ip ::1/129", Err (fault.OutOfRange 14))
    ∷ (codes "tc filter add dev e parent 1: prio 1 flower classid 1:1 dst_ip 1:2:3:4:5:6:7::/112", filter 1 1 (record one_filter { keys = record no_keys { dst_ip = Some (record { version = V6; address = 5192455318486707404433266433261568; len = 112 }) } }))
    ∷ (codes "tc filter add dev e parent 1: prio 1 flower classid 1:1 dst_ip ::1/", Err (fault.BadNumber 14))
    ∷ (codes "tc filter add dev e parent 1: prio 1 flower classid 1:1 dst_ip 1::2::3/129", Err (fault.BadNumber 14))
    ∷ (codes "tc filter add dev e parent 1: prio 1 flower classid 1:1 dst_ip ::1/x", Err (fault.BadNumber 14))
    ∷ []

prefixes_are_read : AreRead prefixes
unfolding line_rules
prefixes_are_read = refl

-- an address of another version than the protocol's, or than that of an address further left
abbrev families : List Row
families =
    (codes "tc filter add dev e parent 1: prio 1 protocol ip flower classid 1:1 src_ip ::1", Err (fault.OutOfRange 16))
    ∷ (codes "tc filter add dev e parent 1: prio 1 protocol ipv6 flower classid 1:1 dst_ip 1.2.3.4", Err (fault.OutOfRange 16))
    ∷ (codes "tc filter add dev e parent 1: prio 1 protocol ip flower classid 1:1 dst_ip 1.2.3.4", filter 1 1 (record one_filter { protocol = Ip; keys = record no_keys { dst_ip = Some (record { version = V4; address = 16909060; len = 32 }) } }))
    ∷ (codes "tc filter add dev e parent 1: prio 1 protocol ipv6 flower classid 1:1 src_ip ::1", filter 1 1 (record one_filter { protocol = Ipv6; keys = record no_keys { src_ip = Some (record { version = V6; address = 1; len = 128 }) } }))
    ∷ (codes "tc filter add dev e parent 1: prio 1 protocol all flower classid 1:1 src_ip ::1", filter 1 1 (record one_filter { keys = record no_keys { src_ip = Some (record { version = V6; address = 1; len = 128 }) } }))
    ∷ (codes "tc filter add dev e parent 1: prio 1 flower classid 1:1 src_ip ::1 dst_ip 1.2.3.4", Err (fault.OutOfRange 16))
    ∷ (codes "tc filter add dev e parent 1: prio 1 flower classid 1:1 dst_ip ::1 src_ip 1.2.3.4", Err (fault.OutOfRange 16))
    ∷ (codes "tc filter add dev e parent 1: prio 1 flower classid 1:1 src_ip ::1 dst_ip ::2", filter 1 1 (record one_filter { keys = record no_keys { src_ip = Some (record { version = V6; address = 1; len = 128 }); dst_ip = Some (record { version = V6; address = 2; len = 128 }) } }))
    ∷ (codes "tc filter add dev e parent 1: prio 1 flower classid 1:1 dst_ip 1.2.3.4/8 src_ip 5.6.7.8", filter 1 1 (record one_filter { keys = record no_keys { dst_ip = Some (record { version = V4; address = 16909060; len = 8 }); src_ip = Some (record { version = V4; address = 84281096; len = 32 }) } }))
    ∷ (codes "tc filter add dev e parent 1: prio 1 protocol ip flower classid 1:1 src_ip ::1/129", Err (fault.OutOfRange 16))
    ∷ (codes "tc filter add dev e parent 1: prio 1 protocol ip flower classid 1:1 src_ip ::g", Err (fault.BadNumber 16))
    ∷ (codes "pkt 1 src_ip ::1 dst_ip 1.2.3.4", Err (fault.OutOfRange 6))
    ∷ (codes "pkt 1 dst_ip ::1 src_ip 1.2.3.4", Err (fault.OutOfRange 6))
    ∷ (codes "pkt 1 src_ip ::1 dst_ip ::2", Ok (line.Pkt (record one_byte { key = record zero_key { family = 6; src = 1; dst = 2 } })))
    ∷ (codes "pkt 1 dst_ip 1.2.3.4 src_ip 5.6.7.8", Ok (line.Pkt (record one_byte { key = record zero_key { family = 4; src = 84281096; dst = 16909060 } })))
    ∷ (codes "pkt 1 src_ip 1.2.3.4 dst_ip ::g", Err (fault.BadNumber 6))
    ∷ []

families_are_read : AreRead families
unfolding line_rules
families_are_read = refl

-- protocols above IP: a name, or hexadecimal digits
abbrev ip_protos : List Row
ip_protos =
    (codes "pkt 1 ip_proto icmp", Ok (line.Pkt (record one_byte { key = record zero_key { proto = 1 } })))
    ∷ (codes "pkt 1 ip_proto tcp", Ok (line.Pkt (record one_byte { key = record zero_key { proto = 6 } })))
    ∷ (codes "pkt 1 ip_proto udp", Ok (line.Pkt (record one_byte { key = record zero_key { proto = 17 } })))
    ∷ (codes "pkt 1 ip_proto icmpv6", Ok (line.Pkt (record one_byte { key = record zero_key { proto = 58 } })))
    ∷ (codes "pkt 1 ip_proto sctp", Ok (line.Pkt (record one_byte { key = record zero_key { proto = 132 } })))
    ∷ (codes "pkt 1 ip_proto 17", Ok (line.Pkt (record one_byte { key = record zero_key { proto = 23 } })))
    ∷ (codes "pkt 1 ip_proto 6", Ok (line.Pkt (record one_byte { key = record zero_key { proto = 6 } })))
    ∷ (codes "pkt 1 ip_proto 0Ff", Ok (line.Pkt (record one_byte { key = record zero_key { proto = 255 } })))
    ∷ (codes "pkt 1 ip_proto 0011", Ok (line.Pkt (record one_byte { key = record zero_key { proto = 17 } })))
    ∷ (codes "pkt 1 ip_proto TCP", Err (fault.BadNumber 4))
    ∷ (codes "pkt 1 ip_proto 0x6", Err (fault.BadNumber 4))
    ∷ (codes "pkt 1 ip_proto ip", Err (fault.BadNumber 4))
    ∷ []

ip_protos_are_read : AreRead ip_protos
unfolding line_rules
ip_protos_are_read = refl

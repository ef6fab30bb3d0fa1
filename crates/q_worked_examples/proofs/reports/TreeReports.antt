-- Worked scripts of the tree: what is asked and what is held, where packets go, what classes and handles are.
-- The rules are those of docs/DISCIPLINES.md.
use Rattle.std.proofs.Common.{[], ◌∷◌, refl}
use Rattle.std.specs.Prelude.{codes}
use Rattle.q_worked_examples.specs.reports.Reports.{settings, reports_on, reports}
use Rattle.q_worked_examples.proofs.SharedRules.{report_rules}

-- a tbf that waits has peeked its child, which has dequeued the packet and holds it; a second peek changes nothing
held_under_a_waiting_tbf :
    reports
    (codes "tc qdisc add dev eth0 root handle 1: tbf rate 8000bit burst 1000 limit 5000" ∷
    codes "tc qdisc add dev eth0 parent 1:1 handle 2: drr" ∷
    codes "tc class add dev eth0 parent 2: classid 2:1 drr" ∷
    codes "tc filter add dev eth0 parent 2: prio 1 flower classid 2:1" ∷
    codes "pkt 1000" ∷
    codes "pkt 1000" ∷
    codes "poll 3" ∷
    codes "tc -s qdisc show" ∷
    codes "tc class show" ∷
    codes "at 1000000000" ∷
    codes "poll 2" ∷ [])
    (codes "sent 1 1000" ∷
    codes "later" ∷
    codes "later" ∷
    codes "qdisc tbf 1: root rate 8000bit burst 1000b limit 5000b" ∷
    codes " arrived 2p 2000b sent 1p 1000b refused 0p 0b dropped 0p 0b queued 1p 1000b" ∷
    codes "qdisc drr 2: parent 1:1" ∷
    codes " arrived 2p 2000b sent 1p 1000b refused 0p 0b dropped 0p 0b queued 1p 1000b" ∷
    codes "qdisc pfifo 0: parent 2:1 limit 1000p" ∷
    codes " arrived 2p 2000b sent 2p 2000b refused 0p 0b dropped 0p 0b queued 0p 0b" ∷
    codes "class tbf 1:1" ∷
    codes "class drr 2:1 quantum 1514 asleep" ∷
    codes "sent 2 1000" ∷
    codes "idle" ∷ [])
unfolding report_rules
held_under_a_waiting_tbf = refl

-- the class in front can send, so the one behind it is not asked, and its child holds nothing
classes_behind_are_not_asked :
    reports
    (codes "tc qdisc add dev eth0 root handle 1: drr" ∷
    codes "tc class add dev eth0 parent 1: classid 1:1 drr" ∷
    codes "tc class add dev eth0 parent 1: classid 1:2 drr" ∷
    codes "tc qdisc add dev eth0 parent 1:2 handle 2: drr" ∷
    codes "tc class add dev eth0 parent 2: classid 2:1 drr" ∷
    codes "tc filter add dev eth0 parent 1: prio 1 flower src_port 1 classid 1:1" ∷
    codes "tc filter add dev eth0 parent 1: prio 2 flower classid 1:2" ∷
    codes "tc filter add dev eth0 parent 2: prio 1 flower classid 2:1" ∷
    codes "pkt 100 src_port 1" ∷
    codes "pkt 100" ∷
    codes "poll" ∷
    codes "tc -s qdisc show" ∷ [])
    (codes "sent 1 100" ∷
    codes "qdisc drr 1: root" ∷
    codes " arrived 2p 200b sent 1p 100b refused 0p 0b dropped 0p 0b queued 1p 100b" ∷
    codes "qdisc pfifo 0: parent 1:1 limit 1000p" ∷
    codes " arrived 1p 100b sent 1p 100b refused 0p 0b dropped 0p 0b queued 0p 0b" ∷
    codes "qdisc drr 2: parent 1:2" ∷
    codes " arrived 1p 100b sent 0p 0b refused 0p 0b dropped 0p 0b queued 1p 100b" ∷
    codes "qdisc pfifo 0: parent 2:1 limit 1000p" ∷
    codes " arrived 1p 100b sent 0p 0b refused 0p 0b dropped 0p 0b queued 1p 100b" ∷ [])
unfolding report_rules
classes_behind_are_not_asked = refl

-- a prio asks its bands in order up to the first that shows a packet; the one behind is not asked
empty_bands_are_asked :
    reports
    (codes "tc qdisc add dev eth0 root handle 1: prio" ∷
    codes "tc qdisc add dev eth0 parent 1:3 handle 2: drr" ∷
    codes "tc class add dev eth0 parent 2: classid 2:1 drr" ∷
    codes "tc filter add dev eth0 parent 2: prio 1 flower classid 2:1" ∷
    codes "pkt 100 prio 0" ∷
    codes "pkt 200 prio 1" ∷
    codes "poll" ∷
    codes "tc -s qdisc show" ∷ [])
    (codes "sent 1 100" ∷
    codes "qdisc prio 1: root bands 3 priomap 1 2 2 2 1 2 0 0 1 1 1 1 1 1 1 1" ∷
    codes " arrived 2p 300b sent 1p 100b refused 0p 0b dropped 0p 0b queued 1p 200b" ∷
    codes "qdisc pfifo 0: parent 1:1 limit 1000p" ∷
    codes " arrived 0p 0b sent 0p 0b refused 0p 0b dropped 0p 0b queued 0p 0b" ∷
    codes "qdisc pfifo 0: parent 1:2 limit 1000p" ∷
    codes " arrived 1p 100b sent 1p 100b refused 0p 0b dropped 0p 0b queued 0p 0b" ∷
    codes "qdisc drr 2: parent 1:3" ∷
    codes " arrived 1p 200b sent 0p 0b refused 0p 0b dropped 0p 0b queued 1p 200b" ∷
    codes "qdisc pfifo 0: parent 2:1 limit 1000p" ∷
    codes " arrived 1p 200b sent 0p 0b refused 0p 0b dropped 0p 0b queued 1p 200b" ∷ [])
unfolding report_rules
empty_bands_are_asked = refl

-- a class goes with what is queued beneath it
class_removed_with_its_packets :
    reports
    (codes "tc qdisc add dev eth0 root handle 1: drr" ∷
    codes "tc class add dev eth0 parent 1: classid 1:1 drr" ∷
    codes "tc filter add dev eth0 parent 1: prio 1 flower classid 1:1" ∷
    codes "pkt 100" ∷
    codes "pkt 200" ∷
    codes "tc class del dev eth0 classid 1:1" ∷
    codes "tc filter del dev eth0 parent 1: prio 1" ∷
    codes "tc class del dev eth0 classid 1:1" ∷
    codes "reap" ∷
    codes "poll" ∷
    codes "pkt 300" ∷
    codes "totals" ∷ [])
    (codes "line 6: refused 16 Busy" ∷
    codes "lost 1 100 Purged" ∷
    codes "lost 2 200 Purged" ∷
    codes "idle" ∷
    codes "device arrived 3p 600b sent 0p 0b refused 1p 300b dropped 2p 300b queued 0p 0b" ∷ [])
unfolding report_rules
class_removed_with_its_packets = refl

-- the order of classes is that of adding; a class that comes again stands last, and wakes last
classes_in_order_of_adding :
    reports
    (codes "tc qdisc add dev eth0 root handle 1: drr" ∷
    codes "tc class add dev eth0 parent 1: classid 1:2 drr" ∷
    codes "tc class add dev eth0 parent 1: classid 1:1 drr quantum 300" ∷
    codes "tc class add dev eth0 parent 1: classid 1:3 drr" ∷
    codes "tc class del dev eth0 classid 1:2" ∷
    codes "tc class add dev eth0 parent 1: classid 1:2 drr quantum 7" ∷
    codes "tc filter add dev eth0 parent 1: prio 1 flower src_port 1 classid 1:1" ∷
    codes "tc filter add dev eth0 parent 1: prio 1 flower src_port 2 classid 1:2" ∷
    codes "tc filter add dev eth0 parent 1: prio 1 flower src_port 3 classid 1:3" ∷
    codes "pkt 100 src_port 3" ∷
    codes "pkt 100 src_port 2" ∷
    codes "tc class show" ∷ [])
    (codes "class drr 1:1 quantum 300 asleep" ∷
    codes "class drr 1:3 quantum 1514 active deficit 1514" ∷
    codes "class drr 1:2 quantum 7 active deficit 7" ∷ [])
unfolding report_rules
classes_in_order_of_adding = refl

-- a class that wakes goes behind the one that is active, with a deficit of one quantum
newcomers_wake_last :
    reports
    (codes "tc qdisc add dev eth0 root handle 1: drr" ∷
    codes "tc class add dev eth0 parent 1: classid 1:1 drr quantum 100" ∷
    codes "tc class add dev eth0 parent 1: classid 1:2 drr quantum 100" ∷
    codes "tc filter add dev eth0 parent 1: prio 1 flower src_port 1 classid 1:1" ∷
    codes "tc filter add dev eth0 parent 1: prio 1 flower src_port 2 classid 1:2" ∷
    codes "pkt 100 src_port 1" ∷
    codes "pkt 100 src_port 1" ∷
    codes "pkt 100 src_port 2" ∷
    codes "poll" ∷
    codes "tc class show" ∷
    codes "poll 2" ∷
    codes "pkt 100 src_port 1" ∷
    codes "tc class show" ∷ [])
    (codes "sent 1 100" ∷
    codes "class drr 1:1 quantum 100 active deficit 0" ∷
    codes "class drr 1:2 quantum 100 active deficit 100" ∷
    codes "sent 3 100" ∷
    codes "sent 2 100" ∷
    codes "class drr 1:1 quantum 100 active deficit 100" ∷
    codes "class drr 1:2 quantum 100 asleep" ∷ [])
unfolding report_rules
newcomers_wake_last = refl

-- a class has the mtu for its quantum, an fq_codel 1514 whatever the mtu
default_quanta :
    reports_on (record settings { mtu = 9000 })
    (codes "tc qdisc add dev eth0 root handle 1: drr" ∷
    codes "tc class add dev eth0 parent 1: classid 1:1 drr" ∷
    codes "tc qdisc add dev eth0 parent 1:1 handle 2: fq_codel flows 1" ∷
    codes "tc qdisc show" ∷
    codes "tc class show" ∷ [])
    (codes "qdisc drr 1: root" ∷
    codes "qdisc fq_codel 2: parent 1:1 limit 10240p flows 1 quantum 1514 target 5000000ns interval 100000000ns ecn drop_batch 1" ∷
    codes "class drr 1:1 quantum 9000 asleep" ∷ [])
unfolding report_rules
default_quanta = refl

-- a lower priority is asked first, and of equal ones the one that was added first
filters_by_priority_and_prefix :
    reports
    (codes "tc qdisc add dev eth0 root handle 1: prio" ∷
    codes "tc filter add dev eth0 parent 1: prio 2 flower src_ip 10.0.0.0/8 classid 1:1" ∷
    codes "tc filter add dev eth0 parent 1: prio 1 flower src_ip 10.1.0.0/16 classid 1:2" ∷
    codes "tc filter add dev eth0 parent 1: prio 1 flower src_ip 10.1.2.0/24 classid 1:3" ∷
    codes "tc filter add dev eth0 parent 1: prio 1 flower dst_ip 8000::/1 classid 1:1" ∷
    codes "tc filter add dev eth0 parent 1: prio 2 flower dst_ip 1.2.3.4/31 classid 1:3" ∷
    codes "tc filter add dev eth0 parent 1: prio 2 flower dst_ip 1.2.3.7 classid 1:1" ∷
    codes "tc filter add dev eth0 parent 1: prio 3 protocol ipv6 flower classid 1:3" ∷
    codes "tc filter add dev eth0 parent 1: prio 4 protocol ip flower src_ip 0.0.0.0/0 ip_proto tcp classid 1:3" ∷
    codes "pkt 101 src_ip 10.1.2.3" ∷
    codes "pkt 102 src_ip 10.2.0.1" ∷
    codes "pkt 103 dst_ip ffff::1" ∷
    codes "pkt 104 dst_ip 7fff::1" ∷
    codes "pkt 105 dst_ip 1.2.3.5" ∷
    codes "pkt 106 dst_ip 1.2.3.6" ∷
    codes "pkt 107 dst_ip 1.2.3.7" ∷
    codes "pkt 108 src_ip 11.0.0.1 ip_proto tcp" ∷
    codes "pkt 109 src_ip 11.0.0.1 ip_proto udp" ∷
    codes "pkt 110 ip_proto tcp" ∷
    codes "poll 10" ∷ [])
    (codes "sent 2 102" ∷
    codes "sent 3 103" ∷
    codes "sent 7 107" ∷
    codes "sent 1 101" ∷
    codes "sent 6 106" ∷
    codes "sent 9 109" ∷
    codes "sent 10 110" ∷
    codes "sent 4 104" ∷
    codes "sent 5 105" ∷
    codes "sent 8 108" ∷ [])
unfolding report_rules
filters_by_priority_and_prefix = refl

-- ports are compared whole, and a filter without keys takes every packet
filters_by_port :
    reports
    (codes "tc qdisc add dev eth0 root handle 1: prio" ∷
    codes "tc filter add dev eth0 parent 1: prio 1 flower dst_port 53 classid 1:1" ∷
    codes "tc filter add dev eth0 parent 1: prio 2 flower src_port 0 dst_port 54 classid 1:3" ∷
    codes "tc filter add dev eth0 parent 1: prio 65535 flower classid 1:2" ∷
    codes "pkt 101 dst_port 53" ∷
    codes "pkt 102 dst_port 54" ∷
    codes "pkt 103 src_port 1 dst_port 54" ∷
    codes "poll 3" ∷
    codes "tc filter del dev eth0 parent 1: prio 2" ∷
    codes "tc filter show" ∷ [])
    (codes "sent 1 101" ∷
    codes "sent 3 103" ∷
    codes "sent 2 102" ∷
    codes "filter parent 1: prio 1 protocol all dst_port 53 classid 1:1" ∷
    codes "filter parent 1: prio 65535 protocol all classid 1:2" ∷ [])
unfolding report_rules
filters_by_port = refl

-- those of other priorities stay in their order
all_filters_of_a_priority_go :
    reports
    (codes "tc qdisc add dev eth0 root handle 1: prio" ∷
    codes "tc filter add dev eth0 parent 1: prio 2 flower src_port 1 classid 1:1" ∷
    codes "tc filter add dev eth0 parent 1: prio 3 flower src_port 2 classid 1:1" ∷
    codes "tc filter add dev eth0 parent 1: prio 2 flower src_port 3 classid 1:1" ∷
    codes "tc filter add dev eth0 parent 1: prio 1 flower src_port 4 classid 1:1" ∷
    codes "tc filter add dev eth0 parent 1: prio 3 flower src_port 5 classid 1:1" ∷
    codes "tc filter del dev eth0 parent 1: prio 2" ∷
    codes "tc filter show" ∷ [])
    (codes "filter parent 1: prio 1 protocol all src_port 4 classid 1:1" ∷
    codes "filter parent 1: prio 3 protocol all src_port 2 classid 1:1" ∷
    codes "filter parent 1: prio 3 protocol all src_port 5 classid 1:1" ∷ [])
unfolding report_rules
all_filters_of_a_priority_go = refl

-- the least major number from 8001 on that no qdisc has; one that was removed gives its number back
least_free_handle :
    reports
    (codes "tc qdisc add dev eth0 root handle 8002: prio" ∷
    codes "tc qdisc add dev eth0 parent 8002:1 pfifo limit 1" ∷
    codes "tc qdisc add dev eth0 parent 8002:2 pfifo limit 2" ∷
    codes "tc qdisc del dev eth0 parent 8002:1" ∷
    codes "tc qdisc add dev eth0 parent 8002:3 pfifo limit 3" ∷
    codes "tc qdisc show" ∷
    codes "tc qdisc add dev eth0 parent 8002:1 pfifo limit 4" ∷
    codes "tc qdisc show" ∷ [])
    (codes "qdisc prio 8002: root bands 3 priomap 1 2 2 2 1 2 0 0 1 1 1 1 1 1 1 1" ∷
    codes "qdisc pfifo 0: parent 8002:1 limit 1000p" ∷
    codes "qdisc pfifo 8003: parent 8002:2 limit 2p" ∷
    codes "qdisc pfifo 8001: parent 8002:3 limit 3p" ∷
    codes "qdisc prio 8002: root bands 3 priomap 1 2 2 2 1 2 0 0 1 1 1 1 1 1 1 1" ∷
    codes "qdisc pfifo 8004: parent 8002:1 limit 4p" ∷
    codes "qdisc pfifo 8003: parent 8002:2 limit 2p" ∷
    codes "qdisc pfifo 8001: parent 8002:3 limit 3p" ∷ [])
unfolding report_rules
least_free_handle = refl

-- a prefix of no bits takes every packet of its family, and no other
prefix_of_no_bits :
    reports
    (codes "tc qdisc add dev eth0 root handle 1: prio" ∷
    codes "tc filter add dev eth0 parent 1: prio 1 flower src_ip 0.0.0.0/0 classid 1:1" ∷
    codes "tc filter add dev eth0 parent 1: prio 2 flower src_ip ::/0 classid 1:3" ∷
    codes "pkt 101 src_ip ::1" ∷
    codes "pkt 102" ∷
    codes "pkt 103 dst_ip 1.2.3.4" ∷
    codes "poll 3" ∷ [])
    (codes "sent 3 103" ∷
    codes "sent 2 102" ∷
    codes "sent 1 101" ∷ [])
unfolding report_rules
prefix_of_no_bits = refl

-- a class more stands behind the others, and each keeps what stands in it
class_added_behind_the_others :
    reports
    (codes "tc qdisc add dev eth0 root handle 1: drr" ∷
    codes "tc class add dev eth0 parent 1: classid 1:1 drr" ∷
    codes "tc qdisc add dev eth0 parent 1:1 handle 2: pfifo limit 5" ∷
    codes "tc filter add dev eth0 parent 1: prio 1 flower classid 1:1" ∷
    codes "pkt 100" ∷
    codes "tc class add dev eth0 parent 1: classid 1:2 drr" ∷
    codes "tc -s qdisc show" ∷
    codes "poll" ∷ [])
    (codes "qdisc drr 1: root" ∷
    codes " arrived 1p 100b sent 0p 0b refused 0p 0b dropped 0p 0b queued 1p 100b" ∷
    codes "qdisc pfifo 2: parent 1:1 limit 5p" ∷
    codes " arrived 1p 100b sent 0p 0b refused 0p 0b dropped 0p 0b queued 1p 100b" ∷
    codes "qdisc pfifo 0: parent 1:2 limit 1000p" ∷
    codes " arrived 0p 0b sent 0p 0b refused 0p 0b dropped 0p 0b queued 0p 0b" ∷
    codes "sent 1 100" ∷ [])
unfolding report_rules
class_added_behind_the_others = refl

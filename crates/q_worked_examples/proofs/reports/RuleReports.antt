-- Worked scripts for single rules of the language that the longer scripts do not reach: units, keys, faults, shown settings.
-- Each report follows from the rules in docs/LANGUAGE.md.
use Rattle.std.proofs.Common.{[], ◌∷◌, ◌++◌, refl}
use Rattle.std.specs.Prelude.{codes, replicate}
use Rattle.q_worked_examples.specs.reports.Reports.{reports, reports_with}
use Rattle.q_worked_examples.proofs.SharedRules.{report_rules}

reap_twice :
    reports
    (codes "pkt 2000" ∷
    codes "reap" ∷
    codes "reap" ∷ [])
    (codes "lost 1 2000 TooLong" ∷ [])
unfolding report_rules
reap_twice = refl

totals_with_a_packet_queued :
    reports
    (codes "pkt 100" ∷
    codes "pkt 200" ∷
    codes "poll" ∷
    codes "totals" ∷ [])
    (codes "sent 1 100" ∷
    codes "device arrived 2p 300b sent 1p 100b refused 0p 0b dropped 0p 0b queued 1p 200b" ∷ [])
unfolding report_rules
totals_with_a_packet_queued = refl

exists_before_memory :
    reports_with 0 (2 ∷ [])
    (codes "tc qdisc add dev eth0 root pfifo" ∷
    codes "tc qdisc add dev eth0 root pfifo" ∷ [])
    (codes "line 2: refused 11 Exists" ∷ [])
unfolding report_rules
exists_before_memory = refl

packet_without_memory :
    reports_with 0 (1 ∷ [])
    (codes "pkt 100" ∷
    codes "pkt 100" ∷
    codes "poll 2" ∷ [])
    (codes "line 1: refused 90 Memory" ∷
    codes "sent 2 100" ∷
    codes "idle" ∷ [])
unfolding report_rules
packet_without_memory = refl

command_without_memory :
    reports_with 0 (1 ∷ [])
    (codes "tc qdisc add dev eth0 root pfifo limit 0" ∷
    codes "pkt 100" ∷
    codes "poll" ∷ [])
    (codes "line 1: refused 90 Memory" ∷
    codes "sent 1 100" ∷ [])
unfolding report_rules
command_without_memory = refl

lost_with_ce :
    reports
    (codes "tc qdisc add dev eth0 root pfifo limit 1" ∷
    codes "pkt 100 ecn 3" ∷
    codes "pkt 200 ecn 3" ∷
    codes "poll" ∷
    codes "reap" ∷ [])
    (codes "sent 1 100 ce" ∷
    codes "lost 2 200 OverLimit" ∷ [])
unfolding report_rules
lost_with_ce = refl

priomap_faults :
    reports
    (codes "tc qdisc add dev eth0 root prio bands 2 priomap 0 1 0 1 0 1 0 1 0 1 0 1 0 1 0 2" ∷
    codes "tc qdisc add dev eth0 root prio priomap 0 1 2 3 0 1 0 1 0 1 0 1 0 1 0 2 bands 3" ∷
    codes "tc qdisc add dev eth0 root prio priomap 0 3" ∷
    codes "tc qdisc add dev eth0 root prio priomap 0 2" ∷
    codes "tc qdisc add dev eth0 root prio priomap 3 x" ∷
    codes "tc qdisc add dev eth0 root prio bands 2" ∷
    codes "tc qdisc add dev eth0 root prio priomap 3 3 3 3 3 3 3 3 3 3 3 3 3 3 3 3 bands" ∷
    codes "tc qdisc add dev eth0 root prio priomap 3 3 3 3 3 3 3 3 3 3 3 3 3 3 3 3 bands 4" ∷
    codes "tc qdisc show dev eth0" ∷ [])
    (codes "line 1: fault 4 OutOfRange word 26" ∷
    codes "line 2: fault 4 OutOfRange word 12" ∷
    codes "line 3: fault 4 OutOfRange word 10" ∷
    codes "line 4: fault 2 Missing word 11" ∷
    codes "line 5: fault 3 BadNumber word 10" ∷
    codes "line 6: fault 2 Missing word 10" ∷
    codes "line 7: fault 4 OutOfRange word 9" ∷
    codes "qdisc prio 8001: root bands 4 priomap 3 3 3 3 3 3 3 3 3 3 3 3 3 3 3 3" ∷
    codes "qdisc pfifo 0: parent 8001:1 limit 1000p" ∷
    codes "qdisc pfifo 0: parent 8001:2 limit 1000p" ∷
    codes "qdisc pfifo 0: parent 8001:3 limit 1000p" ∷
    codes "qdisc pfifo 0: parent 8001:4 limit 1000p" ∷ [])
unfolding report_rules
priomap_faults = refl

default_priomap_shown :
    reports
    (codes "tc qdisc add dev eth0 root handle 1: prio" ∷
    codes "tc qdisc show dev eth0" ∷
    codes "tc class show dev eth0" ∷ [])
    (codes "qdisc prio 1: root bands 3 priomap 1 2 2 2 1 2 0 0 1 1 1 1 1 1 1 1" ∷
    codes "qdisc pfifo 0: parent 1:1 limit 1000p" ∷
    codes "qdisc pfifo 0: parent 1:2 limit 1000p" ∷
    codes "qdisc pfifo 0: parent 1:3 limit 1000p" ∷
    codes "class prio 1:1" ∷
    codes "class prio 1:2" ∷
    codes "class prio 1:3" ∷ [])
unfolding report_rules
default_priomap_shown = refl

classes_at_depth_two :
    reports
    (codes "tc qdisc add dev eth0 root handle 1: drr" ∷
    codes "tc class add dev eth0 parent 1: classid 1:a drr quantum 32kbit" ∷
    codes "tc qdisc add dev eth0 parent 1:a handle 2: tbf rate 8bps burst 1k limit 1k" ∷
    codes "tc qdisc add dev eth0 parent 2:1 handle 3: prio bands 2 priomap 0 1 0 1 0 1 0 1 0 1 0 1 0 1 0 1" ∷
    codes "tc filter add dev eth0 parent 3: pref 7 protocol ip flower flowid 3:2" ∷
    codes "tc class list" ∷
    codes "tc filter ls" ∷ [])
    (codes "class drr 1:a quantum 4096 asleep" ∷
    codes "class tbf 2:1" ∷
    codes "class prio 3:1" ∷
    codes "class prio 3:2" ∷
    codes "filter parent 3: prio 7 protocol ip classid 3:2" ∷ [])
unfolding report_rules
classes_at_depth_two = refl

keys_shown :
    reports
    (codes "tc qdisc add dev eth0 root handle 1: prio" ∷
    codes "tc filter add dev eth0 parent 1: prio 1 protocol ip flower dst_port 54 src_port 53 dst_ip 010.0.0.2 src_ip 10.0.0.1/8 ip_proto udp classid 1:1" ∷
    codes "tc filter add dev eth0 parent 1: prio 2 protocol ipv6 flower src_ip 1::A dst_ip ::/0 classid 1:2" ∷
    codes "tc filter add dev eth0 parent 1: prio 3 flower ip_proto 0 src_port 0 classid 1:3" ∷
    codes "tc filter show dev eth0" ∷ [])
    (codes "filter parent 1: prio 1 protocol ip ip_proto 11 src_ip 10.0.0.1/8 dst_ip 10.0.0.2/32 src_port 53 dst_port 54 classid 1:1" ∷
    codes "filter parent 1: prio 2 protocol ipv6 src_ip 1:0:0:0:0:0:0:a/128 dst_ip 0:0:0:0:0:0:0:0/0 classid 1:2" ∷
    codes "filter parent 1: prio 3 protocol all ip_proto 0 src_port 0 classid 1:3" ∷ [])
unfolding report_rules
keys_shown = refl

filter_faults :
    reports
    (codes "tc filter add dev eth0 parent 1: prio 1 flower classid 1:1 flowid 1:2" ∷
    codes "tc filter add dev eth0 parent 1: prio 1 pref 2 flower classid 1:1" ∷
    codes "tc filter add dev eth0 parent 1: prio 1 protocol ip flower src_ip ::1 classid 1:1" ∷
    codes "tc filter add dev eth0 parent 1: prio 1 protocol ipv6 flower dst_ip 1.2.3.4 classid 1:1" ∷
    codes "tc filter add dev eth0 parent 1: prio 1 flower src_ip 1.2.3.256/x classid 1:1" ∷
    codes "tc filter add dev eth0 parent 1: prio 1 flower src_ip 1.2.3.4/33 classid 1:1" ∷
    codes "tc filter add dev eth0 parent 1: prio 1 flower ip_proto TCP classid 1:1" ∷
    codes "tc filter add dev eth0 parent 1: prio 1 flower src_ip 1:2:3:4:5:6:7:8:: classid 1:1" ∷
    codes "tc filter add dev eth0 parent 1: prio 1 flower" ∷ [])
    (codes "line 1: fault 5 Twice word 13" ∷
    codes "line 2: fault 5 Twice word 10" ∷
    codes "line 3: fault 4 OutOfRange word 14" ∷
    codes "line 4: fault 4 OutOfRange word 14" ∷
    codes "line 5: fault 3 BadNumber word 12" ∷
    codes "line 6: fault 4 OutOfRange word 12" ∷
    codes "line 7: fault 3 BadNumber word 12" ∷
    codes "line 8: fault 3 BadNumber word 12" ∷
    codes "line 9: fault 2 Missing word 11" ∷ [])
unfolding report_rules
filter_faults = refl

ecn_and_noecn_shown :
    reports
    (codes "tc qdisc add dev eth0 root fq_codel flows 2 noecn" ∷
    codes "tc qdisc show" ∷
    codes "tc qdisc change dev eth0 root fq_codel ecn" ∷
    codes "tc qdisc show" ∷ [])
    (codes "qdisc fq_codel 8001: root limit 10240p flows 2 quantum 1514 target 5000000ns interval 100000000ns noecn drop_batch 1" ∷
    codes "qdisc fq_codel 8001: root limit 10240p flows 2 quantum 1514 target 5000000ns interval 100000000ns ecn drop_batch 1" ∷ [])
unfolding report_rules
ecn_and_noecn_shown = refl

flow_by_the_seed :
    reports_with 1 []
    (codes "tc qdisc add dev eth0 root fq_codel flows 4" ∷
    replicate 3 (codes "pkt 1000 hash 0") ++
    codes "pkt 100" ∷
    codes "poll 4" ∷ [])
    (codes "sent 1 1000" ∷
    codes "sent 2 1000" ∷
    codes "sent 4 100" ∷
    codes "sent 3 1000" ∷ [])
unfolding report_rules
flow_by_the_seed = refl

rate_units :
    reports
    (codes "tc qdisc add dev eth0 root tbf rate 1 burst 2000 limit 0" ∷
    codes "tc qdisc change dev eth0 root tbf rate 1.5 burst 2000 limit 0" ∷
    codes "tc qdisc show" ∷
    codes "tc qdisc change dev eth0 root tbf rate 1.5bit burst 2000 limit 0" ∷
    codes "tc qdisc show" ∷
    codes "tc qdisc change dev eth0 root tbf rate 1.5kbit burst 2000 limit 0" ∷
    codes "tc qdisc show" ∷
    codes "tc qdisc change dev eth0 root tbf rate 1.5mbit burst 2000 limit 0" ∷
    codes "tc qdisc show" ∷
    codes "tc qdisc change dev eth0 root tbf rate 1.5gbit burst 2000 limit 0" ∷
    codes "tc qdisc show" ∷
    codes "tc qdisc change dev eth0 root tbf rate 1.5bps burst 2000 limit 0" ∷
    codes "tc qdisc show" ∷
    codes "tc qdisc change dev eth0 root tbf rate 1.5kbps burst 2000 limit 0" ∷
    codes "tc qdisc show" ∷
    codes "tc qdisc change dev eth0 root tbf rate 1.5MBPS burst 2000 limit 0" ∷
    codes "tc qdisc show" ∷
    codes "tc qdisc change dev eth0 root tbf rate 1.5gbps burst 2000 limit 0" ∷
    codes "tc qdisc show" ∷
    codes "tc qdisc change dev eth0 root tbf rate 1tbit burst 2000 limit 0" ∷
    codes "tc qdisc show" ∷
    codes "tc qdisc change dev eth0 root tbf rate 0.125tbps burst 2000 limit 0" ∷
    codes "tc qdisc show" ∷ [])
    (codes "qdisc tbf 8001: root rate 1bit burst 2000b limit 0b" ∷
    codes "qdisc bfifo 0: parent 8001:1 limit 0b" ∷
    codes "qdisc tbf 8001: root rate 1bit burst 2000b limit 0b" ∷
    codes "qdisc bfifo 0: parent 8001:1 limit 0b" ∷
    codes "qdisc tbf 8001: root rate 1500bit burst 2000b limit 0b" ∷
    codes "qdisc bfifo 0: parent 8001:1 limit 0b" ∷
    codes "qdisc tbf 8001: root rate 1500000bit burst 2000b limit 0b" ∷
    codes "qdisc bfifo 0: parent 8001:1 limit 0b" ∷
    codes "qdisc tbf 8001: root rate 1500000000bit burst 2000b limit 0b" ∷
    codes "qdisc bfifo 0: parent 8001:1 limit 0b" ∷
    codes "qdisc tbf 8001: root rate 12bit burst 2000b limit 0b" ∷
    codes "qdisc bfifo 0: parent 8001:1 limit 0b" ∷
    codes "qdisc tbf 8001: root rate 12000bit burst 2000b limit 0b" ∷
    codes "qdisc bfifo 0: parent 8001:1 limit 0b" ∷
    codes "qdisc tbf 8001: root rate 12000000bit burst 2000b limit 0b" ∷
    codes "qdisc bfifo 0: parent 8001:1 limit 0b" ∷
    codes "qdisc tbf 8001: root rate 12000000000bit burst 2000b limit 0b" ∷
    codes "qdisc bfifo 0: parent 8001:1 limit 0b" ∷
    codes "qdisc tbf 8001: root rate 1000000000000bit burst 2000b limit 0b" ∷
    codes "qdisc bfifo 0: parent 8001:1 limit 0b" ∷
    codes "qdisc tbf 8001: root rate 1000000000000bit burst 2000b limit 0b" ∷
    codes "qdisc bfifo 0: parent 8001:1 limit 0b" ∷ [])
unfolding report_rules
rate_units = refl

size_units :
    reports
    (codes "tc qdisc add dev eth0 root bfifo" ∷
    codes "tc qdisc show" ∷
    codes "tc qdisc change dev eth0 root bfifo limit 2.5" ∷
    codes "tc qdisc show" ∷
    codes "tc qdisc change dev eth0 root bfifo limit 2.5b" ∷
    codes "tc qdisc show" ∷
    codes "tc qdisc change dev eth0 root bfifo limit 2.5k" ∷
    codes "tc qdisc show" ∷
    codes "tc qdisc change dev eth0 root bfifo limit 2.5kb" ∷
    codes "tc qdisc show" ∷
    codes "tc qdisc change dev eth0 root bfifo limit 2.5m" ∷
    codes "tc qdisc show" ∷
    codes "tc qdisc change dev eth0 root bfifo limit 2.5mb" ∷
    codes "tc qdisc show" ∷
    codes "tc qdisc change dev eth0 root bfifo limit 2.5g" ∷
    codes "tc qdisc show" ∷
    codes "tc qdisc change dev eth0 root bfifo limit 2.5gb" ∷
    codes "tc qdisc show" ∷
    codes "tc qdisc change dev eth0 root bfifo limit 2.5kbit" ∷
    codes "tc qdisc show" ∷
    codes "tc qdisc change dev eth0 root bfifo limit 2.5mbit" ∷
    codes "tc qdisc show" ∷
    codes "tc qdisc change dev eth0 root bfifo limit 2.5gbit" ∷
    codes "tc qdisc show" ∷ [])
    (codes "qdisc bfifo 8001: root limit 1514000b" ∷
    codes "qdisc bfifo 8001: root limit 2b" ∷
    codes "qdisc bfifo 8001: root limit 2b" ∷
    codes "qdisc bfifo 8001: root limit 2560b" ∷
    codes "qdisc bfifo 8001: root limit 2560b" ∷
    codes "qdisc bfifo 8001: root limit 2621440b" ∷
    codes "qdisc bfifo 8001: root limit 2621440b" ∷
    codes "qdisc bfifo 8001: root limit 2684354560b" ∷
    codes "qdisc bfifo 8001: root limit 2684354560b" ∷
    codes "qdisc bfifo 8001: root limit 320b" ∷
    codes "qdisc bfifo 8001: root limit 327680b" ∷
    codes "qdisc bfifo 8001: root limit 335544320b" ∷ [])
unfolding report_rules
size_units = refl

time_units :
    reports
    (codes "tc qdisc add dev eth0 root tbf rate 8gbit burst 1 latency 0" ∷
    codes "tc qdisc show" ∷
    codes "tc qdisc change dev eth0 root tbf rate 8gbit burst 1 latency 0.5" ∷
    codes "tc qdisc show" ∷
    codes "tc qdisc change dev eth0 root tbf rate 8gbit burst 1 latency 0.5us" ∷
    codes "tc qdisc show" ∷
    codes "tc qdisc change dev eth0 root tbf rate 8gbit burst 1 latency 0.5usec" ∷
    codes "tc qdisc show" ∷
    codes "tc qdisc change dev eth0 root tbf rate 8gbit burst 1 latency 0.5usecs" ∷
    codes "tc qdisc show" ∷
    codes "tc qdisc change dev eth0 root tbf rate 8gbit burst 1 latency 0.5ms" ∷
    codes "tc qdisc show" ∷
    codes "tc qdisc change dev eth0 root tbf rate 8gbit burst 1 latency 0.5msec" ∷
    codes "tc qdisc show" ∷
    codes "tc qdisc change dev eth0 root tbf rate 8gbit burst 1 latency 0.5msecs" ∷
    codes "tc qdisc show" ∷
    codes "tc qdisc change dev eth0 root tbf rate 8gbit burst 1 latency 0.5s" ∷
    codes "tc qdisc show" ∷
    codes "tc qdisc change dev eth0 root tbf rate 8gbit burst 1 latency 0.5sec" ∷
    codes "tc qdisc show" ∷
    codes "tc qdisc change dev eth0 root tbf rate 8gbit burst 1 latency 0.5secs" ∷
    codes "tc qdisc show" ∷ [])
    (codes "qdisc tbf 8001: root rate 8000000000bit burst 1b limit 1b" ∷
    codes "qdisc bfifo 0: parent 8001:1 limit 1b" ∷
    codes "qdisc tbf 8001: root rate 8000000000bit burst 1b limit 501b" ∷
    codes "qdisc bfifo 0: parent 8001:1 limit 501b" ∷
    codes "qdisc tbf 8001: root rate 8000000000bit burst 1b limit 501b" ∷
    codes "qdisc bfifo 0: parent 8001:1 limit 501b" ∷
    codes "qdisc tbf 8001: root rate 8000000000bit burst 1b limit 501b" ∷
    codes "qdisc bfifo 0: parent 8001:1 limit 501b" ∷
    codes "qdisc tbf 8001: root rate 8000000000bit burst 1b limit 501b" ∷
    codes "qdisc bfifo 0: parent 8001:1 limit 501b" ∷
    codes "qdisc tbf 8001: root rate 8000000000bit burst 1b limit 500001b" ∷
    codes "qdisc bfifo 0: parent 8001:1 limit 500001b" ∷
    codes "qdisc tbf 8001: root rate 8000000000bit burst 1b limit 500001b" ∷
    codes "qdisc bfifo 0: parent 8001:1 limit 500001b" ∷
    codes "qdisc tbf 8001: root rate 8000000000bit burst 1b limit 500001b" ∷
    codes "qdisc bfifo 0: parent 8001:1 limit 500001b" ∷
    codes "qdisc tbf 8001: root rate 8000000000bit burst 1b limit 500000001b" ∷
    codes "qdisc bfifo 0: parent 8001:1 limit 500000001b" ∷
    codes "qdisc tbf 8001: root rate 8000000000bit burst 1b limit 500000001b" ∷
    codes "qdisc bfifo 0: parent 8001:1 limit 500000001b" ∷
    codes "qdisc tbf 8001: root rate 8000000000bit burst 1b limit 500000001b" ∷
    codes "qdisc bfifo 0: parent 8001:1 limit 500000001b" ∷ [])
unfolding report_rules
time_units = refl

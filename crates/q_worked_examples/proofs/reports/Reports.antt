-- Worked scripts, from their bytes to the bytes of their reports: the ways of every discipline but fq_codel, faults and refusals.
-- The rules are those of docs/LANGUAGE.md and docs/DISCIPLINES.md.
use Rattle.std.proofs.Common.{[], ◌∷◌, ◌++◌, refl}
use Rattle.std.specs.Prelude.{codes, replicate}
use Rattle.q_worked_examples.specs.reports.Reports.{reports}
use Rattle.q_worked_examples.proofs.SharedRules.{report_rules}

empty_script :
    reports
    []
    []
unfolding report_rules
empty_script = refl

two_of_three_packets :
    reports
    (codes "tc qdisc add dev eth0 root handle 1: pfifo limit 2" ∷
    codes "pkt 100" ∷
    codes "pkt 200" ∷
    codes "pkt 300" ∷
    codes "poll 3" ∷
    codes "tc -s qdisc show dev eth0" ∷ [])
    (codes "sent 1 100" ∷
    codes "sent 2 200" ∷
    codes "idle" ∷
    codes "qdisc pfifo 1: root limit 2p" ∷
    codes " arrived 3p 600b sent 2p 300b refused 1p 300b dropped 0p 0b queued 0p 0b" ∷ [])
unfolding report_rules
two_of_three_packets = refl

limit_zero :
    reports
    (codes "tc qdisc add dev eth0 root pfifo limit 0" ∷
    codes "pkt 100" ∷
    codes "poll" ∷
    codes "reap" ∷
    codes "totals" ∷ [])
    (codes "idle" ∷
    codes "lost 1 100 OverLimit" ∷
    codes "device arrived 1p 100b sent 0p 0b refused 1p 100b dropped 0p 0b queued 0p 0b" ∷ [])
unfolding report_rules
limit_zero = refl

refusals :
    reports
    (codes "tc qdisc add dev eth0 root handle 1: prio" ∷
    codes "tc qdisc add dev eth0 root handle 2: pfifo" ∷
    codes "tc qdisc add dev eth0 parent 5:1 pfifo" ∷
    codes "tc qdisc add dev eth0 parent 1:4 pfifo" ∷
    codes "tc qdisc add dev eth0 parent 1:1 handle 1: pfifo" ∷
    codes "tc class add dev eth0 parent 1: classid 1:9 drr" ∷
    codes "tc qdisc change dev eth0 parent 1:2 pfifo limit 5" ∷
    codes "tc filter del dev eth0 parent 1: prio 3" ∷ [])
    (codes "line 2: refused 11 Exists" ∷
    codes "line 3: refused 10 NoParent" ∷
    codes "line 4: refused 15 NoClass" ∷
    codes "line 5: refused 13 HandleTaken" ∷
    codes "line 6: refused 17 CannotChange" ∷
    codes "line 7: refused 12 NoQdisc" ∷
    codes "line 8: refused 21 NoFilter" ∷ [])
unfolding report_rules
refusals = refl

line_faults :
    reports
    (codes "tc qdisc add dev eth0 root pfifo limit x" ∷
    codes "tc qdisc add dev eth0 root tbf rate 1mbit burst 10kb" ∷
    codes "tc qdisc add dev eth0 root prio bands 17" ∷
    codes "tc qdisc add dev eth0 root root pfifo" ∷
    codes "tc qdisc add dev eth0 root netem" ∷ [])
    (codes "line 1: fault 3 BadNumber word 9" ∷
    codes "line 2: fault 2 Missing word 12" ∷
    codes "line 3: fault 4 OutOfRange word 9" ∷
    codes "line 4: fault 5 Twice word 7" ∷
    codes "line 5: fault 1 UnknownWord word 7" ∷ [])
unfolding report_rules
line_faults = refl

drr_grants_and_no_class :
    reports
    (codes "tc qdisc add dev eth0 root handle 1: drr" ∷
    codes "tc class add dev eth0 parent 1: classid 1:1 drr quantum 1000" ∷
    codes "tc class add dev eth0 parent 1: classid 1:2 drr quantum 1000" ∷
    codes "tc filter add dev eth0 parent 1: prio 1 flower src_port 1 classid 1:1" ∷
    codes "tc filter add dev eth0 parent 1: prio 2 flower src_port 2 classid 1:2" ∷
    codes "pkt 1500 src_port 1" ∷
    replicate 3 (codes "pkt 500 src_port 2") ++
    codes "poll 5" ∷
    codes "pkt 40" ∷
    codes "reap" ∷
    codes "tc -s qdisc show dev eth0" ∷ [])
    (codes "sent 2 500" ∷
    codes "sent 3 500" ∷
    codes "sent 1 1500" ∷
    codes "sent 4 500" ∷
    codes "idle" ∷
    codes "lost 5 40 NoClass" ∷
    codes "qdisc drr 1: root" ∷
    codes " arrived 5p 3040b sent 4p 3000b refused 1p 40b dropped 0p 0b queued 0p 0b" ∷
    codes "qdisc pfifo 0: parent 1:1 limit 1000p" ∷
    codes " arrived 1p 1500b sent 1p 1500b refused 0p 0b dropped 0p 0b queued 0p 0b" ∷
    codes "qdisc pfifo 0: parent 1:2 limit 1000p" ∷
    codes " arrived 3p 1500b sent 3p 1500b refused 0p 0b dropped 0p 0b queued 0p 0b" ∷ [])
unfolding report_rules
drr_grants_and_no_class = refl

drr_over_tbf :
    reports
    (codes "tc qdisc add dev eth0 root handle 1: drr" ∷
    codes "tc class add dev eth0 parent 1: classid 1:1 drr" ∷
    codes "tc class add dev eth0 parent 1: classid 1:2 drr" ∷
    codes "tc filter add dev eth0 parent 1: prio 1 flower src_port 1 classid 1:1" ∷
    codes "tc filter add dev eth0 parent 1: prio 2 flower src_port 2 classid 1:2" ∷
    codes "tc qdisc add dev eth0 parent 1:1 handle 10: tbf rate 8000bit burst 1000 limit 5000" ∷
    codes "pkt 1000 src_port 1" ∷
    codes "pkt 1000 src_port 1" ∷
    codes "pkt 500 src_port 2" ∷
    codes "poll 2" ∷
    codes "at 1000000000" ∷
    codes "poll 2" ∷ [])
    (codes "sent 1 1000" ∷
    codes "later" ∷
    codes "sent 3 500" ∷
    codes "sent 2 1000" ∷ [])
unfolding report_rules
drr_over_tbf = refl

drr_shares_two_to_one :
    reports
    (codes "tc qdisc add dev eth0 root handle 1: drr" ∷
    codes "tc class add dev eth0 parent 1: classid 1:1 drr quantum 1000" ∷
    codes "tc class add dev eth0 parent 1: classid 1:2 drr quantum 500" ∷
    codes "tc filter add dev eth0 parent 1: prio 1 flower src_port 1 classid 1:1" ∷
    codes "tc filter add dev eth0 parent 1: prio 2 flower src_port 2 classid 1:2" ∷
    replicate 10 (codes "pkt 500 src_port 1") ++
    replicate 10 (codes "pkt 500 src_port 2") ++
    codes "poll 6" ∷
    codes "tc class show dev eth0" ∷
    codes "tc class change dev eth0 classid 1:1 drr quantum 100" ∷
    codes "tc class show dev eth0" ∷ [])
    (codes "sent 1 500" ∷
    codes "sent 2 500" ∷
    codes "sent 11 500" ∷
    codes "sent 3 500" ∷
    codes "sent 4 500" ∷
    codes "sent 12 500" ∷
    codes "class drr 1:1 quantum 1000 active deficit 1000" ∷
    codes "class drr 1:2 quantum 500 active deficit 0" ∷
    codes "class drr 1:1 quantum 100 active deficit 1000" ∷
    codes "class drr 1:2 quantum 500 active deficit 0" ∷ [])
unfolding report_rules
drr_shares_two_to_one = refl

tbf_to_the_nanosecond :
    reports
    (codes "tc qdisc add dev eth0 root tbf rate 8000bit burst 1500 limit 3000" ∷
    codes "pkt 1000" ∷
    codes "pkt 1000" ∷
    codes "poll 2" ∷
    codes "at 499999999" ∷
    codes "poll" ∷
    codes "at 500000000" ∷
    codes "poll" ∷ [])
    (codes "sent 1 1000" ∷
    codes "later" ∷
    codes "later" ∷
    codes "sent 2 1000" ∷ [])
unfolding report_rules
tbf_to_the_nanosecond = refl

tbf_too_long_and_small_burst :
    reports
    (codes "tc qdisc add dev eth0 root handle 1: tbf rate 8000bit burst 1000 limit 5000" ∷
    codes "pkt 1001" ∷
    codes "pkt 2000" ∷
    codes "reap" ∷
    codes "tc qdisc change dev eth0 root tbf rate 8000bit burst 900 limit 5000" ∷
    codes "tc qdisc change dev eth0 root tbf rate 8000bit burst 2000 limit 5000" ∷
    codes "tc -s qdisc show dev eth0" ∷
    codes "totals" ∷ [])
    (codes "lost 1 1001 TooLong" ∷
    codes "lost 2 2000 TooLong" ∷
    codes "line 5: refused 20 SmallBurst" ∷
    codes "qdisc tbf 1: root rate 8000bit burst 2000b limit 5000b" ∷
    codes " arrived 1p 1001b sent 0p 0b refused 1p 1001b dropped 0p 0b queued 0p 0b" ∷
    codes "qdisc bfifo 0: parent 1:1 limit 5000b" ∷
    codes " arrived 0p 0b sent 0p 0b refused 0p 0b dropped 0p 0b queued 0p 0b" ∷
    codes "device arrived 2p 3001b sent 0p 0b refused 2p 3001b dropped 0p 0b queued 0p 0b" ∷ [])
unfolding report_rules
tbf_too_long_and_small_burst = refl

tbf_units_and_latency :
    reports
    (codes "tc qdisc add dev eth0 root tbf rate 0.5mbit burst 5kb latency 70ms" ∷
    codes "tc qdisc show dev eth0" ∷ [])
    (codes "qdisc tbf 8001: root rate 500000bit burst 5120b limit 9495b" ∷
    codes "qdisc bfifo 0: parent 8001:1 limit 9495b" ∷ [])
unfolding report_rules
tbf_units_and_latency = refl

prio_over_tbf :
    reports
    (codes "tc qdisc add dev eth0 root handle 1: prio" ∷
    codes "tc qdisc add dev eth0 parent 1:1 handle 10: tbf rate 8000bit burst 1000 limit 5000" ∷
    codes "pkt 1000 prio 6" ∷
    codes "pkt 1000 prio 6" ∷
    codes "pkt 500 prio 0" ∷
    codes "poll 3" ∷ [])
    (codes "sent 1 1000" ∷
    codes "sent 3 500" ∷
    codes "later" ∷ [])
unfolding report_rules
prio_over_tbf = refl

frame_into_prio :
    reports
    (codes "tc qdisc add dev eth0 root prio" ∷
    codes "pkt 100" ∷
    codes "frame 60 4510003c00000000401100000a0000010a00000200350036" ∷
    codes "poll 2" ∷ [])
    (codes "sent 2 60" ∷
    codes "sent 1 100" ∷ [])
unfolding report_rules
frame_into_prio = refl

class_and_filter_show :
    reports
    (codes "tc qdisc add dev eth0 root handle 1: drr" ∷
    codes "tc class add dev eth0 parent 1: classid 1:1 drr quantum 1000" ∷
    codes "tc class add dev eth0 parent 1: classid 1:2 drr quantum 1000" ∷
    codes "tc filter add dev eth0 parent 1: prio 1 flower src_port 1 classid 1:1" ∷
    codes "tc filter add dev eth0 parent 1: prio 2 flower src_port 2 classid 1:2" ∷
    codes "pkt 1500 src_port 1" ∷
    replicate 3 (codes "pkt 500 src_port 2") ++
    codes "tc class show dev eth0" ∷
    codes "tc filter show dev eth0" ∷ [])
    (codes "class drr 1:1 quantum 1000 active deficit 1000" ∷
    codes "class drr 1:2 quantum 1000 active deficit 1000" ∷
    codes "filter parent 1: prio 1 protocol all src_port 1 classid 1:1" ∷
    codes "filter parent 1: prio 2 protocol all src_port 2 classid 1:2" ∷ [])
unfolding report_rules
class_and_filter_show = refl

depth_eight :
    reports
    (codes "tc qdisc add dev eth0 root handle 1: tbf rate 1mbit burst 2kb limit 9kb" ∷
    codes "tc qdisc add dev eth0 parent 1:1 handle 2: tbf rate 1mbit burst 2kb limit 9kb" ∷
    codes "tc qdisc add dev eth0 parent 2:1 handle 3: tbf rate 1mbit burst 2kb limit 9kb" ∷
    codes "tc qdisc add dev eth0 parent 3:1 handle 4: tbf rate 1mbit burst 2kb limit 9kb" ∷
    codes "tc qdisc add dev eth0 parent 4:1 handle 5: tbf rate 1mbit burst 2kb limit 9kb" ∷
    codes "tc qdisc add dev eth0 parent 5:1 handle 6: tbf rate 1mbit burst 2kb limit 9kb" ∷
    codes "tc qdisc add dev eth0 parent 6:1 handle 7: tbf rate 1mbit burst 2kb limit 9kb" ∷
    codes "tc qdisc add dev eth0 parent 7:1 handle 8: tbf rate 1mbit burst 2kb limit 9kb" ∷
    codes "tc qdisc add dev eth0 parent 7:1 handle 8: pfifo" ∷ [])
    (codes "line 8: refused 18 TooDeep" ∷ [])
unfolding report_rules
depth_eight = refl

clock_never_goes_back :
    reports
    (codes "tc qdisc add dev eth0 root tbf rate 8gbit burst 1000 limit 5000" ∷
    codes "pkt 1000" ∷
    codes "pkt 1000" ∷
    codes "poll" ∷
    codes "at 999" ∷
    codes "poll" ∷
    codes "at 5" ∷
    codes "poll" ∷
    codes "at 1000" ∷
    codes "poll" ∷ [])
    (codes "sent 1 1000" ∷
    codes "later" ∷
    codes "later" ∷
    codes "sent 2 1000" ∷ [])
unfolding report_rules
clock_never_goes_back = refl

implicit_root_replaced :
    reports
    (codes "pkt 100" ∷
    codes "tc qdisc add dev eth0 root pfifo limit 2" ∷
    codes "poll" ∷
    codes "tc qdisc show dev eth0" ∷
    codes "tc qdisc add dev eth0 root pfifo" ∷ [])
    (codes "idle" ∷
    codes "qdisc pfifo 8001: root limit 2p" ∷
    codes "line 5: refused 11 Exists" ∷ [])
unfolding report_rules
implicit_root_replaced = refl

too_long_then_reap :
    reports
    (codes "pkt 2000" ∷
    codes "poll" ∷
    codes "reap" ∷ [])
    (codes "idle" ∷
    codes "lost 1 2000 TooLong" ∷ [])
unfolding report_rules
too_long_then_reap = refl

hostile_lines :
    reports
    (codes "tc qdisc add dev eth0 root pfifo limit 99999999999999999999" ∷
    codes "at 4611686018427387905" ∷
    codes "frame 60 4" ∷
    codes "pkt 0" ∷
    codes "tc qdisc add dev eth0 root handle ffff: pfifo" ∷
    (112 ∷ 107 ∷ 116 ∷ 32 ∷ 255 ∷ []) ∷
    codes "tc qdisc add dev eth0 root tbf rate 0.0000000001mbit" ∷
    codes "tc qdisc add dev eth0 root tbf rate 0.5bit" ∷
    codes "tc qdisc add dev eth0 root fq_codel flows 65537" ∷ [])
    (codes "line 1: fault 4 OutOfRange word 9" ∷
    codes "line 2: fault 4 OutOfRange word 2" ∷
    codes "line 3: fault 3 BadNumber word 3" ∷
    codes "line 4: fault 4 OutOfRange word 2" ∷
    codes "line 5: fault 4 OutOfRange word 8" ∷
    codes "line 6: fault 6 BadUtf8 word 2" ∷
    codes "line 7: fault 3 BadNumber word 9" ∷
    codes "line 8: fault 4 OutOfRange word 9" ∷
    codes "line 9: fault 4 OutOfRange word 9" ∷ [])
unfolding report_rules
hostile_lines = refl

batch_zero_refused :
    reports
    (codes "tc qdisc add dev eth0 root fq_codel drop_batch 0" ∷ [])
    (codes "line 1: fault 4 OutOfRange word 9" ∷ [])
unfolding report_rules
batch_zero_refused = refl

-- Worked scripts of changes: what each keeps, what it resets, and what comes back where something goes.
-- The rules are those of docs/DISCIPLINES.md.
use Rattle.std.proofs.Common.{[], ◌∷◌, refl}
use Rattle.std.specs.Prelude.{codes}
use Rattle.q_worked_examples.specs.reports.Reports.{reports}
use Rattle.q_worked_examples.proofs.SharedRules.{report_rules}

-- bands that stay keep their packets; the new priomap holds at once; a band more begins empty
bands_kept_and_added :
    reports
    (codes "tc qdisc add dev eth0 root handle 1: prio bands 2 priomap 0 1 0 0 0 0 0 0 0 0 0 0 0 0 0 0" ∷
    codes "tc qdisc add dev eth0 parent 1:2 handle 2: pfifo limit 5" ∷
    codes "pkt 101 prio 0" ∷
    codes "pkt 102 prio 1" ∷
    codes "tc qdisc change dev eth0 root prio bands 3 priomap 1 2 0 0 0 0 0 0 0 0 0 0 0 0 0 0" ∷
    codes "pkt 103 prio 0" ∷
    codes "pkt 104 prio 1" ∷
    codes "pkt 105 prio 2" ∷
    codes "tc -s qdisc show" ∷
    codes "poll 5" ∷ [])
    (codes "qdisc prio 1: root bands 3 priomap 1 2 0 0 0 0 0 0 0 0 0 0 0 0 0 0" ∷
    codes " arrived 5p 515b sent 0p 0b refused 0p 0b dropped 0p 0b queued 5p 515b" ∷
    codes "qdisc pfifo 0: parent 1:1 limit 1000p" ∷
    codes " arrived 2p 206b sent 0p 0b refused 0p 0b dropped 0p 0b queued 2p 206b" ∷
    codes "qdisc pfifo 2: parent 1:2 limit 5p" ∷
    codes " arrived 2p 205b sent 0p 0b refused 0p 0b dropped 0p 0b queued 2p 205b" ∷
    codes "qdisc pfifo 0: parent 1:3 limit 1000p" ∷
    codes " arrived 1p 104b sent 0p 0b refused 0p 0b dropped 0p 0b queued 1p 104b" ∷
    codes "sent 1 101" ∷
    codes "sent 5 105" ∷
    codes "sent 2 102" ∷
    codes "sent 3 103" ∷
    codes "sent 4 104" ∷ [])
unfolding report_rules
bands_kept_and_added = refl

-- the highest bands go with their packets, in rising order; a filter that names one stands against it
bands_removed :
    reports
    (codes "tc qdisc add dev eth0 root handle 1: prio bands 4 priomap 0 1 2 3 0 0 0 0 0 0 0 0 0 0 0 0" ∷
    codes "tc filter add dev eth0 parent 1: prio 1 flower src_port 1 classid 1:4" ∷
    codes "pkt 101 prio 3" ∷
    codes "pkt 102 prio 2" ∷
    codes "pkt 103 prio 0" ∷
    codes "tc qdisc change dev eth0 root prio bands 2 priomap 0 1 0 0 0 0 0 0 0 0 0 0 0 0 0 0" ∷
    codes "tc filter del dev eth0 parent 1: prio 1" ∷
    codes "tc qdisc change dev eth0 root prio bands 2 priomap 0 1 0 0 0 0 0 0 0 0 0 0 0 0 0 0" ∷
    codes "reap" ∷
    codes "poll 2" ∷
    codes "totals" ∷ [])
    (codes "line 6: refused 16 Busy" ∷
    codes "lost 2 102 Purged" ∷
    codes "lost 1 101 Purged" ∷
    codes "sent 3 103" ∷
    codes "idle" ∷
    codes "device arrived 3p 306b sent 1p 103b refused 0p 0b dropped 2p 203b queued 0p 0b" ∷ [])
unfolding report_rules
bands_removed = refl

-- packets over a new limit stay; a change without options keeps the limit
limits_changed :
    reports
    (codes "tc qdisc add dev eth0 root handle 1: prio" ∷
    codes "tc qdisc add dev eth0 parent 1:2 handle 2: pfifo limit 3" ∷
    codes "tc qdisc add dev eth0 parent 1:1 handle 3: bfifo limit 300" ∷
    codes "pkt 100" ∷
    codes "pkt 100" ∷
    codes "pkt 100 prio 6" ∷
    codes "pkt 100 prio 6" ∷
    codes "tc qdisc change dev eth0 handle 2: pfifo limit 1" ∷
    codes "tc qdisc change dev eth0 handle 3: bfifo limit 200" ∷
    codes "tc qdisc change dev eth0 handle 3: bfifo" ∷
    codes "pkt 100" ∷
    codes "pkt 1 prio 6" ∷
    codes "tc -s qdisc show" ∷
    codes "poll 5" ∷
    codes "reap" ∷ [])
    (codes "qdisc prio 1: root bands 3 priomap 1 2 2 2 1 2 0 0 1 1 1 1 1 1 1 1" ∷
    codes " arrived 6p 501b sent 0p 0b refused 2p 101b dropped 0p 0b queued 4p 400b" ∷
    codes "qdisc bfifo 3: parent 1:1 limit 200b" ∷
    codes " arrived 3p 201b sent 0p 0b refused 1p 1b dropped 0p 0b queued 2p 200b" ∷
    codes "qdisc pfifo 2: parent 1:2 limit 1p" ∷
    codes " arrived 3p 300b sent 0p 0b refused 1p 100b dropped 0p 0b queued 2p 200b" ∷
    codes "qdisc pfifo 0: parent 1:3 limit 1000p" ∷
    codes " arrived 0p 0b sent 0p 0b refused 0p 0b dropped 0p 0b queued 0p 0b" ∷
    codes "sent 3 100" ∷
    codes "sent 4 100" ∷
    codes "sent 1 100" ∷
    codes "sent 2 100" ∷
    codes "idle" ∷
    codes "lost 5 100 OverLimit" ∷
    codes "lost 6 1 OverLimit" ∷ [])
unfolding report_rules
limits_changed = refl

-- the bucket fills at its old rate up to the change, an implicit leaf follows the limit, and packets stay
tbf_changed :
    reports
    (codes "tc qdisc add dev eth0 root handle 1: tbf rate 8000bit burst 1000 limit 5000" ∷
    codes "pkt 1000" ∷
    codes "pkt 1000" ∷
    codes "poll" ∷
    codes "at 500000000" ∷
    codes "tc qdisc change dev eth0 root tbf rate 16000bit burst 1000 limit 4000" ∷
    codes "tc qdisc show" ∷
    codes "at 749999999" ∷
    codes "poll" ∷
    codes "at 750000000" ∷
    codes "poll" ∷ [])
    (codes "sent 1 1000" ∷
    codes "qdisc tbf 1: root rate 16000bit burst 1000b limit 4000b" ∷
    codes "qdisc bfifo 0: parent 1:1 limit 4000b" ∷
    codes "later" ∷
    codes "sent 2 1000" ∷ [])
unfolding report_rules
tbf_changed = refl

-- the level is cut to a smaller burst, and a greater one fills with time alone
greater_burst_adds_nothing :
    reports
    (codes "tc qdisc add dev eth0 root handle 1: tbf rate 8000bit burst 2000 limit 5000" ∷
    codes "pkt 1000" ∷
    codes "pkt 1000" ∷
    codes "poll" ∷
    codes "tc qdisc change dev eth0 root tbf rate 8000bit burst 3000 limit 5000" ∷
    codes "poll" ∷
    codes "pkt 1000" ∷
    codes "poll" ∷
    codes "at 999999999" ∷
    codes "poll" ∷
    codes "at 1000000000" ∷
    codes "poll" ∷ [])
    (codes "sent 1 1000" ∷
    codes "sent 2 1000" ∷
    codes "later" ∷
    codes "later" ∷
    codes "sent 3 1000" ∷ [])
unfolding report_rules
greater_burst_adds_nothing = refl

-- it has the limit that the tbf has by then, and nothing in it
leaf_put_back_under_a_tbf :
    reports
    (codes "tc qdisc add dev eth0 root handle 1: tbf rate 8000bit burst 1000 limit 5000" ∷
    codes "tc qdisc add dev eth0 parent 1:1 handle 2: pfifo limit 2" ∷
    codes "pkt 500" ∷
    codes "tc qdisc change dev eth0 root tbf rate 8000bit burst 1000 limit 600" ∷
    codes "tc qdisc show" ∷
    codes "tc qdisc del dev eth0 handle 2:" ∷
    codes "tc qdisc show" ∷
    codes "reap" ∷
    codes "pkt 601" ∷
    codes "pkt 600" ∷
    codes "tc -s qdisc show" ∷ [])
    (codes "qdisc tbf 1: root rate 8000bit burst 1000b limit 600b" ∷
    codes "qdisc pfifo 2: parent 1:1 limit 2p" ∷
    codes "qdisc tbf 1: root rate 8000bit burst 1000b limit 600b" ∷
    codes "qdisc bfifo 0: parent 1:1 limit 600b" ∷
    codes "lost 1 500 Purged" ∷
    codes "qdisc tbf 1: root rate 8000bit burst 1000b limit 600b" ∷
    codes " arrived 3p 1701b sent 0p 0b refused 1p 601b dropped 1p 500b queued 1p 600b" ∷
    codes "qdisc bfifo 0: parent 1:1 limit 600b" ∷
    codes " arrived 2p 1201b sent 0p 0b refused 1p 601b dropped 0p 0b queued 1p 600b" ∷ [])
unfolding report_rules
leaf_put_back_under_a_tbf = refl

-- what the rate brings in the latency, rounded down, and the burst
latency_rounded_down :
    reports
    (codes "tc qdisc add dev eth0 root tbf rate 15bit burst 1 latency 1s" ∷
    codes "tc qdisc show" ∷ [])
    (codes "qdisc tbf 8001: root rate 15bit burst 1b limit 2b" ∷
    codes "qdisc bfifo 0: parent 8001:1 limit 2b" ∷ [])
unfolding report_rules
latency_rounded_down = refl

-- a smaller quantum cuts the deficit of its class alone; without a quantum nothing changes
quantum_changed :
    reports
    (codes "tc qdisc add dev eth0 root handle 1: drr" ∷
    codes "tc class add dev eth0 parent 1: classid 1:1 drr quantum 5000" ∷
    codes "tc class add dev eth0 parent 1: classid 1:2 drr quantum 4000" ∷
    codes "tc filter add dev eth0 parent 1: prio 1 flower src_port 1 classid 1:1" ∷
    codes "tc filter add dev eth0 parent 1: prio 1 flower src_port 2 classid 1:2" ∷
    codes "pkt 100 src_port 1" ∷
    codes "pkt 100 src_port 2" ∷
    codes "tc class change dev eth0 classid 1:2 drr quantum 10" ∷
    codes "tc class change dev eth0 parent 1: classid 1:1 drr" ∷
    codes "tc class show" ∷ [])
    (codes "class drr 1:1 quantum 5000 active deficit 5000" ∷
    codes "class drr 1:2 quantum 10 active deficit 1523" ∷ [])
unfolding report_rules
quantum_changed = refl

-- flows and lists stay, each option that is given is new, and a limit below what is queued loses a batch a put
fq_codel_changed :
    reports
    (codes "tc qdisc add dev eth0 root handle 1: fq_codel flows 2 quantum 1000" ∷
    codes "pkt 100 hash 0" ∷
    codes "pkt 200 hash 1" ∷
    codes "pkt 300 hash 1" ∷
    codes "tc qdisc change dev eth0 root fq_codel limit 1 quantum 500 target 1ms interval 2ms noecn drop_batch 2" ∷
    codes "tc qdisc show" ∷
    codes "pkt 50 hash 0" ∷
    codes "poll 4" ∷
    codes "reap" ∷ [])
    (codes "qdisc fq_codel 1: root limit 1p flows 2 quantum 500 target 1000000ns interval 2000000ns noecn drop_batch 2" ∷
    codes "sent 1 100" ∷
    codes "sent 4 50" ∷
    codes "idle" ∷
    codes "idle" ∷
    codes "lost 2 200 FatFlow" ∷
    codes "lost 3 300 FatFlow" ∷ [])
unfolding report_rules
fq_codel_changed = refl

-- the number of flows cannot change, and the same number is no change
fq_codel_flows_stay :
    reports
    (codes "tc qdisc add dev eth0 root handle 1: fq_codel flows 2" ∷
    codes "tc qdisc change dev eth0 root fq_codel flows 3" ∷
    codes "tc qdisc change dev eth0 root fq_codel flows 2 limit 7" ∷
    codes "tc qdisc show" ∷ [])
    (codes "line 2: refused 17 CannotChange" ∷
    codes "qdisc fq_codel 1: root limit 7p flows 2 quantum 1514 target 5000000ns interval 100000000ns ecn drop_batch 1" ∷ [])
unfolding report_rules
fq_codel_flows_stay = refl

-- the fat flow has the most bytes, not the most packets
fattest_in_bytes :
    reports
    (codes "tc qdisc add dev eth0 root fq_codel flows 2 limit 2" ∷
    codes "pkt 1000 hash 0" ∷
    codes "pkt 100 hash 1" ∷
    codes "pkt 100 hash 1" ∷
    codes "poll 3" ∷
    codes "reap" ∷ [])
    (codes "sent 2 100" ∷
    codes "sent 3 100" ∷
    codes "idle" ∷
    codes "lost 1 1000 FatFlow" ∷ [])
unfolding report_rules
fattest_in_bytes = refl

-- a newcomer that is the fattest flow alone is lost itself
lone_newcomer_lost :
    reports
    (codes "tc qdisc add dev eth0 root fq_codel flows 2 limit 1" ∷
    codes "pkt 100 hash 0" ∷
    codes "pkt 200 hash 1" ∷
    codes "reap" ∷
    codes "poll 2" ∷
    codes "totals" ∷ [])
    (codes "lost 2 200 FatFlow" ∷
    codes "sent 1 100" ∷
    codes "idle" ∷
    codes "device arrived 2p 300b sent 1p 100b refused 0p 0b dropped 1p 200b queued 0p 0b" ∷ [])
unfolding report_rules
lone_newcomer_lost = refl

-- Worked scripts of CoDel within an fq_codel of two flows, times divided by 10^5, from their bytes to the bytes of their reports.
-- The scripts are those of examples/, with fewer flows and shorter times.
use Rattle.std.proofs.Common.{[], ◌∷◌, ◌++◌, refl}
use Rattle.std.specs.Prelude.{codes, replicate}
use Rattle.q_worked_examples.specs.reports.Reports.{reports}
use Rattle.q_worked_examples.proofs.SharedRules.{report_rules}

codel_drops :
    reports
    (codes "tc qdisc add dev eth0 root fq_codel flows 2 target 0.05us interval 1us" ∷
    replicate 10 (codes "pkt 1000 hash 0") ++
    codes "at 100" ∷
    codes "poll" ∷
    codes "at 1100" ∷
    codes "poll" ∷
    codes "at 2100" ∷
    codes "poll" ∷
    codes "at 2806" ∷
    codes "poll" ∷
    codes "at 2807" ∷
    codes "poll" ∷
    codes "at 3384" ∷
    codes "poll 3" ∷
    codes "reap" ∷ [])
    (codes "sent 1 1000" ∷
    codes "sent 3 1000" ∷
    codes "sent 5 1000" ∷
    codes "sent 6 1000" ∷
    codes "sent 8 1000" ∷
    codes "sent 9 1000" ∷
    codes "sent 10 1000" ∷
    codes "idle" ∷
    codes "lost 2 1000 CoDel" ∷
    codes "lost 4 1000 CoDel" ∷
    codes "lost 7 1000 CoDel" ∷ [])
unfolding report_rules
codel_drops = refl

codel_marks :
    reports
    (codes "tc qdisc add dev eth0 root fq_codel flows 2 target 0.05us interval 1us" ∷
    replicate 10 (codes "pkt 1000 hash 0 ecn 2") ++
    codes "at 100" ∷
    codes "poll" ∷
    codes "at 1100" ∷
    codes "poll" ∷
    codes "at 2100" ∷
    codes "poll" ∷
    codes "at 2806" ∷
    codes "poll" ∷
    codes "at 2807" ∷
    codes "poll" ∷
    codes "at 3384" ∷
    codes "poll 3" ∷
    codes "reap" ∷
    codes "tc -s qdisc show dev eth0" ∷ [])
    (codes "sent 1 1000" ∷
    codes "sent 2 1000 ce" ∷
    codes "sent 3 1000 ce" ∷
    codes "sent 4 1000" ∷
    codes "sent 5 1000 ce" ∷
    codes "sent 6 1000 ce" ∷
    codes "sent 7 1000" ∷
    codes "sent 8 1000" ∷
    codes "qdisc fq_codel 8001: root limit 10240p flows 2 quantum 1514 target 50ns interval 1000ns ecn drop_batch 1" ∷
    codes " arrived 10p 10000b sent 8p 8000b refused 0p 0b dropped 0p 0b queued 2p 2000b marked 4p 4000b" ∷ [])
unfolding report_rules
codel_marks = refl

codel_marks_and_drops :
    reports
    (codes "tc qdisc add dev eth0 root fq_codel flows 2 target 0.05us interval 1us" ∷
    codes "pkt 1000 hash 0 ecn 2" ∷
    codes "pkt 1000 hash 0 ecn 2" ∷
    codes "pkt 1000 hash 0 ecn 0" ∷
    replicate 7 (codes "pkt 1000 hash 0 ecn 2") ++
    codes "at 100" ∷
    codes "poll" ∷
    codes "at 1100" ∷
    codes "poll" ∷
    codes "at 3000" ∷
    codes "poll" ∷
    codes "reap" ∷ [])
    (codes "sent 1 1000" ∷
    codes "sent 2 1000 ce" ∷
    codes "sent 4 1000 ce" ∷
    codes "lost 3 1000 CoDel" ∷ [])
unfolding report_rules
codel_marks_and_drops = refl

codel_marks_off :
    reports
    (codes "tc qdisc add dev eth0 root fq_codel flows 2 target 0.05us interval 1us noecn" ∷
    replicate 10 (codes "pkt 1000 hash 0 ecn 2") ++
    codes "at 100" ∷
    codes "poll" ∷
    codes "at 1100" ∷
    codes "poll" ∷
    codes "at 2100" ∷
    codes "poll" ∷
    codes "at 2806" ∷
    codes "poll" ∷
    codes "at 2807" ∷
    codes "poll" ∷
    codes "at 3384" ∷
    codes "poll 3" ∷
    codes "reap" ∷ [])
    (codes "sent 1 1000" ∷
    codes "sent 3 1000" ∷
    codes "sent 5 1000" ∷
    codes "sent 6 1000" ∷
    codes "sent 8 1000" ∷
    codes "sent 9 1000" ∷
    codes "sent 10 1000" ∷
    codes "idle" ∷
    codes "lost 2 1000 CoDel" ∷
    codes "lost 4 1000 CoDel" ∷
    codes "lost 7 1000 CoDel" ∷ [])
unfolding report_rules
codel_marks_off = refl

codel_with_clock_back :
    reports
    (codes "tc qdisc add dev eth0 root fq_codel flows 2 target 0.05us interval 1us" ∷
    replicate 10 (codes "pkt 1000 hash 0") ++
    codes "at 100" ∷
    codes "poll" ∷
    codes "at 1100" ∷
    codes "poll" ∷
    codes "at 2100" ∷
    codes "at 0" ∷
    codes "poll" ∷
    codes "at 2806" ∷
    codes "at 0" ∷
    codes "poll" ∷
    codes "at 2807" ∷
    codes "at 0" ∷
    codes "poll" ∷
    codes "at 3384" ∷
    codes "at 0" ∷
    codes "poll 3" ∷
    codes "reap" ∷ [])
    (codes "sent 1 1000" ∷
    codes "sent 3 1000" ∷
    codes "sent 4 1000" ∷
    codes "sent 5 1000" ∷
    codes "sent 6 1000" ∷
    codes "sent 7 1000" ∷
    codes "sent 8 1000" ∷
    codes "sent 9 1000" ∷
    codes "lost 2 1000 CoDel" ∷ [])
unfolding report_rules
codel_with_clock_back = refl

drop_seen_at_both_nodes :
    reports
    (codes "tc qdisc add dev eth0 root handle 1: drr" ∷
    codes "tc class add dev eth0 parent 1: classid 1:1 drr" ∷
    codes "tc qdisc add dev eth0 parent 1:1 handle 10: fq_codel flows 2 target 0.05us interval 1us" ∷
    codes "tc filter add dev eth0 parent 1: prio 1 flower classid 1:1" ∷
    replicate 10 (codes "pkt 1000 hash 0") ++
    codes "at 100" ∷
    codes "poll" ∷
    codes "at 1100" ∷
    codes "poll" ∷
    codes "tc -s qdisc show dev eth0" ∷ [])
    (codes "sent 1 1000" ∷
    codes "sent 3 1000" ∷
    codes "qdisc drr 1: root" ∷
    codes " arrived 10p 10000b sent 2p 2000b refused 0p 0b dropped 1p 1000b queued 7p 7000b" ∷
    codes "qdisc fq_codel 10: parent 1:1 limit 10240p flows 2 quantum 1514 target 50ns interval 1000ns ecn drop_batch 1" ∷
    codes " arrived 10p 10000b sent 2p 2000b refused 0p 0b dropped 1p 1000b queued 7p 7000b marked 0p 0b" ∷ [])
unfolding report_rules
drop_seen_at_both_nodes = refl

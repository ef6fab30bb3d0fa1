-- Worked scripts of fq_codel with few flows, from their bytes to the bytes of their reports.
-- The scripts are those of examples/, with fewer flows.
use Rattle.std.proofs.Common.{[], ◌∷◌, ◌++◌, refl}
use Rattle.std.specs.Prelude.{codes, replicate}
use Rattle.q_worked_examples.specs.reports.Reports.{reports}
use Rattle.q_worked_examples.proofs.SharedRules.{report_rules}

new_flow_passes_to_old :
    reports
    (codes "tc qdisc add dev eth0 root fq_codel flows 4" ∷
    replicate 3 (codes "pkt 1000 hash 0") ++
    codes "pkt 100 hash 1" ∷
    codes "poll 4" ∷ [])
    (codes "sent 1 1000" ∷
    codes "sent 2 1000" ∷
    codes "sent 4 100" ∷
    codes "sent 3 1000" ∷ [])
unfolding report_rules
new_flow_passes_to_old = refl

fat_flow_limit_one :
    reports
    (codes "tc qdisc add dev eth0 root fq_codel flows 4 limit 1" ∷
    codes "pkt 100 hash 0" ∷
    codes "pkt 200 hash 0" ∷
    codes "poll 2" ∷
    codes "reap" ∷ [])
    (codes "sent 2 200" ∷
    codes "idle" ∷
    codes "lost 1 100 FatFlow" ∷ [])
unfolding report_rules
fat_flow_limit_one = refl

fat_flow_tie :
    reports
    (codes "tc qdisc add dev eth0 root fq_codel flows 8 limit 2" ∷
    codes "pkt 300 hash 7" ∷
    codes "pkt 100 hash 3" ∷
    codes "pkt 200 hash 3" ∷
    codes "poll 3" ∷
    codes "reap" ∷ [])
    (codes "sent 1 300" ∷
    codes "sent 3 200" ∷
    codes "idle" ∷
    codes "lost 2 100 FatFlow" ∷ [])
unfolding report_rules
fat_flow_tie = refl

batch_of_two :
    reports
    (codes "tc qdisc add dev eth0 root fq_codel flows 4 limit 3 drop_batch 2" ∷
    replicate 3 (codes "pkt 500 hash 0") ++
    codes "pkt 100 hash 1" ∷
    codes "poll 3" ∷
    codes "reap" ∷ [])
    (codes "sent 3 500" ∷
    codes "sent 4 100" ∷
    codes "idle" ∷
    codes "lost 1 500 FatFlow" ∷
    codes "lost 2 500 FatFlow" ∷ [])
unfolding report_rules
batch_of_two = refl

batch_within_its_flow :
    reports
    (codes "tc qdisc add dev eth0 root fq_codel flows 4 limit 2 drop_batch 3" ∷
    codes "pkt 50 hash 0" ∷
    codes "pkt 100 hash 1" ∷
    codes "pkt 100 hash 1" ∷
    codes "poll 2" ∷
    codes "reap" ∷ [])
    (codes "sent 1 50" ∷
    codes "idle" ∷
    codes "lost 2 100 FatFlow" ∷
    codes "lost 3 100 FatFlow" ∷ [])
unfolding report_rules
batch_within_its_flow = refl

purge_beneath_drr :
    reports
    (codes "tc qdisc add dev eth0 root handle 1: drr" ∷
    codes "tc class add dev eth0 parent 1: classid 1:1 drr" ∷
    codes "tc qdisc add dev eth0 parent 1:1 handle 10: fq_codel flows 4" ∷
    codes "tc filter add dev eth0 parent 1: prio 1 flower classid 1:1" ∷
    codes "pkt 100" ∷
    codes "pkt 200" ∷
    codes "pkt 300" ∷
    codes "tc qdisc del dev eth0 parent 1:1" ∷
    codes "poll" ∷
    codes "reap" ∷
    codes "tc class show dev eth0" ∷
    codes "tc -s qdisc show dev eth0" ∷ [])
    (codes "idle" ∷
    codes "lost 1 100 Purged" ∷
    codes "lost 2 200 Purged" ∷
    codes "lost 3 300 Purged" ∷
    codes "class drr 1:1 quantum 1514 asleep" ∷
    codes "qdisc drr 1: root" ∷
    codes " arrived 3p 600b sent 0p 0b refused 0p 0b dropped 3p 600b queued 0p 0b" ∷
    codes "qdisc pfifo 0: parent 1:1 limit 1000p" ∷
    codes " arrived 0p 0b sent 0p 0b refused 0p 0b dropped 0p 0b queued 0p 0b" ∷ [])
unfolding report_rules
purge_beneath_drr = refl

batch_leaves_one :
    reports
    (codes "tc qdisc add dev eth0 root fq_codel flows 4 limit 1 drop_batch 10" ∷
    codes "pkt 100 hash 0" ∷
    codes "pkt 200 hash 0" ∷
    codes "poll 2" ∷
    codes "reap" ∷ [])
    (codes "sent 2 200" ∷
    codes "idle" ∷
    codes "lost 1 100 FatFlow" ∷ [])
unfolding report_rules
batch_leaves_one = refl

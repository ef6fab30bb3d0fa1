-- The limits on nodes and filters, from the bytes of a script to the bytes of its report.
-- The limits are those of docs/DISCIPLINES.md.
use Rattle.std.proofs.Common.{[], ◌∷◌, ◌++◌, refl}
use Rattle.std.specs.Prelude.{codes, replicate}
use Rattle.q_worked_examples.specs.reports.Reports.{reports}
use Rattle.q_worked_examples.proofs.SharedRules.{report_rules}

nodes_257_refused :
    reports
    (codes "tc qdisc add dev eth0 root handle 1: prio bands 16 priomap 0 0 0 0 0 0 0 0 0 0 0 0 0 0 0 0" ∷
    codes "tc qdisc add dev eth0 parent 1:1 prio bands 16 priomap 0 0 0 0 0 0 0 0 0 0 0 0 0 0 0 0" ∷
    codes "tc qdisc add dev eth0 parent 1:2 prio bands 16 priomap 0 0 0 0 0 0 0 0 0 0 0 0 0 0 0 0" ∷
    codes "tc qdisc add dev eth0 parent 1:3 prio bands 16 priomap 0 0 0 0 0 0 0 0 0 0 0 0 0 0 0 0" ∷
    codes "tc qdisc add dev eth0 parent 1:4 prio bands 16 priomap 0 0 0 0 0 0 0 0 0 0 0 0 0 0 0 0" ∷
    codes "tc qdisc add dev eth0 parent 1:5 prio bands 16 priomap 0 0 0 0 0 0 0 0 0 0 0 0 0 0 0 0" ∷
    codes "tc qdisc add dev eth0 parent 1:6 prio bands 16 priomap 0 0 0 0 0 0 0 0 0 0 0 0 0 0 0 0" ∷
    codes "tc qdisc add dev eth0 parent 1:7 prio bands 16 priomap 0 0 0 0 0 0 0 0 0 0 0 0 0 0 0 0" ∷
    codes "tc qdisc add dev eth0 parent 1:8 prio bands 16 priomap 0 0 0 0 0 0 0 0 0 0 0 0 0 0 0 0" ∷
    codes "tc qdisc add dev eth0 parent 1:9 prio bands 16 priomap 0 0 0 0 0 0 0 0 0 0 0 0 0 0 0 0" ∷
    codes "tc qdisc add dev eth0 parent 1:a prio bands 16 priomap 0 0 0 0 0 0 0 0 0 0 0 0 0 0 0 0" ∷
    codes "tc qdisc add dev eth0 parent 1:b prio bands 16 priomap 0 0 0 0 0 0 0 0 0 0 0 0 0 0 0 0" ∷
    codes "tc qdisc add dev eth0 parent 1:c prio bands 16 priomap 0 0 0 0 0 0 0 0 0 0 0 0 0 0 0 0" ∷
    codes "tc qdisc add dev eth0 parent 1:d prio bands 16 priomap 0 0 0 0 0 0 0 0 0 0 0 0 0 0 0 0" ∷
    codes "tc qdisc add dev eth0 parent 1:e prio bands 16 priomap 0 0 0 0 0 0 0 0 0 0 0 0 0 0 0 0" ∷
    codes "tc qdisc add dev eth0 parent 1:f prio bands 16 priomap 0 0 0 0 0 0 0 0 0 0 0 0 0 0 0 0" ∷ [])
    (codes "line 16: refused 19 TooMany" ∷ [])
unfolding report_rules
nodes_257_refused = refl

filter_257_refused :
    reports
    (codes "tc qdisc add dev eth0 root handle 1: prio" ∷
    replicate 257 (codes "tc filter add dev eth0 parent 1: prio 1 flower classid 1:1") ++ [])
    (codes "line 258: refused 19 TooMany" ∷ [])
unfolding report_rules
filter_257_refused = refl

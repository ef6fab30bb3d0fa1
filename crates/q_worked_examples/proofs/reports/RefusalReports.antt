-- Worked scripts of refusals where two hold: the first in its order is answered, and nothing is changed.
-- The orders are those of docs/LANGUAGE.md.
use Rattle.std.proofs.Common.{[], ◌∷◌, refl}
use Rattle.std.specs.Prelude.{codes}
use Rattle.q_worked_examples.specs.reports.Reports.{reports}
use Rattle.q_worked_examples.proofs.SharedRules.{report_rules}

-- over a prio with a tbf and a pfifo
refusals_in_order :
    reports
    (codes "tc qdisc add dev eth0 root handle 1: prio" ∷
    codes "tc qdisc add dev eth0 parent 1:1 handle 2: tbf rate 8000bit burst 2000 limit 9" ∷
    codes "tc qdisc add dev eth0 parent 1:2 handle 3: pfifo" ∷
    codes "tc qdisc add dev eth0 parent 9:1 handle 1: pfifo" ∷
    codes "tc qdisc add dev eth0 parent 3:1 handle 1: pfifo" ∷
    codes "tc qdisc add dev eth0 parent 1:9 handle 1: pfifo" ∷
    codes "tc qdisc add dev eth0 parent 2:2 handle 1: pfifo" ∷
    codes "tc qdisc add dev eth0 parent 1:1 handle 1: pfifo" ∷
    codes "tc qdisc add dev eth0 parent 1:3 handle 1: pfifo" ∷
    codes "tc qdisc change dev eth0 parent 1:3 tbf rate 1 burst 1 limit 1" ∷
    codes "tc qdisc change dev eth0 parent 1:1 handle 3: pfifo" ∷
    codes "tc qdisc change dev eth0 parent 1:1 pfifo" ∷
    codes "tc qdisc change dev eth0 parent 1:1 tbf rate 1 burst 1 limit 1" ∷
    codes "tc qdisc del dev eth0 parent 1:3" ∷
    codes "tc qdisc del dev eth0 parent 1:1 handle 3:" ∷
    codes "tc class add dev eth0 parent 8: classid 9:1 drr" ∷
    codes "tc class add dev eth0 parent 9: classid 9:1 drr" ∷
    codes "tc class add dev eth0 parent 3: classid 3:1 drr" ∷
    codes "tc class add dev eth0 parent 1: classid 1:1 drr" ∷
    codes "tc class change dev eth0 parent 8: classid 9:1 drr" ∷
    codes "tc class del dev eth0 classid 9:1" ∷
    codes "tc class del dev eth0 classid 2:7" ∷
    codes "tc filter add dev eth0 parent 9: prio 1 flower classid 9:1" ∷
    codes "tc filter add dev eth0 parent 2: prio 1 flower classid 9:1" ∷
    codes "tc filter add dev eth0 parent 1: prio 1 flower classid 2:1" ∷
    codes "tc filter add dev eth0 parent 1: prio 1 flower classid 1:4" ∷
    codes "tc filter del dev eth0 parent 9: prio 1" ∷
    codes "tc filter del dev eth0 parent 2: prio 1" ∷
    codes "tc filter del dev eth0 parent 1: prio 1" ∷
    codes "tc qdisc show" ∷ [])
    (codes "line 4: refused 10 NoParent" ∷
    codes "line 5: refused 14 NotClassful" ∷
    codes "line 6: refused 15 NoClass" ∷
    codes "line 7: refused 15 NoClass" ∷
    codes "line 8: refused 11 Exists" ∷
    codes "line 9: refused 13 HandleTaken" ∷
    codes "line 10: refused 12 NoQdisc" ∷
    codes "line 11: refused 12 NoQdisc" ∷
    codes "line 12: refused 17 CannotChange" ∷
    codes "line 13: refused 20 SmallBurst" ∷
    codes "line 14: refused 12 NoQdisc" ∷
    codes "line 15: refused 12 NoQdisc" ∷
    codes "line 16: refused 10 NoParent" ∷
    codes "line 17: refused 12 NoQdisc" ∷
    codes "line 18: refused 14 NotClassful" ∷
    codes "line 19: refused 17 CannotChange" ∷
    codes "line 20: refused 10 NoParent" ∷
    codes "line 21: refused 12 NoQdisc" ∷
    codes "line 22: refused 17 CannotChange" ∷
    codes "line 23: refused 12 NoQdisc" ∷
    codes "line 24: refused 14 NotClassful" ∷
    codes "line 25: refused 15 NoClass" ∷
    codes "line 26: refused 15 NoClass" ∷
    codes "line 27: refused 12 NoQdisc" ∷
    codes "line 28: refused 14 NotClassful" ∷
    codes "line 29: refused 21 NoFilter" ∷
    codes "qdisc prio 1: root bands 3 priomap 1 2 2 2 1 2 0 0 1 1 1 1 1 1 1 1" ∷
    codes "qdisc tbf 2: parent 1:1 rate 8000bit burst 2000b limit 9b" ∷
    codes "qdisc bfifo 0: parent 2:1 limit 9b" ∷
    codes "qdisc pfifo 3: parent 1:2 limit 1000p" ∷
    codes "qdisc pfifo 0: parent 1:3 limit 1000p" ∷ [])
unfolding report_rules
refusals_in_order = refl

-- over a drr
classes_refused :
    reports
    (codes "tc qdisc add dev eth0 root handle 1: drr" ∷
    codes "tc class add dev eth0 parent 1: classid 1:1 drr quantum 8" ∷
    codes "tc class add dev eth0 parent 1: classid 1:1 drr quantum 9" ∷
    codes "tc class change dev eth0 classid 1:2 drr quantum 9" ∷
    codes "tc class del dev eth0 classid 1:2" ∷
    codes "tc filter add dev eth0 parent 1: prio 1 flower classid 1:1" ∷
    codes "tc class del dev eth0 classid 1:1" ∷
    codes "tc qdisc change dev eth0 root drr" ∷
    codes "tc class show" ∷
    codes "tc qdisc del dev eth0 root" ∷
    codes "tc class show" ∷
    codes "tc qdisc show" ∷ [])
    (codes "line 3: refused 11 Exists" ∷
    codes "line 4: refused 15 NoClass" ∷
    codes "line 5: refused 15 NoClass" ∷
    codes "line 7: refused 16 Busy" ∷
    codes "class drr 1:1 quantum 8 asleep" ∷
    codes "qdisc pfifo 0: root limit 1000p" ∷ [])
unfolding report_rules
classes_refused = refl

-- a burst at or above the present one or the mtu is not too small
burst_below_the_mtu :
    reports
    (codes "tc qdisc add dev eth0 root handle 1: tbf rate 8000bit burst 1000 limit 9" ∷
    codes "tc qdisc change dev eth0 root tbf rate 8000bit burst 999 limit 9" ∷
    codes "tc qdisc change dev eth0 root tbf rate 8000bit burst 9000 limit 9" ∷
    codes "tc qdisc change dev eth0 root tbf rate 8000bit burst 1513 limit 9" ∷
    codes "tc qdisc change dev eth0 root tbf rate 8000bit burst 1514 limit 9" ∷ [])
    (codes "line 2: refused 20 SmallBurst" ∷
    codes "line 4: refused 20 SmallBurst" ∷ [])
unfolding report_rules
burst_below_the_mtu = refl

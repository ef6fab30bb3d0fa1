-- How a script is cut into lines, and scripts over one pfifo: roots that change, and lines at which memory is refused.
-- The commands are those of tc(8) and tc-pfifo(8); the reports are this project's own.
use Rattle.std.proofs.Common.{◌≡◌, [], ◌∷◌, ◌++◌, refl}
use Rattle.std.specs.Prelude.{codes}
use Rattle.std.specs.Fmt.{digits}
use Rattle.std.specs.Str.{is_utf8, chars}
use Rattle.q_script.specs.Script.{newline, lines_of}
use Rattle.q_worked_examples.specs.reports.Reports.{reports, reports_with}
use Rattle.q_worked_examples.proofs.SharedRules.{report_rules}

ended_line : lines_of (codes "poll" ++ newline) ≡ codes "poll" ∷ []
unfolding is_utf8 chars lib.Utf8.encode digits
ended_line = refl

last_line : lines_of (codes "poll" ++ newline ++ newline ++ codes "at 1") ≡ codes "poll" ∷ [] ∷ codes "at 1" ∷ []
unfolding is_utf8 chars lib.Utf8.encode digits
last_line = refl

-- the third packet comes to a full queue, and waits to be reaped
third_is_refused :
    reports
    (codes "tc qdisc add dev eth0 root handle 1: pfifo limit 2" ∷
    codes "pkt 100" ∷
    codes "pkt 200" ∷
    codes "pkt 300" ∷
    codes "reap" ∷ [])
    (codes "lost 3 300 OverLimit" ∷ [])
unfolding report_rules
third_is_refused = refl

-- a new root purges the packet of the implicit one; a second root is refused
new_roots :
    reports
    (codes "pkt 100" ∷
    codes "tc qdisc add dev eth0 root pfifo limit 2" ∷
    codes "poll" ∷
    codes "tc qdisc show dev eth0" ∷
    codes "tc qdisc add dev eth0 root pfifo" ∷
    codes "reap" ∷ [])
    (codes "idle" ∷
    codes "qdisc pfifo 8001: root limit 2p" ∷
    codes "line 5: refused 11 Exists" ∷
    codes "lost 1 100 Purged" ∷ [])
unfolding report_rules
new_roots = refl

-- the first packet is longer than the mtu
second_is_sent :
    reports
    (codes "pkt 2000" ∷
    codes "pkt 60" ∷
    codes "poll" ∷ [])
    (codes "sent 2 60" ∷ [])
unfolding report_rules
second_is_sent = refl

-- memory is refused at the packet that would be queued, and at one that would not be
starved :
    reports_with 0 (2 ∷ [])
    (codes "pkt 2000" ∷
    codes "pkt 60" ∷
    codes "poll" ∷ [])
    (codes "line 2: refused 90 Memory" ∷
    codes "idle" ∷ [])
unfolding report_rules
starved = refl

starved_at_a_loss :
    reports_with 0 (1 ∷ [])
    (codes "pkt 2000" ∷
    codes "pkt 60" ∷
    codes "poll" ∷
    codes "reap" ∷ [])
    (codes "line 1: refused 90 Memory" ∷
    codes "sent 2 60" ∷ [])
unfolding report_rules
starved_at_a_loss = refl

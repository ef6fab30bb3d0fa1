-- Lines of the language, and their faults: the ends of every range, words that stand twice, words that are missing.
-- The rules are those of docs/LANGUAGE.md; ranges are those of docs/DISCIPLINES.md.
use Rattle.std.proofs.Common.{◌≡◌, ℕ, List, [], ◌∷◌, map, Option, Some, None, refl}
use Rattle.std.specs.Prelude.{codes, Ok, Err}
use Rattle.q_words.specs.declared.line_fault.LineFault.{LineFault}
use Rattle.q_words.specs.declared.line_fault.LineFault.TheVariants as fault
use Rattle.q_line.specs.Grammar.{line_of}
use Rattle.q_worked_examples.proofs.SharedRules.{line_rules}

-- the fault of a line, where it has one
abbrev fault_in : List ℕ → Option LineFault
fault_in bytes = elim (line_of bytes) [ Ok line ↦ None | Err fault ↦ Some fault ]

-- moments, polls, frames and lines without values
moments_and_polls :
    map (fault_in)
    (codes "at 4611686018427387904" ∷
    codes "at 4611686018427387905" ∷
    codes "at -1" ∷
    codes "at" ∷
    codes "at 1 2" ∷
    codes "poll" ∷
    codes "poll 100000" ∷
    codes "poll 100001" ∷
    codes "poll 0" ∷
    codes "poll x" ∷
    codes "frame 60 45" ∷
    codes "frame 60" ∷
    codes "frame 65536 45" ∷
    codes "frame 60 4" ∷
    codes "reap" ∷
    codes "reap 1" ∷
    codes "totals" ∷
    codes "Totals" ∷ []) ≡
    (None ∷
    Some (fault.OutOfRange 2) ∷
    Some (fault.BadNumber 2) ∷
    Some (fault.Missing 2) ∷
    Some (fault.UnknownWord 3) ∷
    None ∷
    None ∷
    Some (fault.OutOfRange 2) ∷
    Some (fault.OutOfRange 2) ∷
    Some (fault.BadNumber 2) ∷
    None ∷
    Some (fault.Missing 3) ∷
    Some (fault.OutOfRange 2) ∷
    Some (fault.BadNumber 3) ∷
    None ∷
    Some (fault.UnknownWord 2) ∷
    None ∷
    Some (fault.UnknownWord 1) ∷ [])
unfolding line_rules
moments_and_polls = refl

-- packets and their fields
packets :
    map (fault_in)
    (codes "pkt 1" ∷
    codes "pkt 65535" ∷
    codes "pkt 65536" ∷
    codes "pkt 0" ∷
    codes "pkt" ∷
    codes "pkt 1 prio 15" ∷
    codes "pkt 1 prio 16" ∷
    codes "pkt 1 ecn 3" ∷
    codes "pkt 1 ecn 4" ∷
    codes "pkt 1 hash 4294967295" ∷
    codes "pkt 1 hash 4294967296" ∷
    codes "pkt 1 src_port 65535" ∷
    codes "pkt 1 src_port 65536" ∷
    codes "pkt 1 dst_port 65535" ∷
    codes "pkt 1 dst_port 65536" ∷
    codes "pkt 1 ip_proto icmpv6" ∷
    codes "pkt 1 ip_proto 100" ∷
    codes "pkt 1 hash" ∷
    codes "pkt 1 hash 1 hash x" ∷
    codes "pkt 1 src_ip ::1 dst_ip 10.0.0.1" ∷
    codes "pkt 1 dst_ip 10.0.0.1 src_ip ::1" ∷
    codes "pkt 1 src_ip ::1 dst_ip ::2" ∷
    codes "pkt 1 proto 6" ∷ []) ≡
    (None ∷
    None ∷
    Some (fault.OutOfRange 2) ∷
    Some (fault.OutOfRange 2) ∷
    Some (fault.Missing 2) ∷
    None ∷
    Some (fault.OutOfRange 4) ∷
    None ∷
    Some (fault.OutOfRange 4) ∷
    None ∷
    Some (fault.OutOfRange 4) ∷
    None ∷
    Some (fault.OutOfRange 4) ∷
    None ∷
    Some (fault.OutOfRange 4) ∷
    None ∷
    Some (fault.OutOfRange 4) ∷
    Some (fault.Missing 4) ∷
    Some (fault.Twice 5) ∷
    Some (fault.OutOfRange 6) ∷
    Some (fault.OutOfRange 6) ∷
    None ∷
    Some (fault.UnknownWord 3) ∷ [])
unfolding line_rules
packets = refl

-- options of pfifo, bfifo and prio
fifo_options :
    map (fault_in)
    (codes "tc qdisc add dev e root pfifo" ∷
    codes "tc qdisc add dev e root pfifo limit 4294967295" ∷
    codes "tc qdisc add dev e root pfifo limit 4294967296" ∷
    codes "tc qdisc add dev e root pfifo limit 1k" ∷
    codes "tc qdisc add dev e root pfifo limit 1 limit 2" ∷
    codes "tc qdisc add dev e root bfifo limit 4294967295" ∷
    codes "tc qdisc add dev e root bfifo limit 4g" ∷
    codes "tc qdisc add dev e root bfifo limit 1k" ∷
    codes "tc qdisc add dev e root prio bands 1" ∷
    codes "tc qdisc add dev e root prio bands 16" ∷
    codes "tc qdisc add dev e root prio bands 17" ∷
    codes "tc qdisc add dev e root prio bands 2" ∷
    codes "tc qdisc add dev e root drr quantum 1" ∷
    codes "tc qdisc add dev e root netem" ∷
    codes "tc qdisc add dev e root pfifo dev e" ∷ []) ≡
    (None ∷
    None ∷
    Some (fault.OutOfRange 9) ∷
    Some (fault.BadNumber 9) ∷
    Some (fault.Twice 10) ∷
    None ∷
    Some (fault.OutOfRange 9) ∷
    None ∷
    Some (fault.OutOfRange 9) ∷
    None ∷
    Some (fault.OutOfRange 9) ∷
    Some (fault.Missing 10) ∷
    Some (fault.UnknownWord 8) ∷
    Some (fault.UnknownWord 7) ∷
    Some (fault.UnknownWord 8) ∷ [])
unfolding line_rules
fifo_options = refl

-- options of tbf
tbf_options :
    map (fault_in)
    (codes "tc qdisc add dev e root tbf rate 1 burst 1 limit 0" ∷
    codes "tc qdisc add dev e root tbf limit 0 buffer 1 rate 1tbit" ∷
    codes "tc qdisc add dev e root tbf rate 0 burst 1 limit 0" ∷
    codes "tc qdisc add dev e root tbf rate 1tbps" ∷
    codes "tc qdisc add dev e root tbf rate 1 burst 0" ∷
    codes "tc qdisc add dev e root tbf rate 1 burst 0.9" ∷
    codes "tc qdisc add dev e root tbf rate 1 maxburst 1 buffer 1" ∷
    codes "tc qdisc add dev e root tbf rate 1 burst 1 limit 0 latency 1" ∷
    codes "tc qdisc add dev e root tbf rate 1 burst 1 latency 1000s" ∷
    codes "tc qdisc add dev e root tbf rate 1 burst 1 latency 1000.1s" ∷
    codes "tc qdisc add dev e root tbf rate 1 burst 1" ∷
    codes "tc qdisc add dev e root tbf limit 4g" ∷ []) ≡
    (None ∷
    None ∷
    Some (fault.OutOfRange 9) ∷
    Some (fault.OutOfRange 9) ∷
    Some (fault.OutOfRange 11) ∷
    Some (fault.OutOfRange 11) ∷
    Some (fault.Twice 12) ∷
    Some (fault.Twice 14) ∷
    None ∷
    Some (fault.OutOfRange 13) ∷
    Some (fault.Missing 12) ∷
    Some (fault.OutOfRange 9) ∷ [])
unfolding line_rules
tbf_options = refl

-- options of fq_codel
fq_codel_options :
    map (fault_in)
    (codes "tc qdisc add dev e root fq_codel limit 1" ∷
    codes "tc qdisc add dev e root fq_codel limit 0" ∷
    codes "tc qdisc add dev e root fq_codel limit 4294967295" ∷
    codes "tc qdisc add dev e root fq_codel flows 65536" ∷
    codes "tc qdisc add dev e root fq_codel flows 65537" ∷
    codes "tc qdisc add dev e root fq_codel flows 0" ∷
    codes "tc qdisc add dev e root fq_codel quantum 4294967295" ∷
    codes "tc qdisc add dev e root fq_codel quantum 0" ∷
    codes "tc qdisc add dev e root fq_codel target 0" ∷
    codes "tc qdisc add dev e root fq_codel target 1000s" ∷
    codes "tc qdisc add dev e root fq_codel target 1001s" ∷
    codes "tc qdisc add dev e root fq_codel interval 1us" ∷
    codes "tc qdisc add dev e root fq_codel interval 0.999us" ∷
    codes "tc qdisc add dev e root fq_codel interval 1001s" ∷
    codes "tc qdisc add dev e root fq_codel drop_batch 65536" ∷
    codes "tc qdisc add dev e root fq_codel drop_batch 65537" ∷
    codes "tc qdisc add dev e root fq_codel ecn noecn" ∷ []) ≡
    (None ∷
    Some (fault.OutOfRange 9) ∷
    None ∷
    None ∷
    Some (fault.OutOfRange 9) ∷
    Some (fault.OutOfRange 9) ∷
    None ∷
    Some (fault.OutOfRange 9) ∷
    None ∷
    None ∷
    Some (fault.OutOfRange 9) ∷
    None ∷
    Some (fault.OutOfRange 9) ∷
    Some (fault.OutOfRange 9) ∷
    None ∷
    Some (fault.OutOfRange 9) ∷
    Some (fault.Twice 9) ∷ [])
unfolding line_rules
fq_codel_options = refl

-- heads of tc lines
heads :
    map (fault_in)
    (codes "tc" ∷
    codes "tc -s" ∷
    codes "tc -s -s" ∷
    codes "tc qdisc" ∷
    codes "tc qdisc dev e" ∷
    codes "tc qdisc add dev abcdefghijklmno root pfifo" ∷
    codes "tc qdisc add dev abcdefghijklmnop root pfifo" ∷
    codes "tc qdisc add root handle 1: dev root pfifo" ∷
    codes "tc qdisc add dev e root parent 1:1 pfifo" ∷
    codes "tc qdisc add dev e handle 1: handle 2: root pfifo" ∷
    codes "tc qdisc change dev e handle 1: pfifo" ∷
    codes "tc qdisc del dev e" ∷
    codes "tc qdisc delete dev e root prio" ∷
    codes "tc qdisc del dev e root foo" ∷
    codes "tc qdisc list dev e" ∷
    codes "tc class ls" ∷
    codes "tc filter show dev e dev e" ∷
    codes "tc filter change dev e" ∷ []) ≡
    (Some (fault.Missing 2) ∷
    Some (fault.Missing 3) ∷
    Some (fault.UnknownWord 3) ∷
    Some (fault.Missing 3) ∷
    Some (fault.UnknownWord 3) ∷
    None ∷
    Some (fault.OutOfRange 5) ∷
    None ∷
    Some (fault.Twice 7) ∷
    Some (fault.Twice 8) ∷
    None ∷
    Some (fault.Missing 6) ∷
    None ∷
    Some (fault.UnknownWord 7) ∷
    None ∷
    None ∷
    Some (fault.Twice 6) ∷
    Some (fault.UnknownWord 3) ∷ [])
unfolding line_rules
heads = refl

-- class lines
class_lines :
    map (fault_in)
    (codes "tc class add dev e parent 1: classid 1:1 drr" ∷
    codes "tc class add dev e parent 1: classid 1:1 drr quantum 4294967295" ∷
    codes "tc class add dev e parent 1: classid 1:1 drr quantum 0" ∷
    codes "tc class add dev e parent 1: classid 1:1 drr quantum 1 quantum 1" ∷
    codes "tc class add dev e parent 1: flowid 1:1 drr" ∷
    codes "tc class add dev e parent 1: drr" ∷
    codes "tc class add dev e parent 1: classid 1:1" ∷
    codes "tc class change dev e classid 1:1 drr" ∷
    codes "tc class del dev e classid 1:1" ∷
    codes "tc class del dev e parent 1:" ∷ []) ≡
    (None ∷
    None ∷
    Some (fault.OutOfRange 12) ∷
    Some (fault.Twice 13) ∷
    Some (fault.UnknownWord 8) ∷
    Some (fault.Missing 9) ∷
    Some (fault.Missing 10) ∷
    None ∷
    None ∷
    Some (fault.Missing 8) ∷ [])
unfolding line_rules
class_lines = refl

-- filter lines
filter_lines :
    map (fault_in)
    (codes "tc filter add dev e parent 1: prio 65535 flower flowid 1:1" ∷
    codes "tc filter add dev e parent 1: prio 65536 flower classid 1:1" ∷
    codes "tc filter add dev e parent 1: prio 0 flower classid 1:1" ∷
    codes "tc filter add dev e parent 1: pref 1 prio 2" ∷
    codes "tc filter add dev e parent 1: prio 1 flower classid 1:1 flowid 1:1" ∷
    codes "tc filter add dev e parent 1: prio 1 flower" ∷
    codes "tc filter add dev e parent 1: prio 1 flower src_port 65536" ∷
    codes "tc filter add dev e parent 1: prio 1 flower dst_port 65535 src_port 0 classid 1:1" ∷
    codes "tc filter add dev e parent 1: prio 1 protocol ip flower dst_ip ::1" ∷
    codes "tc filter add dev e parent 1: prio 1 protocol all flower dst_ip ::1 src_ip 10.0.0.1" ∷
    codes "tc filter add dev e parent 1: prio 1 protocol foo" ∷
    codes "tc filter add dev e parent 1: flower classid 1:1" ∷
    codes "tc filter del dev e parent 1: prio 1" ∷
    codes "tc filter del dev e parent 1: pref 1 protocol ipv6 flower" ∷
    codes "tc filter del dev e parent 1:" ∷ []) ≡
    (None ∷
    Some (fault.OutOfRange 9) ∷
    Some (fault.OutOfRange 9) ∷
    Some (fault.Twice 10) ∷
    Some (fault.Twice 13) ∷
    Some (fault.Missing 11) ∷
    Some (fault.OutOfRange 12) ∷
    None ∷
    Some (fault.OutOfRange 14) ∷
    Some (fault.OutOfRange 16) ∷
    Some (fault.UnknownWord 11) ∷
    Some (fault.Missing 11) ∷
    None ∷
    None ∷
    Some (fault.Missing 8) ∷ [])
unfolding line_rules
filter_lines = refl

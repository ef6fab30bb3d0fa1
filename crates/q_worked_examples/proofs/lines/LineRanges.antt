-- Lines with each number at the ends of its range, one below and one above, and what they say.
-- The rules are those of docs/LANGUAGE.md; ranges are those of docs/DISCIPLINES.md.
use Rattle.std.proofs.Common.{List, [], ◌∷◌, Some, None, refl}
use Rattle.std.specs.Prelude.{codes, true, false, Ok, Err}
use Rattle.q_packet.specs.declared.ecn.Ecn.TheVariants.{NotEct, Ect1, Ect0, Ce}
use Rattle.q_packet.specs.Key.{zero_key}
use Rattle.q_packet.specs.Head.{zero_head}
use Rattle.q_model.specs.declared.command.Command.TheVariants as command
use Rattle.q_model.specs.declared.kind.Kind.TheVariants as kind
use Rattle.q_model.specs.declared.place.Place.TheVariants as place
use Rattle.q_model.specs.declared.tbf_limit.TbfLimit.TheVariants as tbf_limit
use Rattle.q_words.specs.declared.line_fault.LineFault.TheVariants as fault
use Rattle.q_line.specs.Drafts.{default_priomap}
use Rattle.q_line.specs.declared.line.Line.TheVariants as line
use Rattle.q_worked_examples.proofs.lines.LineTable.{Row, AreRead, at_root, class_id, filter, no_fq_codel_options, no_keys, one_byte, one_filter, prio}
use Rattle.q_worked_examples.proofs.SharedRules.{line_rules}

-- limits of a pfifo in packets, of a bfifo in bytes
abbrev fifos : List Row
fifos =
    (codes "tc qdisc add dev e root pfifo limit -1", Err (fault.BadNumber 9))
    ∷ (codes "tc qdisc add dev e root pfifo limit 0", at_root (kind.Pfifo (Some 0)))
    ∷ (codes "tc qdisc add dev e root pfifo limit 4294967295", at_root (kind.Pfifo (Some 4294967295)))
    ∷ (codes "tc qdisc add dev e root pfifo limit 4294967296", Err (fault.OutOfRange 9))
    ∷ (codes "tc qdisc add dev e root bfifo limit -1", Err (fault.BadNumber 9))
    ∷ (codes "tc qdisc add dev e root bfifo limit 0", at_root (kind.Bfifo (Some 0)))
    ∷ (codes "tc qdisc add dev e root bfifo limit 4294967295", at_root (kind.Bfifo (Some 4294967295)))
    ∷ (codes "tc qdisc add dev e root bfifo limit 4294967296", Err (fault.OutOfRange 9))
    ∷ []

fifos_are_read : AreRead fifos
unfolding line_rules
fifos_are_read = refl

-- bands; two of them need a priomap
abbrev prios : List Row
prios =
    (codes "tc qdisc add dev e root prio bands 1", Err (fault.OutOfRange 9))
    ∷ (codes "tc qdisc add dev e root prio bands 2 priomap 0 0 0 0 0 0 0 0 0 0 0 0 0 0 0 0", at_root (prio 2 (0 ∷ 0 ∷ 0 ∷ 0 ∷ 0 ∷ 0 ∷ 0 ∷ 0 ∷ 0 ∷ 0 ∷ 0 ∷ 0 ∷ 0 ∷ 0 ∷ 0 ∷ 0 ∷ [])))
    ∷ (codes "tc qdisc add dev e root prio bands 16", at_root (prio 16 default_priomap))
    ∷ (codes "tc qdisc add dev e root prio bands 17", Err (fault.OutOfRange 9))
    ∷ []

prios_are_read : AreRead prios
unfolding line_rules
prios_are_read = refl

-- rate, burst, limit and latency
abbrev tbfs : List Row
tbfs =
    (codes "tc qdisc add dev e root tbf burst 1 limit 0 rate 0", Err (fault.OutOfRange 13))
    ∷ (codes "tc qdisc add dev e root tbf burst 1 limit 0 rate 1", at_root (kind.Tbf 1 1 (tbf_limit.Bytes 0)))
    ∷ (codes "tc qdisc add dev e root tbf burst 1 limit 0 rate 1000000000000", at_root (kind.Tbf 1000000000000 1 (tbf_limit.Bytes 0)))
    ∷ (codes "tc qdisc add dev e root tbf burst 1 limit 0 rate 1000000000001", Err (fault.OutOfRange 13))
    ∷ (codes "tc qdisc add dev e root tbf rate 1 limit 0 burst 0", Err (fault.OutOfRange 13))
    ∷ (codes "tc qdisc add dev e root tbf rate 1 limit 0 burst 1", at_root (kind.Tbf 1 1 (tbf_limit.Bytes 0)))
    ∷ (codes "tc qdisc add dev e root tbf rate 1 limit 0 burst 4294967295", at_root (kind.Tbf 1 4294967295 (tbf_limit.Bytes 0)))
    ∷ (codes "tc qdisc add dev e root tbf rate 1 limit 0 burst 4294967296", Err (fault.OutOfRange 13))
    ∷ (codes "tc qdisc add dev e root tbf rate 1 burst 1 limit -1", Err (fault.BadNumber 13))
    ∷ (codes "tc qdisc add dev e root tbf rate 1 burst 1 limit 0", at_root (kind.Tbf 1 1 (tbf_limit.Bytes 0)))
    ∷ (codes "tc qdisc add dev e root tbf rate 1 burst 1 limit 4294967295", at_root (kind.Tbf 1 1 (tbf_limit.Bytes 4294967295)))
    ∷ (codes "tc qdisc add dev e root tbf rate 1 burst 1 limit 4294967296", Err (fault.OutOfRange 13))
    ∷ (codes "tc qdisc add dev e root tbf rate 1 burst 1 latency -0.001", Err (fault.BadNumber 13))
    ∷ (codes "tc qdisc add dev e root tbf rate 1 burst 1 latency 0", at_root (kind.Tbf 1 1 (tbf_limit.Latency 0)))
    ∷ (codes "tc qdisc add dev e root tbf rate 1 burst 1 latency 1000s", at_root (kind.Tbf 1 1 (tbf_limit.Latency 1000000000000)))
    ∷ (codes "tc qdisc add dev e root tbf rate 1 burst 1 latency 1000000000.001us", Err (fault.OutOfRange 13))
    ∷ []

tbfs_are_read : AreRead tbfs
unfolding line_rules
tbfs_are_read = refl

-- every option of an fq_codel
abbrev fq_codels : List Row
fq_codels =
    (codes "tc qdisc add dev e root fq_codel limit 0", Err (fault.OutOfRange 9))
    ∷ (codes "tc qdisc add dev e root fq_codel limit 1", at_root (kind.FqCodel (record no_fq_codel_options { limit = Some 1 })))
    ∷ (codes "tc qdisc add dev e root fq_codel limit 4294967295", at_root (kind.FqCodel (record no_fq_codel_options { limit = Some 4294967295 })))
    ∷ (codes "tc qdisc add dev e root fq_codel limit 4294967296", Err (fault.OutOfRange 9))
    ∷ (codes "tc qdisc add dev e root fq_codel flows 0", Err (fault.OutOfRange 9))
    ∷ (codes "tc qdisc add dev e root fq_codel flows 1", at_root (kind.FqCodel (record no_fq_codel_options { flows = Some 1 })))
    ∷ (codes "tc qdisc add dev e root fq_codel flows 65536", at_root (kind.FqCodel (record no_fq_codel_options { flows = Some 65536 })))
    ∷ (codes "tc qdisc add dev e root fq_codel flows 65537", Err (fault.OutOfRange 9))
    ∷ (codes "tc qdisc add dev e root fq_codel quantum 0", Err (fault.OutOfRange 9))
    ∷ (codes "tc qdisc add dev e root fq_codel quantum 1", at_root (kind.FqCodel (record no_fq_codel_options { quantum = Some 1 })))
    ∷ (codes "tc qdisc add dev e root fq_codel quantum 4294967295", at_root (kind.FqCodel (record no_fq_codel_options { quantum = Some 4294967295 })))
    ∷ (codes "tc qdisc add dev e root fq_codel quantum 4294967296", Err (fault.OutOfRange 9))
    ∷ (codes "tc qdisc add dev e root fq_codel target -0.001", Err (fault.BadNumber 9))
    ∷ (codes "tc qdisc add dev e root fq_codel target 0", at_root (kind.FqCodel (record no_fq_codel_options { target = Some 0 })))
    ∷ (codes "tc qdisc add dev e root fq_codel target 1000s", at_root (kind.FqCodel (record no_fq_codel_options { target = Some 1000000000000 })))
    ∷ (codes "tc qdisc add dev e root fq_codel target 1000000000.001us", Err (fault.OutOfRange 9))
    ∷ (codes "tc qdisc add dev e root fq_codel interval 0.999us", Err (fault.OutOfRange 9))
    ∷ (codes "tc qdisc add dev e root fq_codel interval 1us", at_root (kind.FqCodel (record no_fq_codel_options { interval = Some 1000 })))
    ∷ (codes "tc qdisc add dev e root fq_codel interval 1000s", at_root (kind.FqCodel (record no_fq_codel_options { interval = Some 1000000000000 })))
    ∷ (codes "tc qdisc add dev e root fq_codel interval 1000000000.001us", Err (fault.OutOfRange 9))
    ∷ (codes "tc qdisc add dev e root fq_codel drop_batch 0", Err (fault.OutOfRange 9))
    ∷ (codes "tc qdisc add dev e root fq_codel drop_batch 1", at_root (kind.FqCodel (record no_fq_codel_options { drop_batch = Some 1 })))
    ∷ (codes "tc qdisc add dev e root fq_codel drop_batch 65536", at_root (kind.FqCodel (record no_fq_codel_options { drop_batch = Some 65536 })))
    ∷ (codes "tc qdisc add dev e root fq_codel drop_batch 65537", Err (fault.OutOfRange 9))
    ∷ (codes "tc qdisc add dev e root fq_codel ecn", at_root (kind.FqCodel (record no_fq_codel_options { ecn = Some true })))
    ∷ (codes "tc qdisc add dev e root fq_codel noecn", at_root (kind.FqCodel (record no_fq_codel_options { ecn = Some false })))
    ∷ []

fq_codels_are_read : AreRead fq_codels
unfolding line_rules
fq_codels_are_read = refl

-- handles of a qdisc, and the class in which it stands
abbrev handles : List Row
handles =
    (codes "tc qdisc add dev e root handle 0: drr", Err (fault.OutOfRange 8))
    ∷ (codes "tc qdisc add dev e root handle 1: drr", Ok (line.Tc (command.QdiscAdd place.Root (Some 1) kind.Drr)))
    ∷ (codes "tc qdisc add dev e root handle fffe: drr", Ok (line.Tc (command.QdiscAdd place.Root (Some 65534) kind.Drr)))
    ∷ (codes "tc qdisc add dev e root handle ffff: drr", Err (fault.OutOfRange 8))
    ∷ (codes "tc qdisc add dev e parent 0:1 drr", Err (fault.OutOfRange 7))
    ∷ (codes "tc qdisc add dev e parent 1:0 drr", Err (fault.OutOfRange 7))
    ∷ (codes "tc qdisc add dev e parent 1:1 drr", Ok (line.Tc (command.QdiscAdd (place.Class (class_id 1 1)) None kind.Drr)))
    ∷ (codes "tc qdisc add dev e parent fffe:ffff drr", Ok (line.Tc (command.QdiscAdd (place.Class (class_id 65534 65535)) None kind.Drr)))
    ∷ (codes "tc qdisc add dev e parent ffff:ffff drr", Err (fault.OutOfRange 7))
    ∷ (codes "tc qdisc add dev e parent fffe:10000 drr", Err (fault.OutOfRange 7))
    ∷ []

handles_are_read : AreRead handles
unfolding line_rules
handles_are_read = refl

-- quantum, parent and name of a class
abbrev classes : List Row
classes =
    (codes "tc class add dev e parent 1: classid 1:1 drr quantum 0", Err (fault.OutOfRange 12))
    ∷ (codes "tc class add dev e parent 1: classid 1:1 drr quantum 1", Ok (line.Tc (command.ClassAdd 1 (class_id 1 1) (Some 1))))
    ∷ (codes "tc class add dev e parent 1: classid 1:1 drr quantum 4294967295", Ok (line.Tc (command.ClassAdd 1 (class_id 1 1) (Some 4294967295))))
    ∷ (codes "tc class add dev e parent 1: classid 1:1 drr quantum 4294967296", Err (fault.OutOfRange 12))
    ∷ (codes "tc class add dev e parent 0: classid 1:1 drr", Err (fault.OutOfRange 7))
    ∷ (codes "tc class add dev e parent 1: classid 1:1 drr", Ok (line.Tc (command.ClassAdd 1 (class_id 1 1) None)))
    ∷ (codes "tc class add dev e parent fffe: classid 1:1 drr", Ok (line.Tc (command.ClassAdd 65534 (class_id 1 1) None)))
    ∷ (codes "tc class add dev e parent ffff: classid 1:1 drr", Err (fault.OutOfRange 7))
    ∷ (codes "tc class add dev e parent 1: classid 0:1 drr", Err (fault.OutOfRange 9))
    ∷ (codes "tc class add dev e parent 1: classid 1:0 drr", Err (fault.OutOfRange 9))
    ∷ (codes "tc class add dev e parent 1: classid fffe:ffff drr", Ok (line.Tc (command.ClassAdd 1 (class_id 65534 65535) None)))
    ∷ (codes "tc class add dev e parent 1: classid ffff:ffff drr", Err (fault.OutOfRange 9))
    ∷ (codes "tc class add dev e parent 1: classid fffe:10000 drr", Err (fault.OutOfRange 9))
    ∷ []

classes_are_read : AreRead classes
unfolding line_rules
classes_are_read = refl

-- priority, keys, parent and class of a filter
abbrev filters : List Row
filters =
    (codes "tc filter add dev e parent 1: prio 0 flower classid 1:1", Err (fault.OutOfRange 9))
    ∷ (codes "tc filter add dev e parent 1: prio 1 flower classid 1:1", filter 1 1 one_filter)
    ∷ (codes "tc filter add dev e parent 1: prio 65535 flower classid 1:1", filter 1 1 (record one_filter { prio = 65535 }))
    ∷ (codes "tc filter add dev e parent 1: prio 65536 flower classid 1:1", Err (fault.OutOfRange 9))
    ∷ (codes "tc filter add dev e parent 1: prio 1 flower classid 1:1 ip_proto 0", filter 1 1 (record one_filter { keys = record no_keys { ip_proto = Some 0 } }))
    ∷ (codes "tc filter add dev e parent 1: prio 1 flower classid 1:1 ip_proto ff", filter 1 1 (record one_filter { keys = record no_keys { ip_proto = Some 255 } }))
    ∷ (codes "tc filter add dev e parent 1: prio 1 flower classid 1:1 ip_proto 100", Err (fault.OutOfRange 14))
    ∷ (codes "tc filter add dev e parent 1: prio 1 flower classid 1:1 src_port -1", Err (fault.BadNumber 14))
    ∷ (codes "tc filter add dev e parent 1: prio 1 flower classid 1:1 src_port 0", filter 1 1 (record one_filter { keys = record no_keys { src_port = Some 0 } }))
    ∷ (codes "tc filter add dev e parent 1: prio 1 flower classid 1:1 src_port 65535", filter 1 1 (record one_filter { keys = record no_keys { src_port = Some 65535 } }))
    ∷ (codes "tc filter add dev e parent 1: prio 1 flower classid 1:1 src_port 65536", Err (fault.OutOfRange 14))
    ∷ (codes "tc filter add dev e parent 1: prio 1 flower classid 1:1 dst_port -1", Err (fault.BadNumber 14))
    ∷ (codes "tc filter add dev e parent 1: prio 1 flower classid 1:1 dst_port 0", filter 1 1 (record one_filter { keys = record no_keys { dst_port = Some 0 } }))
    ∷ (codes "tc filter add dev e parent 1: prio 1 flower classid 1:1 dst_port 65535", filter 1 1 (record one_filter { keys = record no_keys { dst_port = Some 65535 } }))
    ∷ (codes "tc filter add dev e parent 1: prio 1 flower classid 1:1 dst_port 65536", Err (fault.OutOfRange 14))
    ∷ (codes "tc filter add dev e parent 0: prio 1 flower classid 1:1", Err (fault.OutOfRange 7))
    ∷ (codes "tc filter add dev e parent fffe: prio 1 flower classid 1:1", filter 65534 1 one_filter)
    ∷ (codes "tc filter add dev e parent ffff: prio 1 flower classid 1:1", Err (fault.OutOfRange 7))
    ∷ (codes "tc filter add dev e parent 1: prio 1 flower classid 0:1", Err (fault.OutOfRange 12))
    ∷ (codes "tc filter add dev e parent 1: prio 1 flower classid 1:0", Err (fault.OutOfRange 12))
    ∷ (codes "tc filter add dev e parent 1: prio 1 flower classid fffe:ffff", filter 1 65534 (record one_filter { minor = 65535 }))
    ∷ (codes "tc filter add dev e parent 1: prio 1 flower classid ffff:ffff", Err (fault.OutOfRange 12))
    ∷ (codes "tc filter add dev e parent 1: prio 1 flower classid fffe:10000", Err (fault.OutOfRange 12))
    ∷ []

filters_are_read : AreRead filters
unfolding line_rules
filters_are_read = refl

-- every field of a packet but its addresses
abbrev packets : List Row
packets =
    (codes "pkt 0", Err (fault.OutOfRange 2))
    ∷ (codes "pkt 1", Ok (line.Pkt one_byte))
    ∷ (codes "pkt 65535", Ok (line.Pkt (record one_byte { len = 65535 })))
    ∷ (codes "pkt 65536", Err (fault.OutOfRange 2))
    ∷ (codes "pkt 1 hash -1", Err (fault.BadNumber 4))
    ∷ (codes "pkt 1 hash 0", Ok (line.Pkt (record one_byte { hash = Some 0 })))
    ∷ (codes "pkt 1 hash 4294967295", Ok (line.Pkt (record one_byte { hash = Some 4294967295 })))
    ∷ (codes "pkt 1 hash 4294967296", Err (fault.OutOfRange 4))
    ∷ (codes "pkt 1 prio -1", Err (fault.BadNumber 4))
    ∷ (codes "pkt 1 prio 0", Ok (line.Pkt (record one_byte { prio = 0 })))
    ∷ (codes "pkt 1 prio 15", Ok (line.Pkt (record one_byte { prio = 15 })))
    ∷ (codes "pkt 1 prio 16", Err (fault.OutOfRange 4))
    ∷ (codes "pkt 1 ip_proto 0", Ok (line.Pkt (record one_byte { key = record zero_key { proto = 0 } })))
    ∷ (codes "pkt 1 ip_proto ff", Ok (line.Pkt (record one_byte { key = record zero_key { proto = 255 } })))
    ∷ (codes "pkt 1 ip_proto 100", Err (fault.OutOfRange 4))
    ∷ (codes "pkt 1 src_port -1", Err (fault.BadNumber 4))
    ∷ (codes "pkt 1 src_port 0", Ok (line.Pkt (record one_byte { key = record zero_key { sport = 0 } })))
    ∷ (codes "pkt 1 src_port 65535", Ok (line.Pkt (record one_byte { key = record zero_key { sport = 65535 } })))
    ∷ (codes "pkt 1 src_port 65536", Err (fault.OutOfRange 4))
    ∷ (codes "pkt 1 dst_port -1", Err (fault.BadNumber 4))
    ∷ (codes "pkt 1 dst_port 0", Ok (line.Pkt (record one_byte { key = record zero_key { dport = 0 } })))
    ∷ (codes "pkt 1 dst_port 65535", Ok (line.Pkt (record one_byte { key = record zero_key { dport = 65535 } })))
    ∷ (codes "pkt 1 dst_port 65536", Err (fault.OutOfRange 4))
    ∷ (codes "pkt 1 ecn -1", Err (fault.BadNumber 4))
    ∷ (codes "pkt 1 ecn 0", Ok (line.Pkt (record one_byte { ecn = NotEct })))
    ∷ (codes "pkt 1 ecn 1", Ok (line.Pkt (record one_byte { ecn = Ect1 })))
    ∷ (codes "pkt 1 ecn 2", Ok (line.Pkt (record one_byte { ecn = Ect0 })))
    ∷ (codes "pkt 1 ecn 3", Ok (line.Pkt (record one_byte { ecn = Ce })))
    ∷ (codes "pkt 1 ecn 4", Err (fault.OutOfRange 4))
    ∷ []

packets_are_read : AreRead packets
unfolding line_rules
packets_are_read = refl

-- moments, polls and frames
abbrev moments : List Row
moments =
    (codes "at -1", Err (fault.BadNumber 2))
    ∷ (codes "at 0", Ok (line.At 0))
    ∷ (codes "at 4611686018427387904", Ok (line.At 4611686018427387904))
    ∷ (codes "at 4611686018427387905", Err (fault.OutOfRange 2))
    ∷ (codes "poll 0", Err (fault.OutOfRange 2))
    ∷ (codes "poll 1", Ok (line.Poll 1))
    ∷ (codes "poll 100000", Ok (line.Poll 100000))
    ∷ (codes "poll 100001", Err (fault.OutOfRange 2))
    ∷ (codes "frame 0 00", Err (fault.OutOfRange 2))
    ∷ (codes "frame 1 00", Ok (line.Frame 1 zero_head))
    ∷ (codes "frame 65535 00", Ok (line.Frame 65535 zero_head))
    ∷ (codes "frame 65536 00", Err (fault.OutOfRange 2))
    ∷ []

moments_are_read : AreRead moments
unfolding line_rules
moments_are_read = refl

-- Lines with words that stand twice, with bytes that are no UTF-8, and with a priomap before its bands.
-- The rules are those of docs/LANGUAGE.md; ranges are those of docs/DISCIPLINES.md.
use Rattle.std.proofs.Common.{List, [], ◌∷◌, ◌++◌, Some, None, refl}
use Rattle.std.specs.Prelude.{codes, false, Ok, Err}
use Rattle.q_model.specs.declared.command.Command.TheVariants as command
use Rattle.q_model.specs.declared.kind.Kind.TheVariants as kind
use Rattle.q_model.specs.declared.place.Place.TheVariants as place
use Rattle.q_model.specs.declared.tbf_limit.TbfLimit.TheVariants as tbf_limit
use Rattle.q_words.specs.declared.line_fault.LineFault.TheVariants as fault
use Rattle.q_line.specs.Drafts.{default_priomap}
use Rattle.q_line.specs.declared.line.Line.TheVariants as line
use Rattle.q_line.specs.declared.object.Object.TheVariants as object
use Rattle.q_worked_examples.proofs.lines.LineTable.{Row, AreRead, at_root, filter, one_byte, one_filter, prio}
use Rattle.q_worked_examples.proofs.SharedRules.{line_rules}

-- words that count as one, and lines with the other spellings
abbrev second_words_of_a_set : List Row
second_words_of_a_set =
    (codes "tc qdisc add dev e root parent 1:1 pfifo", Err (fault.Twice 7))
    ∷ (codes "tc qdisc add dev e parent 1:1 root pfifo", Err (fault.Twice 8))
    ∷ (codes "tc qdisc del dev e parent 1:1 parent 1:2", Err (fault.Twice 8))
    ∷ (codes "tc filter add dev e parent 1: prio 1 pref 2 flower classid 1:1", Err (fault.Twice 10))
    ∷ (codes "tc filter add dev e parent 1: pref 2 prio 1 flower classid 1:1", Err (fault.Twice 10))
    ∷ (codes "tc filter add dev e parent 1: prio 1 flower classid 1:1 flowid 1:2", Err (fault.Twice 13))
    ∷ (codes "tc filter add dev e parent 1: prio 1 flower flowid 1:2 classid 1:1", Err (fault.Twice 13))
    ∷ (codes "tc qdisc add dev e root tbf rate 1 burst 1 limit 0 latency 5", Err (fault.Twice 14))
    ∷ (codes "tc qdisc add dev e root tbf rate 1 burst 1 latency 5 limit 0", Err (fault.Twice 14))
    ∷ (codes "tc qdisc add dev e root tbf burst 1 buffer 2", Err (fault.Twice 10))
    ∷ (codes "tc qdisc add dev e root tbf buffer 1 maxburst 2", Err (fault.Twice 10))
    ∷ (codes "tc qdisc add dev e root tbf maxburst 1 burst 2", Err (fault.Twice 10))
    ∷ (codes "tc qdisc add dev e root fq_codel ecn noecn", Err (fault.Twice 9))
    ∷ (codes "tc qdisc add dev e root fq_codel noecn ecn", Err (fault.Twice 9))
    ∷ (codes "tc filter add dev e parent 1: pref 2 flower flowid 1:a", filter 1 1 (record one_filter { prio = 2; minor = 10 }))
    ∷ (codes "tc qdisc add dev e root tbf buffer 2 latency 1 rate 3", at_root (kind.Tbf 3 2 (tbf_limit.Latency 1000)))
    ∷ (codes "tc qdisc add dev e root tbf maxburst 3 limit 1 rate 3", at_root (kind.Tbf 3 3 (tbf_limit.Bytes 1)))
    ∷ []

second_words_of_a_set_are_read : AreRead second_words_of_a_set
unfolding line_rules
second_words_of_a_set_are_read = refl

-- each word of a head and each option again
abbrev words_again : List Row
words_again =
    (codes "tc qdisc add dev e dev f root pfifo", Err (fault.Twice 6))
    ∷ (codes "tc qdisc add dev e root root pfifo", Err (fault.Twice 7))
    ∷ (codes "tc qdisc add dev e root handle 1: handle 2: pfifo", Err (fault.Twice 9))
    ∷ (codes "tc qdisc add dev e root pfifo limit 1 limit 2", Err (fault.Twice 10))
    ∷ (codes "tc qdisc add dev e root bfifo limit 1 limit 2", Err (fault.Twice 10))
    ∷ (codes "tc qdisc add dev e root prio bands 3 bands 4", Err (fault.Twice 10))
    ∷ (codes "tc qdisc add dev e root prio priomap 0 0 0 0 0 0 0 0 0 0 0 0 0 0 0 0 priomap", Err (fault.Twice 25))
    ∷ (codes "tc qdisc add dev e root tbf rate 1 rate 2", Err (fault.Twice 10))
    ∷ (codes "tc qdisc add dev e root tbf limit 1 limit 2", Err (fault.Twice 10))
    ∷ (codes "tc qdisc add dev e root tbf latency 1 latency 2", Err (fault.Twice 10))
    ∷ (codes "tc qdisc add dev e root tbf burst 1 burst 2", Err (fault.Twice 10))
    ∷ (codes "tc qdisc add dev e root fq_codel limit 1 limit 2", Err (fault.Twice 10))
    ∷ (codes "tc qdisc add dev e root fq_codel flows 1 flows 2", Err (fault.Twice 10))
    ∷ (codes "tc qdisc add dev e root fq_codel quantum 1 quantum 2", Err (fault.Twice 10))
    ∷ (codes "tc qdisc add dev e root fq_codel target 1 target 2", Err (fault.Twice 10))
    ∷ (codes "tc qdisc add dev e root fq_codel interval 1 interval 2", Err (fault.Twice 10))
    ∷ (codes "tc qdisc add dev e root fq_codel drop_batch 1 drop_batch 2", Err (fault.Twice 10))
    ∷ (codes "tc qdisc add dev e root fq_codel ecn ecn", Err (fault.Twice 9))
    ∷ (codes "tc qdisc add dev e root fq_codel noecn noecn", Err (fault.Twice 9))
    ∷ (codes "tc class add dev e parent 1: parent 2: classid 1:1 drr", Err (fault.Twice 8))
    ∷ (codes "tc class add dev e parent 1: classid 1:1 classid 1:2 drr", Err (fault.Twice 10))
    ∷ (codes "tc class add dev e parent 1: classid 1:1 drr quantum 1 quantum 2", Err (fault.Twice 13))
    ∷ (codes "tc filter add dev e parent 1: parent 2: prio 1 flower classid 1:1", Err (fault.Twice 8))
    ∷ (codes "tc filter add dev e parent 1: prio 1 prio 2 flower classid 1:1", Err (fault.Twice 10))
    ∷ (codes "tc filter add dev e parent 1: prio 1 protocol ip protocol all flower classid 1:1", Err (fault.Twice 12))
    ∷ (codes "tc filter add dev e parent 1: prio 1 flower classid 1:1 ip_proto tcp ip_proto udp", Err (fault.Twice 15))
    ∷ (codes "tc filter add dev e parent 1: prio 1 flower classid 1:1 src_ip ::1 src_ip ::2", Err (fault.Twice 15))
    ∷ (codes "tc filter add dev e parent 1: prio 1 flower classid 1:1 dst_ip ::1 dst_ip ::2", Err (fault.Twice 15))
    ∷ (codes "tc filter add dev e parent 1: prio 1 flower classid 1:1 src_port 1 src_port 2", Err (fault.Twice 15))
    ∷ (codes "tc filter add dev e parent 1: prio 1 flower classid 1:1 dst_port 1 dst_port 2", Err (fault.Twice 15))
    ∷ (codes "tc filter add dev e parent 1: prio 1 flower classid 1:1 classid 1:2", Err (fault.Twice 13))
    ∷ (codes "pkt 1 hash 1 hash 2", Err (fault.Twice 5))
    ∷ (codes "pkt 1 prio 1 prio 2", Err (fault.Twice 5))
    ∷ (codes "pkt 1 ip_proto 1 ip_proto 2", Err (fault.Twice 5))
    ∷ (codes "pkt 1 src_ip ::1 src_ip ::2", Err (fault.Twice 5))
    ∷ (codes "pkt 1 dst_ip ::1 dst_ip ::2", Err (fault.Twice 5))
    ∷ (codes "pkt 1 src_port 1 src_port 2", Err (fault.Twice 5))
    ∷ (codes "pkt 1 dst_port 1 dst_port 2", Err (fault.Twice 5))
    ∷ (codes "pkt 1 ecn 1 ecn 2", Err (fault.Twice 5))
    ∷ (codes "tc qdisc show dev e dev f", Err (fault.Twice 6))
    ∷ []

words_again_are_read : AreRead words_again
unfolding line_rules
words_again_are_read = refl

-- the first fault is that of the leftmost word; a comment may hold any bytes
abbrev bytes_of_words : List Row
bytes_of_words =
    (codes "x" ++ (255 ∷ []), Err (fault.BadUtf8 1))
    ∷ (codes "pkt " ++ (255 ∷ []), Err (fault.BadUtf8 2))
    ∷ (codes "foo " ++ (255 ∷ []), Err (fault.UnknownWord 1))
    ∷ (codes "pkt 1 " ++ ((255 ∷ []) ++ codes " x"), Err (fault.BadUtf8 3))
    ∷ (codes "pkt 1 x " ++ (255 ∷ []), Err (fault.UnknownWord 3))
    ∷ (codes "pkt 1 hash " ++ ((255 ∷ []) ++ (codes " " ++ (255 ∷ []))), Err (fault.BadUtf8 4))
    ∷ (codes "pkt 1 hash x " ++ (255 ∷ []), Err (fault.BadNumber 4))
    ∷ (codes "tc qdisc add dev e root pfifo limit " ++ (255 ∷ []), Err (fault.BadUtf8 9))
    ∷ (codes "tc qdisc show dev " ++ (195 ∷ []), Err (fault.BadUtf8 5))
    ∷ (codes "tc qdisc show dev " ++ (195 ∷ 169 ∷ []), Ok (line.Show (record { object = object.Qdisc; counters = false })))
    ∷ (codes "tc qdisc add dev " ++ ((226 ∷ 130 ∷ 172 ∷ []) ++ codes " root drr"), at_root kind.Drr)
    ∷ (codes "pkt " ++ (195 ∷ 169 ∷ []), Err (fault.BadNumber 2))
    ∷ (codes "tc " ++ (192 ∷ 128 ∷ []), Err (fault.BadUtf8 2))
    ∷ (codes "tc " ++ (237 ∷ 160 ∷ 128 ∷ []), Err (fault.BadUtf8 2))
    ∷ (codes "tc " ++ (244 ∷ 144 ∷ 128 ∷ 128 ∷ []), Err (fault.BadUtf8 2))
    ∷ (codes "tc " ++ (226 ∷ 130 ∷ []), Err (fault.BadUtf8 2))
    ∷ (codes "tc " ++ (240 ∷ 159 ∷ 152 ∷ 128 ∷ []), Err (fault.UnknownWord 2))
    ∷ (codes "tc qdisc add dev e root prio priomap 0 9 " ++ (255 ∷ []), Err (fault.BadUtf8 11))
    ∷ (codes "# " ++ (255 ∷ []), Ok line.Blank)
    ∷ (codes "#" ++ ((255 ∷ []) ++ (codes " " ++ (255 ∷ []))), Ok line.Blank)
    ∷ (codes " " ++ ((9 ∷ []) ++ (codes "#" ++ (255 ∷ []))), Ok line.Blank)
    ∷ ((255 ∷ []) ++ codes "#", Err (fault.BadUtf8 1))
    ∷ ((9 ∷ []) ++ (codes "pkt" ++ ((13 ∷ []) ++ (codes " 1 " ++ (13 ∷ [])))), Ok (line.Pkt one_byte))
    ∷ []

bytes_of_words_are_read : AreRead bytes_of_words
unfolding line_rules
bytes_of_words_are_read = refl

-- the bands judge the priomap, wherever they stand
abbrev bands_given_later : List Row
bands_given_later =
    (codes "tc qdisc add dev e root prio priomap 0 0 0 0 0 0 0 0 0 0 0 0 0 0 0 3", Err (fault.OutOfRange 24))
    ∷ (codes "tc qdisc add dev e root prio priomap 0 0 0 0 0 0 0 0 0 0 0 0 0 0 0 3 bands 4", at_root (prio 4 (0 ∷ 0 ∷ 0 ∷ 0 ∷ 0 ∷ 0 ∷ 0 ∷ 0 ∷ 0 ∷ 0 ∷ 0 ∷ 0 ∷ 0 ∷ 0 ∷ 0 ∷ 3 ∷ [])))
    ∷ (codes "tc qdisc add dev e root prio priomap 0 0 0 0 0 0 0 0 0 0 0 0 0 0 0 4 bands 4", Err (fault.OutOfRange 24))
    ∷ (codes "tc qdisc add dev e root prio priomap 4 0 0 0 0 0 0 0 0 0 0 0 0 0 0 0 bands 5", at_root (prio 5 (4 ∷ 0 ∷ 0 ∷ 0 ∷ 0 ∷ 0 ∷ 0 ∷ 0 ∷ 0 ∷ 0 ∷ 0 ∷ 0 ∷ 0 ∷ 0 ∷ 0 ∷ 0 ∷ [])))
    ∷ (codes "tc qdisc add dev e root prio priomap 0 15 0 15 0 15 0 15 0 15 0 15 0 15 0 15 bands 16", at_root (prio 16 (0 ∷ 15 ∷ 0 ∷ 15 ∷ 0 ∷ 15 ∷ 0 ∷ 15 ∷ 0 ∷ 15 ∷ 0 ∷ 15 ∷ 0 ∷ 15 ∷ 0 ∷ 15 ∷ [])))
    ∷ (codes "tc qdisc add dev e root prio priomap 0 16 0 16 0 16 0 16 0 16 0 16 0 16 0 16 bands 16", Err (fault.OutOfRange 10))
    ∷ (codes "tc qdisc add dev e root prio priomap 0 0 0 0 0 0 0 0 0 0 0 0 0 0 18446744073709551616 5 bands 16", Err (fault.OutOfRange 23))
    ∷ (codes "tc qdisc add dev e root prio priomap 2 2 2 2 2 2 2 2 2 2 2 2 2 2 2 2", at_root (prio 3 (2 ∷ 2 ∷ 2 ∷ 2 ∷ 2 ∷ 2 ∷ 2 ∷ 2 ∷ 2 ∷ 2 ∷ 2 ∷ 2 ∷ 2 ∷ 2 ∷ 2 ∷ 2 ∷ [])))
    ∷ (codes "tc qdisc add dev e root prio priomap 1 1 1 1 1 1 1 1 1 1 1 1 1 1 1 1 bands 2", at_root (prio 2 (1 ∷ 1 ∷ 1 ∷ 1 ∷ 1 ∷ 1 ∷ 1 ∷ 1 ∷ 1 ∷ 1 ∷ 1 ∷ 1 ∷ 1 ∷ 1 ∷ 1 ∷ 1 ∷ [])))
    ∷ (codes "tc qdisc add dev e root prio priomap 2 2 2 2 2 2 2 2 2 2 2 2 2 2 2 2 bands 2", Err (fault.OutOfRange 9))
    ∷ (codes "tc qdisc add dev e root prio priomap 1 1 1 1 1 1 1 1 1 1 1 1 1 1 1 1 bands", Err (fault.Missing 26))
    ∷ (codes "tc qdisc add dev e root prio priomap 4 4 4 4 4 4 4 4 4 4 4 4 4 4 4 4 bands", Err (fault.OutOfRange 9))
    ∷ (codes "tc qdisc add dev e root prio priomap 9 9 9 9 9 9 9 9 9 9 9 9 9 9 9", Err (fault.OutOfRange 9))
    ∷ (codes "tc qdisc add dev e root prio priomap 0 0 0 0 0 0 0 0 0 0 0 0 0 0 0 0 0", Err (fault.UnknownWord 25))
    ∷ (codes "tc qdisc add dev e root prio bands 4 priomap 3 0 0 0 0 0 0 0 0 0 0 0 0 0 0 0", at_root (prio 4 (3 ∷ 0 ∷ 0 ∷ 0 ∷ 0 ∷ 0 ∷ 0 ∷ 0 ∷ 0 ∷ 0 ∷ 0 ∷ 0 ∷ 0 ∷ 0 ∷ 0 ∷ 0 ∷ [])))
    ∷ (codes "tc qdisc add dev e root prio bands 2", Err (fault.Missing 10))
    ∷ (codes "tc qdisc change dev e root prio bands 5", Ok (line.Tc (command.QdiscChange (Some place.Root) None (prio 5 default_priomap))))
    ∷ []

bands_given_later_are_read : AreRead bands_given_later
unfolding line_rules
bands_given_later_are_read = refl

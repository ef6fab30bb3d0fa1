-- Lines with each part that they need, and without it: heads of tc lines, show lines, and the lines of a script.
-- The rules are those of docs/LANGUAGE.md; ranges are those of docs/DISCIPLINES.md.
use Rattle.std.proofs.Common.{List, [], ◌∷◌, ◌++◌, Some, None, refl}
use Rattle.std.specs.Prelude.{codes, true, false, Ok, Err}
use Rattle.q_packet.specs.Head.{zero_head}
use Rattle.q_model.specs.declared.command.Command.TheVariants as command
use Rattle.q_model.specs.declared.kind.Kind.TheVariants as kind
use Rattle.q_model.specs.declared.place.Place.TheVariants as place
use Rattle.q_model.specs.declared.protocol.Protocol.TheVariants.{Ipv6}
use Rattle.q_words.specs.declared.line_fault.LineFault.TheVariants as fault
use Rattle.q_line.specs.declared.line.Line.TheVariants as line
use Rattle.q_line.specs.declared.object.Object.TheVariants as object
use Rattle.q_worked_examples.proofs.lines.LineTable.{Row, AreRead, at_root, class_id, filter, one_filter, prio}
use Rattle.q_worked_examples.proofs.SharedRules.{line_rules}

-- a name of 15 bytes; handles and classes, in hexadecimal
abbrev names_and_handles : List Row
names_and_handles =
    (codes "tc qdisc add dev abcdefghijklmno root drr", at_root kind.Drr)
    ∷ (codes "tc qdisc add dev abcdefghijklmnop root drr", Err (fault.OutOfRange 5))
    ∷ (codes "tc qdisc add dev root root drr", at_root kind.Drr)
    ∷ (codes "tc qdisc add dev e root handle 1 drr", Ok (line.Tc (command.QdiscAdd place.Root (Some 1) kind.Drr)))
    ∷ (codes "tc qdisc add dev e root handle 1:0 drr", Ok (line.Tc (command.QdiscAdd place.Root (Some 1) kind.Drr)))
    ∷ (codes "tc qdisc add dev e root handle 10 drr", Ok (line.Tc (command.QdiscAdd place.Root (Some 16) kind.Drr)))
    ∷ (codes "tc qdisc add dev e root handle FFFE:0 drr", Ok (line.Tc (command.QdiscAdd place.Root (Some 65534) kind.Drr)))
    ∷ (codes "tc qdisc add dev e root handle 0fe: drr", Ok (line.Tc (command.QdiscAdd place.Root (Some 254) kind.Drr)))
    ∷ (codes "tc qdisc add dev e root handle 1:1 drr", Err (fault.OutOfRange 8))
    ∷ (codes "tc qdisc add dev e root handle 1:00 drr", Err (fault.OutOfRange 8))
    ∷ (codes "tc qdisc add dev e root handle 00001 drr", Err (fault.OutOfRange 8))
    ∷ (codes "tc qdisc add dev e root handle 12345: drr", Err (fault.OutOfRange 8))
    ∷ (codes "tc qdisc add dev e root handle 0 drr", Err (fault.OutOfRange 8))
    ∷ (codes "tc qdisc add dev e root handle 0x1: drr", Err (fault.BadNumber 8))
    ∷ (codes "tc qdisc add dev e root handle 1:: drr", Err (fault.BadNumber 8))
    ∷ (codes "tc qdisc add dev e root handle g drr", Err (fault.BadNumber 8))
    ∷ (codes "tc qdisc add dev e root handle : drr", Err (fault.BadNumber 8))
    ∷ (codes "tc qdisc add dev e root handle :0 drr", Err (fault.BadNumber 8))
    ∷ (codes "tc qdisc add dev e root handle 12345:g drr", Err (fault.BadNumber 8))
    ∷ (codes "tc qdisc add dev e root handle 0:1:1 drr", Err (fault.BadNumber 8))
    ∷ (codes "tc qdisc add dev e parent A:10 drr", Ok (line.Tc (command.QdiscAdd (place.Class (class_id 10 16)) None kind.Drr)))
    ∷ (codes "tc qdisc add dev e parent 0001:0001 drr", Ok (line.Tc (command.QdiscAdd (place.Class (class_id 1 1)) None kind.Drr)))
    ∷ (codes "tc qdisc add dev e parent 00001:1 drr", Err (fault.OutOfRange 7))
    ∷ (codes "tc qdisc add dev e parent 1:00001 drr", Err (fault.OutOfRange 7))
    ∷ (codes "tc qdisc add dev e parent 1 drr", Err (fault.BadNumber 7))
    ∷ (codes "tc qdisc add dev e parent 1: drr", Err (fault.BadNumber 7))
    ∷ (codes "tc qdisc add dev e parent :1 drr", Err (fault.BadNumber 7))
    ∷ (codes "tc qdisc add dev e parent 1:g drr", Err (fault.BadNumber 7))
    ∷ (codes "tc qdisc add dev e parent 12345:g drr", Err (fault.BadNumber 7))
    ∷ (codes "tc qdisc add dev e parent 1:1:1 drr", Err (fault.BadNumber 7))
    ∷ []

names_and_handles_are_read : AreRead names_and_handles
unfolding line_rules
names_and_handles_are_read = refl

-- what the head of a qdisc needs, in any order
abbrev qdisc_heads : List Row
qdisc_heads =
    (codes "tc qdisc add handle 2: dev e parent 1:1 drr", Ok (line.Tc (command.QdiscAdd (place.Class (class_id 1 1)) (Some 2) kind.Drr)))
    ∷ (codes "tc qdisc add root drr", Err (fault.Missing 6))
    ∷ (codes "tc qdisc add dev e drr", Err (fault.Missing 7))
    ∷ (codes "tc qdisc add dev e handle 1: drr", Err (fault.Missing 9))
    ∷ (codes "tc qdisc add root drr dev e", Err (fault.UnknownWord 6))
    ∷ (codes "tc qdisc add dev e root", Err (fault.Missing 7))
    ∷ (codes "tc qdisc add dev e root netem", Err (fault.UnknownWord 7))
    ∷ (codes "tc qdisc change dev e drr", Err (fault.Missing 7))
    ∷ (codes "tc qdisc change root drr", Err (fault.Missing 6))
    ∷ (codes "tc qdisc change dev e root drr", Ok (line.Tc (command.QdiscChange (Some place.Root) None kind.Drr)))
    ∷ (codes "tc qdisc change dev e handle 1: drr", Ok (line.Tc (command.QdiscChange None (Some 1) kind.Drr)))
    ∷ (codes "tc qdisc change handle 2: dev e parent 1:1 drr", Ok (line.Tc (command.QdiscChange (Some (place.Class (class_id 1 1))) (Some 2) kind.Drr)))
    ∷ (codes "tc qdisc change dev e root", Err (fault.Missing 7))
    ∷ (codes "tc qdisc del dev e", Err (fault.Missing 6))
    ∷ (codes "tc qdisc del root", Err (fault.Missing 5))
    ∷ (codes "tc qdisc del dev e root", Ok (line.Tc (command.QdiscDel (Some place.Root) None)))
    ∷ (codes "tc qdisc delete dev e handle 1:", Ok (line.Tc (command.QdiscDel None (Some 1))))
    ∷ (codes "tc qdisc del dev e handle 2: parent 1:1 fq_codel", Ok (line.Tc (command.QdiscDel (Some (place.Class (class_id 1 1))) (Some 2))))
    ∷ (codes "tc qdisc del dev e root netem", Err (fault.UnknownWord 7))
    ∷ (codes "tc qdisc del dev e root drr drr", Err (fault.UnknownWord 8))
    ∷ (codes "tc qdisc del root drr", Err (fault.Missing 6))
    ∷ (codes "tc qdisc del dev e root tbf rate 1", Err (fault.UnknownWord 8))
    ∷ []

qdisc_heads_are_read : AreRead qdisc_heads
unfolding line_rules
qdisc_heads_are_read = refl

-- what the head of a class needs
abbrev class_heads : List Row
class_heads =
    (codes "tc class add classid 1:1 parent 1: dev e drr", Ok (line.Tc (command.ClassAdd 1 (class_id 1 1) None)))
    ∷ (codes "tc class add parent 1: classid 1:1 drr", Err (fault.Missing 9))
    ∷ (codes "tc class add dev e classid 1:1 drr", Err (fault.Missing 9))
    ∷ (codes "tc class add dev e parent 1: drr", Err (fault.Missing 9))
    ∷ (codes "tc class add dev e parent 1: classid 1:1", Err (fault.Missing 10))
    ∷ (codes "tc class add dev e parent 1: flowid 1:1 drr", Err (fault.UnknownWord 8))
    ∷ (codes "tc class add dev e parent 1: classid 1:1 prio", Err (fault.UnknownWord 10))
    ∷ (codes "tc class add dev e root classid 1:1 drr", Err (fault.UnknownWord 6))
    ∷ (codes "tc class change dev e classid 1:1 drr quantum 2", Ok (line.Tc (command.ClassChange None (class_id 1 1) (Some 2))))
    ∷ (codes "tc class change dev e parent 1: classid 1:1 drr", Ok (line.Tc (command.ClassChange (Some 1) (class_id 1 1) None)))
    ∷ (codes "tc class change classid 1:1 drr", Err (fault.Missing 7))
    ∷ (codes "tc class change dev e parent 1: drr", Err (fault.Missing 9))
    ∷ (codes "tc class change dev e classid 1:1", Err (fault.Missing 8))
    ∷ (codes "tc class del dev e classid 1:1", Ok (line.Tc (command.ClassDel None (class_id 1 1))))
    ∷ (codes "tc class delete dev e parent 1: classid 1:2", Ok (line.Tc (command.ClassDel (Some 1) (class_id 1 2))))
    ∷ (codes "tc class del classid 1:1", Err (fault.Missing 6))
    ∷ (codes "tc class del dev e parent 1:", Err (fault.Missing 8))
    ∷ (codes "tc class del dev e classid 1:1 drr", Err (fault.UnknownWord 8))
    ∷ (codes "tc class replace", Err (fault.UnknownWord 3))
    ∷ []

class_heads_are_read : AreRead class_heads
unfolding line_rules
class_heads_are_read = refl

-- what the head of a filter needs
abbrev filter_heads : List Row
filter_heads =
    (codes "tc filter add prio 1 protocol ipv6 parent 1: dev e flower classid 2:3", filter 1 2 (record one_filter { protocol = Ipv6; minor = 3 }))
    ∷ (codes "tc filter add parent 1: prio 1 flower classid 1:1", Err (fault.Missing 11))
    ∷ (codes "tc filter add dev e prio 1 flower classid 1:1", Err (fault.Missing 11))
    ∷ (codes "tc filter add dev e parent 1: flower classid 1:1", Err (fault.Missing 11))
    ∷ (codes "tc filter add dev e parent 1: prio 1 flower", Err (fault.Missing 11))
    ∷ (codes "tc filter add dev e parent 1: prio 1", Err (fault.Missing 10))
    ∷ (codes "tc filter add dev e parent 1: prio 1 u32", Err (fault.UnknownWord 10))
    ∷ (codes "tc filter add dev e parent 1: prio 1 protocol ipv4 flower", Err (fault.UnknownWord 11))
    ∷ (codes "tc filter add dev e root prio 1", Err (fault.UnknownWord 6))
    ∷ (codes "tc filter change", Err (fault.UnknownWord 3))
    ∷ (codes "tc filter add dev e parent 1: pref 0 flower classid 1:1", Err (fault.OutOfRange 9))
    ∷ (codes "tc filter add dev e parent 1: pref 1 flower classid 1:1", filter 1 1 one_filter)
    ∷ (codes "tc filter add dev e parent 1: pref 65535 flower classid 1:1", filter 1 1 (record one_filter { prio = 65535 }))
    ∷ (codes "tc filter add dev e parent 1: pref 65536 flower classid 1:1", Err (fault.OutOfRange 9))
    ∷ (codes "tc filter del dev e parent 1: prio 1", Ok (line.Tc (command.FilterDel 1 1)))
    ∷ (codes "tc filter delete dev e parent 1: pref 2 protocol ip flower", Ok (line.Tc (command.FilterDel 1 2)))
    ∷ (codes "tc filter del dev e parent 1: prio 1 flower classid 1:1", Err (fault.UnknownWord 11))
    ∷ (codes "tc filter del parent 1: prio 1", Err (fault.Missing 8))
    ∷ (codes "tc filter del dev e prio 1", Err (fault.Missing 8))
    ∷ (codes "tc filter del dev e parent 1:", Err (fault.Missing 8))
    ∷ (codes "tc filter del dev e parent 1: prio 1 u32", Err (fault.UnknownWord 10))
    ∷ []

filter_heads_are_read : AreRead filter_heads
unfolding line_rules
filter_heads_are_read = refl

-- show lines, and words that are none of tc's
abbrev shows : List Row
shows =
    (codes "tc qdisc show", Ok (line.Show (record { object = object.Qdisc; counters = false })))
    ∷ (codes "tc -s qdisc list dev e", Ok (line.Show (record { object = object.Qdisc; counters = true })))
    ∷ (codes "tc class ls", Ok (line.Show (record { object = object.Class; counters = false })))
    ∷ (codes "tc -s class show", Ok (line.Show (record { object = object.Class; counters = true })))
    ∷ (codes "tc filter show dev e", Ok (line.Show (record { object = object.Filter; counters = false })))
    ∷ (codes "tc -s filter ls", Ok (line.Show (record { object = object.Filter; counters = true })))
    ∷ (codes "tc qdisc show root", Err (fault.UnknownWord 4))
    ∷ (codes "tc -s -s", Err (fault.UnknownWord 3))
    ∷ (codes "tc -s", Err (fault.Missing 3))
    ∷ (codes "tc", Err (fault.Missing 2))
    ∷ (codes "tc qdisc", Err (fault.Missing 3))
    ∷ (codes "tc qdisc sh", Err (fault.UnknownWord 3))
    ∷ (codes "tc qdisc replace", Err (fault.UnknownWord 3))
    ∷ (codes "tc qdiscs", Err (fault.UnknownWord 2))
    ∷ (codes "tc -d", Err (fault.UnknownWord 2))
    ∷ (codes "TC", Err (fault.UnknownWord 1))
    ∷ []

shows_are_read : AreRead shows
unfolding line_rules
shows_are_read = refl

-- lines that are none of tc's
abbrev script_lines : List Row
script_lines =
    ([], Ok line.Blank)
    ∷ (codes " " ++ (9 ∷ 13 ∷ []), Ok line.Blank)
    ∷ (codes "# pkt 1", Ok line.Blank)
    ∷ (codes "reap", Ok line.Reap)
    ∷ (codes "totals", Ok line.Totals)
    ∷ (codes "reap 1", Err (fault.UnknownWord 2))
    ∷ (codes "totals x", Err (fault.UnknownWord 2))
    ∷ (codes "Reap", Err (fault.UnknownWord 1))
    ∷ (codes "at", Err (fault.Missing 2))
    ∷ (codes "at 1 2", Err (fault.UnknownWord 3))
    ∷ (codes "poll", Ok (line.Poll 1))
    ∷ (codes "poll 1 2", Err (fault.UnknownWord 3))
    ∷ (codes "pkt", Err (fault.Missing 2))
    ∷ (codes "pkt 1 len", Err (fault.UnknownWord 3))
    ∷ (codes "frame", Err (fault.Missing 2))
    ∷ (codes "frame 60", Err (fault.Missing 3))
    ∷ (codes "frame 60 4", Err (fault.BadNumber 3))
    ∷ (codes "frame 60 4g", Err (fault.BadNumber 3))
    ∷ (codes "frame 60 0x45", Err (fault.BadNumber 3))
    ∷ (codes "frame 60 aBc0", Ok (line.Frame 60 zero_head))
    ∷ (codes "frame 60 45 46", Err (fault.UnknownWord 4))
    ∷ (codes "frame x 45", Err (fault.BadNumber 2))
    ∷ []

script_lines_are_read : AreRead script_lines
unfolding line_rules
script_lines_are_read = refl

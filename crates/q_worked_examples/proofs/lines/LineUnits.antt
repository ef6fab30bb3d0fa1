-- Lines with each spelling of each unit, with what is rounded down, and with units that stand where none may.
-- The rules are those of docs/LANGUAGE.md; ranges are those of docs/DISCIPLINES.md.
use Rattle.std.proofs.Common.{List, [], ◌∷◌, Some, refl}
use Rattle.std.specs.Prelude.{codes, Ok, Err}
use Rattle.q_model.specs.declared.command.Command.TheVariants as command
use Rattle.q_model.specs.declared.kind.Kind.TheVariants as kind
use Rattle.q_model.specs.declared.tbf_limit.TbfLimit.TheVariants as tbf_limit
use Rattle.q_words.specs.declared.line_fault.LineFault.TheVariants as fault
use Rattle.q_line.specs.declared.line.Line.TheVariants as line
use Rattle.q_worked_examples.proofs.lines.LineTable.{Row, AreRead, at_root, class_id, no_fq_codel_options, prio}
use Rattle.q_worked_examples.proofs.SharedRules.{line_rules}

-- rates, in bits a second
abbrev rates : List Row
rates =
    (codes "tc qdisc add dev e root tbf burst 1 limit 0 rate 1", at_root (kind.Tbf 1 1 (tbf_limit.Bytes 0)))
    ∷ (codes "tc qdisc add dev e root tbf burst 1 limit 0 rate 1bit", at_root (kind.Tbf 1 1 (tbf_limit.Bytes 0)))
    ∷ (codes "tc qdisc add dev e root tbf burst 1 limit 0 rate 1kbit", at_root (kind.Tbf 1000 1 (tbf_limit.Bytes 0)))
    ∷ (codes "tc qdisc add dev e root tbf burst 1 limit 0 rate 1mbit", at_root (kind.Tbf 1000000 1 (tbf_limit.Bytes 0)))
    ∷ (codes "tc qdisc add dev e root tbf burst 1 limit 0 rate 1gbit", at_root (kind.Tbf 1000000000 1 (tbf_limit.Bytes 0)))
    ∷ (codes "tc qdisc add dev e root tbf burst 1 limit 0 rate 1tbit", at_root (kind.Tbf 1000000000000 1 (tbf_limit.Bytes 0)))
    ∷ (codes "tc qdisc add dev e root tbf burst 1 limit 0 rate 1bps", at_root (kind.Tbf 8 1 (tbf_limit.Bytes 0)))
    ∷ (codes "tc qdisc add dev e root tbf burst 1 limit 0 rate 1kbps", at_root (kind.Tbf 8000 1 (tbf_limit.Bytes 0)))
    ∷ (codes "tc qdisc add dev e root tbf burst 1 limit 0 rate 1mbps", at_root (kind.Tbf 8000000 1 (tbf_limit.Bytes 0)))
    ∷ (codes "tc qdisc add dev e root tbf burst 1 limit 0 rate 1gbps", at_root (kind.Tbf 8000000000 1 (tbf_limit.Bytes 0)))
    ∷ (codes "tc qdisc add dev e root tbf burst 1 limit 0 rate 0.125tbps", at_root (kind.Tbf 1000000000000 1 (tbf_limit.Bytes 0)))
    ∷ (codes "tc qdisc add dev e root tbf burst 1 limit 0 rate 1KBit", at_root (kind.Tbf 1000 1 (tbf_limit.Bytes 0)))
    ∷ (codes "tc qdisc add dev e root tbf burst 1 limit 0 rate 1MBPS", at_root (kind.Tbf 8000000 1 (tbf_limit.Bytes 0)))
    ∷ (codes "tc qdisc add dev e root tbf burst 1 limit 0 rate 1.5", at_root (kind.Tbf 1 1 (tbf_limit.Bytes 0)))
    ∷ (codes "tc qdisc add dev e root tbf burst 1 limit 0 rate 0.0015kbit", at_root (kind.Tbf 1 1 (tbf_limit.Bytes 0)))
    ∷ (codes "tc qdisc add dev e root tbf burst 1 limit 0 rate 1.999999999kbit", at_root (kind.Tbf 1999 1 (tbf_limit.Bytes 0)))
    ∷ (codes "tc qdisc add dev e root tbf burst 1 limit 0 rate 0.3bps", at_root (kind.Tbf 2 1 (tbf_limit.Bytes 0)))
    ∷ (codes "tc qdisc add dev e root tbf burst 1 limit 0 rate 0.000000001tbps", at_root (kind.Tbf 8000 1 (tbf_limit.Bytes 0)))
    ∷ (codes "tc qdisc add dev e root tbf burst 1 limit 0 rate 0.9bit", Err (fault.OutOfRange 13))
    ∷ (codes "tc qdisc add dev e root tbf burst 1 limit 0 rate 0.000000999mbit", Err (fault.OutOfRange 13))
    ∷ (codes "tc qdisc add dev e root tbf burst 1 limit 0 rate 1.1gbps2", Err (fault.BadNumber 13))
    ∷ (codes "tc qdisc add dev e root tbf burst 1 limit 0 rate 1kb", Err (fault.BadNumber 13))
    ∷ (codes "tc qdisc add dev e root tbf burst 1 limit 0 rate 1k", Err (fault.BadNumber 13))
    ∷ (codes "tc qdisc add dev e root tbf burst 1 limit 0 rate 1.", Err (fault.BadNumber 13))
    ∷ (codes "tc qdisc add dev e root tbf burst 1 limit 0 rate .5", Err (fault.BadNumber 13))
    ∷ (codes "tc qdisc add dev e root tbf burst 1 limit 0 rate 1.0123456789kbit", Err (fault.BadNumber 13))
    ∷ (codes "tc qdisc add dev e root tbf burst 1 limit 0 rate 1.2.3", Err (fault.BadNumber 13))
    ∷ (codes "tc qdisc add dev e root tbf burst 1 limit 0 rate kbit", Err (fault.BadNumber 13))
    ∷ (codes "tc qdisc add dev e root tbf burst 1 limit 0 rate 1,5", Err (fault.BadNumber 13))
    ∷ []

rates_are_read : AreRead rates
unfolding line_rules
rates_are_read = refl

-- sizes, in bytes
abbrev sizes : List Row
sizes =
    (codes "tc qdisc add dev e root bfifo limit 1", at_root (kind.Bfifo (Some 1)))
    ∷ (codes "tc qdisc add dev e root bfifo limit 1b", at_root (kind.Bfifo (Some 1)))
    ∷ (codes "tc qdisc add dev e root bfifo limit 1k", at_root (kind.Bfifo (Some 1024)))
    ∷ (codes "tc qdisc add dev e root bfifo limit 1kb", at_root (kind.Bfifo (Some 1024)))
    ∷ (codes "tc qdisc add dev e root bfifo limit 1m", at_root (kind.Bfifo (Some 1048576)))
    ∷ (codes "tc qdisc add dev e root bfifo limit 1mb", at_root (kind.Bfifo (Some 1048576)))
    ∷ (codes "tc qdisc add dev e root bfifo limit 1g", at_root (kind.Bfifo (Some 1073741824)))
    ∷ (codes "tc qdisc add dev e root bfifo limit 1gb", at_root (kind.Bfifo (Some 1073741824)))
    ∷ (codes "tc qdisc add dev e root bfifo limit 1kbit", at_root (kind.Bfifo (Some 128)))
    ∷ (codes "tc qdisc add dev e root bfifo limit 1mbit", at_root (kind.Bfifo (Some 131072)))
    ∷ (codes "tc qdisc add dev e root bfifo limit 1gbit", at_root (kind.Bfifo (Some 134217728)))
    ∷ (codes "tc qdisc add dev e root bfifo limit 1KB", at_root (kind.Bfifo (Some 1024)))
    ∷ (codes "tc qdisc add dev e root bfifo limit 1MBit", at_root (kind.Bfifo (Some 131072)))
    ∷ (codes "tc qdisc add dev e root bfifo limit 1.5", at_root (kind.Bfifo (Some 1)))
    ∷ (codes "tc qdisc add dev e root bfifo limit 1.5k", at_root (kind.Bfifo (Some 1536)))
    ∷ (codes "tc qdisc add dev e root bfifo limit 0.9b", at_root (kind.Bfifo (Some 0)))
    ∷ (codes "tc qdisc add dev e root bfifo limit 0.0009k", at_root (kind.Bfifo (Some 0)))
    ∷ (codes "tc qdisc add dev e root bfifo limit 0.007kbit", at_root (kind.Bfifo (Some 0)))
    ∷ (codes "tc qdisc add dev e root bfifo limit 0.008kbit", at_root (kind.Bfifo (Some 1)))
    ∷ (codes "tc qdisc add dev e root bfifo limit 3.999999999g", at_root (kind.Bfifo (Some 4294967294)))
    ∷ (codes "tc qdisc add dev e root bfifo limit 4g", Err (fault.OutOfRange 9))
    ∷ (codes "tc qdisc add dev e root bfifo limit 32gbit", Err (fault.OutOfRange 9))
    ∷ (codes "tc qdisc add dev e root bfifo limit 1ki", Err (fault.BadNumber 9))
    ∷ (codes "tc qdisc add dev e root bfifo limit 1kib", Err (fault.BadNumber 9))
    ∷ (codes "tc qdisc add dev e root bfifo limit 1bit", Err (fault.BadNumber 9))
    ∷ (codes "tc qdisc add dev e root bfifo limit 1bps", Err (fault.BadNumber 9))
    ∷ (codes "tc qdisc add dev e root bfifo limit 1t", Err (fault.BadNumber 9))
    ∷ (codes "tc qdisc add dev e root bfifo limit 1kbits", Err (fault.BadNumber 9))
    ∷ (codes "tc qdisc add dev e root bfifo limit b", Err (fault.BadNumber 9))
    ∷ []

sizes_are_read : AreRead sizes
unfolding line_rules
sizes_are_read = refl

-- times, in nanoseconds; without a unit they are in microseconds
abbrev times : List Row
times =
    (codes "tc qdisc add dev e root fq_codel target 1", at_root (kind.FqCodel (record no_fq_codel_options { target = Some 1000 })))
    ∷ (codes "tc qdisc add dev e root fq_codel target 1us", at_root (kind.FqCodel (record no_fq_codel_options { target = Some 1000 })))
    ∷ (codes "tc qdisc add dev e root fq_codel target 1usec", at_root (kind.FqCodel (record no_fq_codel_options { target = Some 1000 })))
    ∷ (codes "tc qdisc add dev e root fq_codel target 1usecs", at_root (kind.FqCodel (record no_fq_codel_options { target = Some 1000 })))
    ∷ (codes "tc qdisc add dev e root fq_codel target 1ms", at_root (kind.FqCodel (record no_fq_codel_options { target = Some 1000000 })))
    ∷ (codes "tc qdisc add dev e root fq_codel target 1msec", at_root (kind.FqCodel (record no_fq_codel_options { target = Some 1000000 })))
    ∷ (codes "tc qdisc add dev e root fq_codel target 1msecs", at_root (kind.FqCodel (record no_fq_codel_options { target = Some 1000000 })))
    ∷ (codes "tc qdisc add dev e root fq_codel target 1s", at_root (kind.FqCodel (record no_fq_codel_options { target = Some 1000000000 })))
    ∷ (codes "tc qdisc add dev e root fq_codel target 1sec", at_root (kind.FqCodel (record no_fq_codel_options { target = Some 1000000000 })))
    ∷ (codes "tc qdisc add dev e root fq_codel target 1secs", at_root (kind.FqCodel (record no_fq_codel_options { target = Some 1000000000 })))
    ∷ (codes "tc qdisc add dev e root fq_codel target 1MS", at_root (kind.FqCodel (record no_fq_codel_options { target = Some 1000000 })))
    ∷ (codes "tc qdisc add dev e root fq_codel target 1Sec", at_root (kind.FqCodel (record no_fq_codel_options { target = Some 1000000000 })))
    ∷ (codes "tc qdisc add dev e root fq_codel target 0.5", at_root (kind.FqCodel (record no_fq_codel_options { target = Some 500 })))
    ∷ (codes "tc qdisc add dev e root fq_codel target 0.5us", at_root (kind.FqCodel (record no_fq_codel_options { target = Some 500 })))
    ∷ (codes "tc qdisc add dev e root fq_codel target 0.0005us", at_root (kind.FqCodel (record no_fq_codel_options { target = Some 0 })))
    ∷ (codes "tc qdisc add dev e root fq_codel target 0.1234567us", at_root (kind.FqCodel (record no_fq_codel_options { target = Some 123 })))
    ∷ (codes "tc qdisc add dev e root fq_codel target 0.0000019ms", at_root (kind.FqCodel (record no_fq_codel_options { target = Some 1 })))
    ∷ (codes "tc qdisc add dev e root fq_codel target 0.000000001s", at_root (kind.FqCodel (record no_fq_codel_options { target = Some 1 })))
    ∷ (codes "tc qdisc add dev e root fq_codel target 1000.000000001s", Err (fault.OutOfRange 9))
    ∷ (codes "tc qdisc add dev e root fq_codel target 1ns", Err (fault.BadNumber 9))
    ∷ (codes "tc qdisc add dev e root fq_codel target 1m", Err (fault.BadNumber 9))
    ∷ (codes "tc qdisc add dev e root fq_codel target 1min", Err (fault.BadNumber 9))
    ∷ (codes "tc qdisc add dev e root fq_codel target 1secss", Err (fault.BadNumber 9))
    ∷ (codes "tc qdisc add dev e root fq_codel target s", Err (fault.BadNumber 9))
    ∷ []

times_are_read : AreRead times
unfolding line_rules
times_are_read = refl

-- the other options that have a unit, and numbers that have none
abbrev units_of_every_option : List Row
units_of_every_option =
    (codes "tc qdisc add dev e root tbf rate 8kbit buffer 2kb latency 70ms", at_root (kind.Tbf 8000 2048 (tbf_limit.Latency 70000000)))
    ∷ (codes "tc qdisc add dev e root tbf rate 1kbps maxburst 1.5k limit 32kbit", at_root (kind.Tbf 8000 1536 (tbf_limit.Bytes 4096)))
    ∷ (codes "tc qdisc add dev e root fq_codel quantum 1.5kb interval 0.1s", at_root (kind.FqCodel (record no_fq_codel_options { quantum = Some 1536; interval = Some 100000000 })))
    ∷ (codes "tc qdisc add dev e root fq_codel quantum 1kbit interval 1.5", at_root (kind.FqCodel (record no_fq_codel_options { quantum = Some 128; interval = Some 1500 })))
    ∷ (codes "tc class add dev e parent 1: classid 1:1 drr quantum 1.5kb", Ok (line.Tc (command.ClassAdd 1 (class_id 1 1) (Some 1536))))
    ∷ (codes "tc class change dev e classid 1:1 drr quantum 0.5", Err (fault.OutOfRange 10))
    ∷ (codes "tc qdisc add dev e root pfifo limit 1k", Err (fault.BadNumber 9))
    ∷ (codes "tc qdisc add dev e root fq_codel limit 1k", Err (fault.BadNumber 9))
    ∷ (codes "tc qdisc add dev e root fq_codel flows 1k", Err (fault.BadNumber 9))
    ∷ (codes "tc qdisc add dev e root fq_codel drop_batch 1.0", Err (fault.BadNumber 9))
    ∷ (codes "tc qdisc add dev e root prio bands 3b", Err (fault.BadNumber 9))
    ∷ (codes "pkt 1k", Err (fault.BadNumber 2))
    ∷ (codes "at 1us", Err (fault.BadNumber 2))
    ∷ (codes "poll 1.0", Err (fault.BadNumber 2))
    ∷ []

units_of_every_option_are_read : AreRead units_of_every_option
unfolding line_rules
units_of_every_option_are_read = refl

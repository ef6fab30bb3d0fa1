use Rattle.std.proofs.Common.{rules, codes, pos, true, ◌≡◌}
use Rattle.clap.specs.declared.builder.value_parser.ValueParser.TheVariants.{Signed}
use Rattle.q_options.proofs.Chains.{number_makes, then}
use Rattle.q_options.proofs.command_line.with_load.Goals as goal

pub returns : goal.returns
returns c =
    let senders : c.range-range.result ≡ Signed (pos 1) (pos 64) = search rules in
    let count : c.range-range-2.result ≡ Signed (pos 0) (pos 1000000) = search rules in
    let len : c.range-range-3.result ≡ Signed (pos 1) (pos 65535) = search rules in
    let ring : c.range-range-4.result ≡ Signed (pos 1) (pos 65536) = search rules in
    then _ _ _ _ _
    (then _ _ _ _ _
    (then _ _ _ _ _ (number_makes (codes "senders") _ _ true _ _ senders c.with_number-command.ensures) (number_makes (codes "count") _ _ true _ _ count c.with_number-command-2.ensures))
    (number_makes (codes "len") _ _ true _ _ len c.with_number-command-3.ensures))
    (number_makes (codes "ring") _ _ true _ _ ring c.with_number.ensures)

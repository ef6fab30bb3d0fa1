use Rattle.std.proofs.Common.{rules, codes, pos, false, ◌≡◌}
use Rattle.clap.specs.declared.builder.value_parser.ValueParser.TheVariants.{Signed}
use Rattle.q_options.proofs.Chains.{number_makes, then}
use Rattle.q_options.proofs.command_line.with_device.Goals as goal

pub returns : goal.returns
returns c =
    let mtu : c.range-range.result ≡ Signed (pos 1) (pos 65535) = search rules in
    let any : c.value_parser-any.result ≡ Signed (pos 0) (pos 4294967295) = search rules in
    let recorder : c.range-range-2.result ≡ Signed (pos 0) (pos 1000000) = search rules in
    then _ _ _ _ _
    (then _ _ _ _ _
    (then _ _ _ _ _ (number_makes (codes "mtu") _ _ false _ _ mtu c.with_number-command.ensures) (number_makes (codes "txqueuelen") _ _ false _ _ any c.with_number-command-2.ensures))
    (number_makes (codes "seed") _ _ false _ _ any c.with_number-command-3.ensures))
    (number_makes (codes "record") _ _ false _ _ recorder c.with_number.ensures)

use Rattle.std.proofs.Common.{rules, Some, false, ◌≡◌}
use Rattle.clap.specs.Words.{rule_of}
use Rattle.q_options.specs.CommandLine.{number_named}
use Rattle.q_options.proofs.Chains.{arg_makes}
use Rattle.q_options.proofs.command_line.with_number.Goals as goal

pub returns : goal.returns
returns c =
    let rule : rule_of c.required-number.result ≡ record (number_named c.args.name.now) { parser = Some c.args.range; required = c.args.needed } = search rules in
    let local : c.required-number.result.global ≡ false = search rules in
    arg_makes c.required-number.result _ c.args.command c.with.result rule local c.with.ensures

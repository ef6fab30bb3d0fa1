use Rattle.std.proofs.Common.{Ok}
use Rattle.clap.specs.Words.{with_subcommand}
use Rattle.q_options.specs.CommandLine.{bare_program, drive_app, play_app}
use Rattle.q_options.proofs.Chains.{with_command}
use Rattle.q_options.proofs.command_line.qtree.Goals as goal

pub returns : goal.returns
returns c =
    let play =
    with_command bare_program play_app (Ok c.bare.result) c.play.result c.with_subcommand-qtree.result c.bare.ensures c.play.ensures.app
    c.play.ensures.local c.with_subcommand-qtree.ensures in
    with_command (with_subcommand bare_program play_app.top) drive_app c.with_subcommand-qtree.result c.drive.result c.with_subcommand.result play
    c.drive.ensures.app c.drive.ensures.local c.with_subcommand.ensures

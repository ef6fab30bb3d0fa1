use Rattle.std.proofs.Common.{rules, codes, false, ◌≡◌, Result, Ok}
use Rattle.std.specs.declared.alloc.AllocError.{AllocError}
use Rattle.clap.specs.Words.{App, app_of, new_app, with_rule}
use Rattle.clap.specs.declared.Command.TheViews.{out-Command as fields_of}
use Rattle.clap.specs.declared.builder.command.Command.{Command}
use Rattle.q_options.specs.CommandLine.{file_rule, flag_rule}
use Rattle.q_options.specs.CommandLine as spec
use Rattle.q_options.proofs.Chains.{Makes, arg_makes, made_app, made_local, then}
use Rattle.q_options.proofs.command_line.play.Goals as goal

abbrev explained : App → App
explained x = with_rule x (flag_rule (codes "explain"))

abbrev of_file : App → App
of_file x = with_rule x file_rule

whole : (first device explain file : Result Command AllocError) → Makes spec.with_device first device → Makes explained device explain
    → Makes of_file explain file → Makes (λ x. of_file (explained (spec.with_device x))) first file
whole first device explain file d e f = then (λ x. explained (spec.with_device x)) of_file first explain file (then spec.with_device explained first device explain d e) f

pub returns-clause-app : goal.returns-clause-app
returns-clause-app c =
    let command : app_of c.after_help-play.result ≡ new_app (codes "play") = search rules in
    let explain = arg_makes c.explain_flag.result (flag_rule (codes "explain")) c.with_device-play.result c.with-play.result c.explain_flag.ensures.rule c.explain_flag.ensures.local c.with-play.ensures in
    let file = arg_makes c.file.result file_rule c.with-play.result c.with.result c.file.ensures.rule c.file.ensures.local c.with.ensures in
    made_app (λ x. of_file (explained (spec.with_device x))) c.after_help-play.result (new_app (codes "play")) c.with.result command
    (whole (Ok c.after_help-play.result) c.with_device-play.result c.with-play.result c.with.result c.with_device-play.ensures explain file)

pub returns-clause-local : goal.returns-clause-local
returns-clause-local c =
    let command : (fields_of c.after_help-play.result).has_globals ≡ false = search rules in
    let explain = arg_makes c.explain_flag.result (flag_rule (codes "explain")) c.with_device-play.result c.with-play.result c.explain_flag.ensures.rule c.explain_flag.ensures.local c.with-play.ensures in
    let file = arg_makes c.file.result file_rule c.with-play.result c.with.result c.file.ensures.rule c.file.ensures.local c.with.ensures in
    made_local (λ x. of_file (explained (spec.with_device x))) c.after_help-play.result c.with.result command
    (whole (Ok c.after_help-play.result) c.with_device-play.result c.with-play.result c.with.result c.with_device-play.ensures explain file)

use Rattle.std.proofs.Common.{rules, codes, false, ◌≡◌, Result, Ok}
use Rattle.std.specs.declared.alloc.AllocError.{AllocError}
use Rattle.clap.specs.Words.{App, app_of, new_app, with_rule}
use Rattle.clap.specs.declared.Command.TheViews.{out-Command as fields_of}
use Rattle.clap.specs.declared.builder.command.Command.{Command}
use Rattle.q_options.specs.CommandLine.{flag_rule}
use Rattle.q_options.specs.CommandLine as spec
use Rattle.q_options.proofs.Chains.{Makes, arg_makes, made_app, made_local, then}
use Rattle.q_options.proofs.command_line.drive.Goals as goal

abbrev until_idle : App → App
until_idle x = with_rule x (flag_rule (codes "until-idle"))

abbrev shown : App → App
shown x = with_rule x (flag_rule (codes "show"))

abbrev explained : App → App
explained x = with_rule x (flag_rule (codes "explain"))

abbrev all : App → App
all x = explained (spec.with_device (shown (until_idle (spec.with_load x))))

whole : (first load idle show device explain : Result Command AllocError) → Makes spec.with_load first load → Makes until_idle load idle → Makes shown idle show → Makes spec.with_device show device
    → Makes explained device explain → Makes all first explain
whole first load idle show device explain l i s d e =
    then (λ x. spec.with_device (shown (until_idle (spec.with_load x)))) explained first device explain
    (then (λ x. shown (until_idle (spec.with_load x))) spec.with_device first show device
    (then (λ x. until_idle (spec.with_load x)) shown first idle show (then spec.with_load until_idle first load idle l i) s) d) e

pub returns-clause-app : goal.returns-clause-app
returns-clause-app c =
    let command : app_of c.after_help-drive.result ≡ new_app (codes "drive") = search rules in
    let idle = arg_makes c.flag.result (flag_rule (codes "until-idle")) c.with_load-drive.result c.with-drive.result c.flag.ensures.rule c.flag.ensures.local c.with-drive.ensures in
    let show = arg_makes c.flag-2.result (flag_rule (codes "show")) c.with-drive.result c.with-drive-2.result c.flag-2.ensures.rule c.flag-2.ensures.local c.with-drive-2.ensures in
    let explain = arg_makes c.explain_flag.result (flag_rule (codes "explain")) c.with_device-drive.result c.with.result c.explain_flag.ensures.rule c.explain_flag.ensures.local c.with.ensures in
    made_app all c.after_help-drive.result (new_app (codes "drive")) c.with.result command
    (whole (Ok c.after_help-drive.result) c.with_load-drive.result c.with-drive.result c.with-drive-2.result c.with_device-drive.result c.with.result
    c.with_load-drive.ensures idle show c.with_device-drive.ensures explain)

pub returns-clause-local : goal.returns-clause-local
returns-clause-local c =
    let command : (fields_of c.after_help-drive.result).has_globals ≡ false = search rules in
    let idle = arg_makes c.flag.result (flag_rule (codes "until-idle")) c.with_load-drive.result c.with-drive.result c.flag.ensures.rule c.flag.ensures.local c.with-drive.ensures in
    let show = arg_makes c.flag-2.result (flag_rule (codes "show")) c.with-drive.result c.with-drive-2.result c.flag-2.ensures.rule c.flag-2.ensures.local c.with-drive-2.ensures in
    let explain = arg_makes c.explain_flag.result (flag_rule (codes "explain")) c.with_device-drive.result c.with.result c.explain_flag.ensures.rule c.explain_flag.ensures.local c.with.ensures in
    made_local all c.after_help-drive.result c.with.result command
    (whole (Ok c.after_help-drive.result) c.with_load-drive.result c.with-drive.result c.with-drive-2.result c.with_device-drive.result c.with.result
    c.with_load-drive.ensures idle show c.with_device-drive.ensures explain)

use Rattle.std.proofs.Common.{◌≡◌, ◌∙◌, List, ap, drop, if◌then◌else◌}
use Rattle.std.specs.Prelude.{not}
use Rattle.q_model.specs.declared.command.Command.{Command}
use Rattle.q_setup.specs.Anew.{emptying, has_explicit_root}
use Rattle.q_setup.specs.Trying.{seen}
use Rattle.q_setup.proofs.RebuiltLemmas.{memory_alone, trees_alike}
use Rattle.q_setup.proofs.rebuilding.rebuild.Goals as goal

pub returns-clause-memory : goal.returns-clause-memory
returns-clause-memory c =
    let explicit = has_explicit_root c.args.device.now.device in
    let is : c.to_do-anew.result.now ≡ emptying explicit c.args.trial.now.commands.items =
    c.to_do-anew.ensures ∙ ap (λ (xs : List Command). if explicit then drop 1 xs else xs) c.requires.anew in
    memory_alone c.args.now (seen c.args.trial.now) c.to_do-anew.result.now c.args.device.now c.do_commands-done.new.device c.requires.trial c.device_is_replayed.ensures.all
    is c.do_commands-done.result.0 c.do_commands-done.ensures.after c.do_commands-done.result.1 c.do_commands-done.ensures.refused

pub returns-clause-alike : goal.returns-clause-alike
returns-clause-alike c none =
    let explicit = has_explicit_root c.args.device.now.device in
    let is : c.to_do-anew.result.now ≡ emptying explicit c.args.trial.now.commands.items =
    c.to_do-anew.ensures ∙ ap (λ (xs : List Command). if explicit then drop 1 xs else xs) c.requires.anew in
    trees_alike c.args.now (seen c.args.trial.now) c.to_do-anew.result.now c.args.device.now c.do_commands-done.new.device c.requires.trial c.device_is_replayed.ensures.all
    is c.do_commands-done.result.0 c.do_commands-done.ensures.after (not c.args.trial.now.names_chosen) (c.do_commands-done.ensures.all none)

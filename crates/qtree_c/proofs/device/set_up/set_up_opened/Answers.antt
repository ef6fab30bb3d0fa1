use Rattle.std.proofs.Common.{◌≡◌, ◌<◌, ◌∙◌, ℕ, List, rules, ap, ap₂, length, max, subst}
use Rattle.q_model.specs.declared.command.Command.{Command}
use Rattle.q_setup.specs.SetUp.{wanted}
use Rattle.q_setup.specs.declared.trial.Undone.{Undone}
use Rattle.qtree_c.specs.device.SettingUp.{commands_at, told_undone}
use Rattle.qtree_c.specs.events.Noting.{noting}
use Rattle.qtree_c.specs.declared.abi.c_report.CReport.{CReport}
use Rattle.qtree_c.proofs.device.SettingUpLemmas.{done_unless, other_answers, set_up_by, some_undone}
use Rattle.qtree_c.proofs.device.set_up.set_up_opened.Goals as goal

pub returns : goal.returns
returns c =
    let r = c.in-Ok.done in
    let code = c.code_of.result in
    let told = c.code_of.ensures in
    let t = wanted c.args.opened.now.device c.args.text.now c.args.now in
    let lines : r.undone.items ≡ t.undone = c.in-Ok.ensures.lines in
    let counted : c.max-at.result ≡ max c.args.opened.now.device.device.clock c.args.now = search rules in
    record {
      commands = r.commands.items;
      device = search rules;
      accepted = search rules;
      noted = c.note_commands.ensures ∙ ap₂ (λ (at : ℕ) (cs : List Command). noting (commands_at at cs) c.args.opened.now.last) counted c.deref.ensures.value;
      added = search rules;
      changed = search rules;
      deleted = search rules;
      codes = other_answers r code told.done told.memory told.undone;
      done = set_up_by r code told.done told.memory told.undone t c.set_up.new.device c.in-Ok.ensures.set_up;
      complete = λ none. done_unless r code told.done told.memory told.undone r.undone.items c.in-Ok.ensures.done (lines ∙ none);
      again = search rules;
      kept = λ already _. told.done (c.in-Ok.ensures.kept already);
      refused = λ is. c.in-Ok.ensures.untouched (some_undone r code told.done told.memory told.undone r.undone.items c.in-Ok.ensures.done is);
      faulty = λ is. subst (λ (us : List Undone). 0 < length us) lines (some_undone r code told.done told.memory told.undone r.undone.items c.in-Ok.ensures.done is);
      lines = λ _. ap (λ (x : CReport). x.lines) c.of.ensures ∙ c.in-Ok.ensures.number;
      undone = λ _. ap (λ (x : CReport). x.undone) c.of.ensures ∙ ap (λ (us : List Undone). length us) lines;
      told = λ _. c.tell.ensures ∙ ap (λ (us : List Undone). told_undone us c.args.undone.now) (c.deref-2.ensures.value ∙ lines);
    }

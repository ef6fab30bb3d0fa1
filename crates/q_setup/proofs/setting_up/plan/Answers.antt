use Rattle.std.proofs.Common.{◌≡◌, ◌∙◌, List, [], IfOk, ap, sym, subst, not}
use Rattle.q_model.specs.Tally.{Counts}
use Rattle.q_model.specs.TreeState.{TreeState}
use Rattle.q_tree.specs.Kept.{Kept}
use Rattle.q_setup.specs.Alike.{AreAlike, Entry, entries}
use Rattle.q_setup.proofs.EntryLemmas.{entries-seen}
use Rattle.q_setup.proofs.setting_up.plan.Goals as goal

pub returns : goal.returns
returns c =
    let keep = not c.args.trial.now.names_chosen in
    let counts : Kept → Counts = λ k. k.counts in
    let wanted = sym (entries-seen counts c.tree.result.now.tree) ∙ ap (λ (s : TreeState Counts). entries s) c.tree.ensures.numbers in
    let tree = sym (entries-seen counts c.tree-2.result.now.tree) ∙ ap (λ (s : TreeState Counts). entries s) c.tree-2.ensures.numbers in
    subst (λ (w : List Entry). IfOk c.planned.result (λ commands. AreAlike keep w (entries c.args.device.now.device.tree) → commands.items ≡ [])) wanted
    (subst (λ (v : List Entry). IfOk c.planned.result (λ commands. AreAlike keep (entries c.tree.result.now.tree) v → commands.items ≡ [])) tree c.planned.ensures)

use Rattle.std.proofs.Common.{◌∙◌, ap, not, sym}
use Rattle.q_model.specs.Tally.{Counts}
use Rattle.q_model.specs.TreeState.{TreeState}
use Rattle.q_tree.specs.Kept.{Kept}
use Rattle.q_setup.specs.Alike.{entries}
use Rattle.q_setup.proofs.AlikeLemmas.{alike_with}
use Rattle.q_setup.proofs.EntryLemmas.{entries-seen}
use Rattle.q_setup.proofs.carrying_out.is_made.Goals as goal

pub returns-clause-alike : goal.returns-clause-alike
returns-clause-alike c alike =
    let wanted = c.tree.result.now.tree in
    let tree = c.tree-2.result.now.tree in
    let counts : Kept → Counts = λ k. k.counts in
    alike_with (not c.args.trial.now.names_chosen) (entries wanted) (entries c.args.trial.now.device.device.tree) (entries tree) (entries c.args.device.now.device.tree)
    (c.are_alike.ensures.alike alike)
    (sym (ap (λ (s : TreeState Counts). entries s) c.tree.ensures.numbers) ∙ entries-seen counts wanted)
    (sym (ap (λ (s : TreeState Counts). entries s) c.tree-2.ensures.numbers) ∙ entries-seen counts tree)

pub returns-clause-told : goal.returns-clause-told
returns-clause-told c alike =
    let wanted = c.tree.result.now.tree in
    let tree = c.tree-2.result.now.tree in
    let counts : Kept → Counts = λ k. k.counts in
    c.are_alike.ensures.told (alike_with (not c.args.trial.now.names_chosen) (entries c.args.trial.now.device.device.tree) (entries wanted) (entries c.args.device.now.device.tree) (entries tree)
    alike
    (sym (entries-seen counts wanted) ∙ ap (λ (s : TreeState Counts). entries s) c.tree.ensures.numbers)
    (sym (entries-seen counts tree) ∙ ap (λ (s : TreeState Counts). entries s) c.tree-2.ensures.numbers))

use Rattle.std.proofs.Common.{◌≡◌, ◌∙◌, sym, ap, Some}
use Rattle.std.specs.List.{fold}
use Rattle.q_model.specs.Node.{Node}
use Rattle.q_tree.specs.commands.Index.{added, listed, own_address}
use Rattle.q_tree.specs.Kept.{Kept}
use Rattle.q_tree.proofs.commands.IndexLemmas.{listed-insert}
use Rattle.q_tree.proofs.commands.handles.add_own.Goals as goal

pub returns-clause-added : goal.returns-clause-added
returns-clause-added c =
    let es = c.args.ways.now.entries in
    let handle : c.args.node.now.own.handle ≡ Some c.in-Some.handle = sym (ap (λ (n : Node Kept). n.own.handle) c.node.view_is) ∙ c.in-Some.is in
    ap listed c.in-Ok.ensures.entries
    ∙ listed-insert es c.major.result c.copied.result
    ∙ (λ i. added (listed es) (record { handle = c.major.ensures.value i; path = c.copied.ensures i }))
    ∙ ap (λ o. fold added (listed es) (own_address c.args.path.now.items o)) (sym handle)

use Rattle.std.proofs.Common.{◌∙◌, ◌∷◌, [], sym, ap, option_copied}
use Rattle.std.specs.Prelude.{slice_get}
use Rattle.q_tree.specs.answers.Nodes.{behind}
use Rattle.q_tree.proofs.answers.NodesLemmas.{children_from-none, children_from-some}
use Rattle.q_tree.proofs.answers.ShowLemmas.{child-numbered}
use Rattle.q_tree.proofs.node.Node.child_from.Goals as goal

pub returns-in_err-child-clause-end : goal.returns-in_err-child-clause-end
returns-in_err-child-clause-end c = λ _.
    children_from-none c.args.self.now c.args.i
    (sym (ap (λ ns. slice_get ns c.args.i) c.children.ensures) ∙ sym c.child_at.ensures ∙ ap (λ o. option_copied o) c.in_err-child.was)

pub returns-clause-found : goal.returns-clause-found
returns-clause-found c =
    children_from-some c.args.self.now c.args.i c.in_ok-child.child.now
    (sym (ap (λ ns. slice_get ns c.args.i) c.children.ensures) ∙ sym c.child_at.ensures ∙ ap (λ o. option_copied o) c.in_ok-child.was)
    ∙ ap (λ p. (p, c.in_ok-child.child.now) ∷ behind (c.args.i ∷ []) c.args.self.now) (sym c.place_beneath.ensures)

pub returns-clause-numbered : goal.returns-clause-numbered
returns-clause-numbered c =
    child-numbered c.args.self.now c.children.result.now c.args.i c.in_ok-child.child.now c.requires.numbered c.children.ensures
    (sym c.child_at.ensures ∙ ap (λ o. option_copied o) c.in_ok-child.was)

use Rattle.std.proofs.Common.{◌∙◌, ◌∷◌, sym, ap}
use Rattle.q_model.specs.declared.place.Place.TheVariants as place
use Rattle.q_tree.specs.answers.Nodes.{behind}
use Rattle.q_tree.specs.answers.NodesSeen.{left_behind}
use Rattle.q_tree.proofs.answers.NodesLemmas.{behind-nil}
use Rattle.q_tree.proofs.answers.nodes.Nodes.next.Goals as goal

pub returns-in_default-clause-found : goal.returns-in_default-clause-found
returns-in_default-clause-found c =
    let root = c.self.inside.root.now in
    sym c.self.view_is
    ∙ ap (λ l. left_behind l root) c.in_default.is
    ∙ ap (λ xs. (place.Root, root) ∷ xs) (sym (behind-nil root) ∙ ap (λ way. behind way root) (sym c.new.ensures))
    ∙ ap (λ x. x ∷ behind c.new.result.items root) (sym c.new-in_default.ensures)

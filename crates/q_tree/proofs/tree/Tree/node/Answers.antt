use Rattle.std.proofs.Common.{◌∙◌, sym, ap, Some, option_map}
use Rattle.q_model.specs.declared.place.Place.{Place}
use Rattle.q_model.specs.Node.{Node}
use Rattle.q_model.specs.Views.{node_view}
use Rattle.q_tree.specs.Kept.{Kept, kept}
use Rattle.q_tree.proofs.answers.ShowLemmas.{node-shown}
use Rattle.q_tree.proofs.tree.Tree.node.Goals as goal

pub returns-in_default : goal.returns-in_default
returns-in_default c =
    ap (option_map (λ (y : Place × Node Kept). node_view kept y.0 y.1)) (sym (ap (option_map (λ x. (x.0, x.1.now))) c.in_default.is) ∙ c.nth.ensures.found)
    ∙ node-shown c.args.self.now.tree c.args.i

pub returns : goal.returns
returns c =
    ap Some c.view.ensures
    ∙ ap (option_map (λ (y : Place × Node Kept). node_view kept y.0 y.1)) (sym (ap (option_map (λ x. (x.0, x.1.now))) c.in-Some.is) ∙ c.nth.ensures.found)
    ∙ node-shown c.args.self.now.tree c.args.i

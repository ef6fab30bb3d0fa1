use Rattle.std.proofs.Common.{◌∙◌, sym, ap, None, Some, option_map}
use Rattle.std.specs.Prelude.{slice_get}
use Rattle.q_model.specs.Node.{Node}
use Rattle.q_model.specs.Views.{filter_views}
use Rattle.q_tree.specs.Kept.{Kept}
use Rattle.q_tree.proofs.answers.ShowLemmas.{of-node}
use Rattle.q_tree.proofs.tree.Tree.filter.Goals as goal

pub returns-in_default : goal.returns-in_default
returns-in_default c =
    of-node (λ (n : Node Kept). slice_get (filter_views n) c.args.j) c.args.self.now.tree.root c.args.i None
    (sym (ap (option_map (λ x. (x.0, x.1.now))) c.in_default.is) ∙ c.nth.ensures.found)

pub returns : goal.returns
returns c =
    c.filter_view.ensures
    ∙ of-node (λ (n : Node Kept). slice_get (filter_views n) c.args.j) c.args.self.now.tree.root c.args.i (Some (c.in-Some.field-0-0, c.in-Some.node.now))
    (sym (ap (option_map (λ x. (x.0, x.1.now))) c.in-Some.is) ∙ c.nth.ensures.found)

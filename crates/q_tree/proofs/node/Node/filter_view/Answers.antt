use Rattle.std.proofs.Common.{◌∙◌, ℕ, sym, ap, option_map, option_and_then}
use Rattle.std.specs.Prelude.{slice_get}
use Rattle.q_model.specs.declared.filter.Filter.{Filter}
use Rattle.q_model.specs.declared.filter_view.FilterView.{FilterView}
use Rattle.q_model.specs.Node.{Node}
use Rattle.q_tree.specs.Kept.{Kept}
use Rattle.q_tree.proofs.answers.ShowLemmas.{by-handle}
use Rattle.q_tree.proofs.node.Node.filter_view.Goals as goal

abbrev with_parent : Filter → ℕ → FilterView
with_parent f parent = record { parent = parent; filter = f }

pub returns-in_err-parent : goal.returns-in_err-parent
returns-in_err-parent c =
    c.from_residual.ensures
    ∙ sym (by-handle with_parent c.args.self.now.own.handle c.args.self.now.own.filters c.args.j
    ∙ ap (option_and_then (λ h. option_map (λ f. with_parent f h) (slice_get c.args.self.now.own.filters c.args.j))) (ap (λ (n : Node Kept). n.own.handle) (sym c.self.view_is) ∙ c.in_err-parent.was))

pub returns-in_err-filter : goal.returns-in_err-filter
returns-in_err-filter c =
    c.from_residual-in_err-filter.ensures
    ∙ sym (by-handle with_parent c.args.self.now.own.handle c.args.self.now.own.filters c.args.j
    ∙ ap (option_and_then (λ h. option_map (λ f. with_parent f h) (slice_get c.args.self.now.own.filters c.args.j))) (ap (λ (n : Node Kept). n.own.handle) (sym c.self.view_is) ∙ c.in_ok-parent.was)
    ∙ ap (λ (n : Node Kept). option_map (λ f. with_parent f c.in_ok-parent.parent) (slice_get n.own.filters c.args.j)) (sym c.self.view_is)
    ∙ ap (λ fs. option_map (λ f. with_parent f c.in_ok-parent.parent) (slice_get fs c.args.j)) (sym c.all.ensures)
    ∙ ap (option_map (λ f. with_parent f c.in_ok-parent.parent)) (sym c.filter_at.ensures ∙ c.in_err-filter.was))

pub returns : goal.returns
returns c =
    sym (by-handle with_parent c.args.self.now.own.handle c.args.self.now.own.filters c.args.j
    ∙ ap (option_and_then (λ h. option_map (λ f. with_parent f h) (slice_get c.args.self.now.own.filters c.args.j))) (ap (λ (n : Node Kept). n.own.handle) (sym c.self.view_is) ∙ c.in_ok-parent.was)
    ∙ ap (λ (n : Node Kept). option_map (λ f. with_parent f c.in_ok-parent.parent) (slice_get n.own.filters c.args.j)) (sym c.self.view_is)
    ∙ ap (λ fs. option_map (λ f. with_parent f c.in_ok-parent.parent) (slice_get fs c.args.j)) (sym c.all.ensures)
    ∙ ap (option_map (λ f. with_parent f c.in_ok-parent.parent)) (sym c.filter_at.ensures ∙ c.in_ok-filter.was))

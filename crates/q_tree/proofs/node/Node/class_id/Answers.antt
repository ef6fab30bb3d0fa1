use Rattle.std.proofs.Common.{◌∙◌, ℕ, sym, ap, length, option_map, option_and_then}
use Rattle.std.specs.Prelude.{slice_get}
use Rattle.q_model.specs.declared.class_id.ClassId.{ClassId}
use Rattle.q_model.specs.Node.{Node, children}
use Rattle.q_model.specs.Views.{minors}
use Rattle.q_tree.specs.Kept.{Kept}
use Rattle.q_tree.proofs.answers.ShowLemmas.{by-handle}
use Rattle.q_tree.proofs.node.Node.class_id.Goals as goal

abbrev with_major : ℕ → ℕ → ClassId
with_major minor major = record { major = major; minor = minor }

pub returns-in_err-major : goal.returns-in_err-major
returns-in_err-major c =
    let ms = minors (length (children c.args.self.now)) c.args.self.now.own.discipline in
    c.from_residual.ensures
    ∙ sym (by-handle with_major c.args.self.now.own.handle ms c.args.i
    ∙ ap (option_and_then (λ h. option_map (λ m. with_major m h) (slice_get ms c.args.i))) (ap (λ (n : Node Kept). n.own.handle) (sym c.self.view_is) ∙ c.in_err-major.was))

pub returns-in_err-minor : goal.returns-in_err-minor
returns-in_err-minor c =
    let ms = minors (length (children c.args.self.now)) c.args.self.now.own.discipline in
    c.from_residual-in_err-minor.ensures
    ∙ sym (by-handle with_major c.args.self.now.own.handle ms c.args.i
    ∙ ap (option_and_then (λ h. option_map (λ m. with_major m h) (slice_get ms c.args.i))) (ap (λ (n : Node Kept). n.own.handle) (sym c.self.view_is) ∙ c.in_ok-major.was)
    ∙ ap (option_map (λ m. with_major m c.in_ok-major.major)) (sym c.minor.ensures ∙ c.in_err-minor.was))

pub returns : goal.returns
returns c =
    let ms = minors (length (children c.args.self.now)) c.args.self.now.own.discipline in
    sym (by-handle with_major c.args.self.now.own.handle ms c.args.i
    ∙ ap (option_and_then (λ h. option_map (λ m. with_major m h) (slice_get ms c.args.i))) (ap (λ (n : Node Kept). n.own.handle) (sym c.self.view_is) ∙ c.in_ok-major.was)
    ∙ ap (option_map (λ m. with_major m c.in_ok-major.major)) (sym c.minor.ensures ∙ c.in_ok-minor.was))

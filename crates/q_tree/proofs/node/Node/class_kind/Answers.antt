use Rattle.std.proofs.Common.{◌∙◌, sym, ap, Some, None}
use Rattle.q_drr.specs.Schedule.{is_active, quantum_of, deficit_of}
use Rattle.q_model.specs.declared.class_kind.ClassKind.TheVariants as class
use Rattle.q_model.specs.Node.{Node}
use Rattle.q_model.specs.Views.{class_kind}
use Rattle.q_tree.specs.Kept.{Kept}
use Rattle.q_tree.specs.Seen.{discipline_seen}
use Rattle.q_tree.proofs.answers.ShowLemmas.{class-asleep, class-awake}
use Rattle.q_tree.proofs.node.Node.class_kind.Goals as goal

pub returns-then-not-is_active : goal.returns-then-not-is_active
returns-then-not-is_active c =
    ap (λ q. class.Drr q None) (c.quantum-quantum.ensures ∙ ap (λ k. quantum_of k c.in-Drr.active.classes) c.number-class.ensures.value)
    ∙ class-asleep c.in-Drr.active c.args.minor (sym (c.if-not-is_active.ensures ∙ ap (λ k. is_active k c.in-Drr.active.active) c.number-class.ensures.value))
    ∙ sym (ap (λ d. class_kind (discipline_seen d) c.args.minor) c.in-Drr.is)
    ∙ ap (λ (n : Node Kept). class_kind n.own.discipline c.args.minor) c.self.view_is

pub returns-in-Drr : goal.returns-in-Drr
returns-in-Drr c =
    ap (λ q. class.Drr q (Some c.deficit.result)) (c.quantum-quantum.ensures ∙ ap (λ k. quantum_of k c.in-Drr.active.classes) c.number-class.ensures.value)
    ∙ ap (λ b. class.Drr (quantum_of c.args.minor c.in-Drr.active.classes) (Some b)) (c.deficit.ensures.value ∙ ap (λ k. deficit_of k c.in-Drr.active.active) c.number-class.ensures.value)
    ∙ class-awake c.in-Drr.active c.args.minor (sym (c.if-not-is_active.ensures ∙ ap (λ k. is_active k c.in-Drr.active.active) c.number-class.ensures.value))
    ∙ sym (ap (λ d. class_kind (discipline_seen d) c.args.minor) c.in-Drr.is)
    ∙ ap (λ (n : Node Kept). class_kind n.own.discipline c.args.minor) c.self.view_is

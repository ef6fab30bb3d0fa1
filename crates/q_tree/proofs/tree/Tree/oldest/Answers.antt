use Rattle.std.proofs.Common.{◌∙◌, sym, ap, subst, Some, None}
use Rattle.std.specs.Prelude.{option_copied}
use Rattle.q_model.specs.Step.{DeviceState}
use Rattle.q_tree.specs.answers.Finding.{qdisc_with}
use Rattle.q_tree.specs.answers.Oldest.{IsInOrder}
use Rattle.q_tree.specs.Kept.{Kept}
use Rattle.q_tree.proofs.answers.OldestLemmas.{root-order, class-order, class-oldest}
use Rattle.q_tree.proofs.tree.Tree.oldest.Goals as goal

pub oldest-requires : goal.oldest-requires
oldest-requires c = root-order c.self.inside c.self.invariant.device

pub returns-in_err-class-in-Class : goal.returns-in_err-class-in-Class
returns-in_err-class-in-Class c =
    c.from_residual-in_err-class-in-Class.ensures
    ∙ class-oldest c.args.self.now.tree c.args.place c.in-Class.id c.in_ok-find-in-Class.field-0.now None c.in-Class.is
    (sym (c.find.ensures ∙ ap (qdisc_with c.in-Class.id.major) c.qdiscs.ensures) ∙ ap option_copied c.in_ok-find-in-Class.was) (sym c.class.ensures ∙ ap option_copied c.in_err-class-in-Class.was)

pub oldest-requires-in-Class : goal.oldest-requires-in-Class
oldest-requires-in-Class c =
    class-order c.in-Class.id c.args.self.now.tree.root c.in_ok-find-in-Class.field-0.now c.in_ok-class-in-Class.field-0.now
    (sym (c.find.ensures ∙ ap (qdisc_with c.in-Class.id.major) c.qdiscs.ensures) ∙ ap option_copied c.in_ok-find-in-Class.was) (sym c.class.ensures ∙ ap option_copied c.in_ok-class-in-Class.was)
    (subst (λ (d : DeviceState Kept). IsInOrder d.tree.root) c.self.view_is (root-order c.self.inside c.self.invariant.device))

pub returns-in-Class : goal.returns-in-Class
returns-in-Class c =
    c.oldest-in-Class.ensures
    ∙ class-oldest c.args.self.now.tree c.args.place c.in-Class.id c.in_ok-find-in-Class.field-0.now (Some c.in_ok-class-in-Class.field-0.now) c.in-Class.is
    (sym (c.find.ensures ∙ ap (qdisc_with c.in-Class.id.major) c.qdiscs.ensures) ∙ ap option_copied c.in_ok-find-in-Class.was) (sym c.class.ensures ∙ ap option_copied c.in_ok-class-in-Class.was)

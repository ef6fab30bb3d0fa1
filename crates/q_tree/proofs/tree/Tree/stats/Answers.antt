use Rattle.std.proofs.Common.{◌∙◌, sym, ap, Some, None}
use Rattle.std.specs.Prelude.{option_copied}
use Rattle.q_tree.specs.answers.Finding.{qdisc_with}
use Rattle.q_tree.proofs.answers.StatsLemmas.{class-stats}
use Rattle.q_tree.proofs.tree.Tree.stats.Goals as goal

pub returns-in_err-class-in-Class : goal.returns-in_err-class-in-Class
returns-in_err-class-in-Class c =
    c.from_residual-in_err-class-in-Class.ensures
    ∙ class-stats c.args.self.now.tree c.args.place c.in-Class.id c.in_ok-find-in-Class.field-0.now None c.in-Class.is
    (sym (c.find.ensures ∙ ap (qdisc_with c.in-Class.id.major) c.qdiscs.ensures) ∙ ap option_copied c.in_ok-find-in-Class.was) (sym c.class.ensures ∙ ap option_copied c.in_err-class-in-Class.was)

pub returns-in-Class : goal.returns-in-Class
returns-in-Class c =
    ap Some c.row-in-Class.ensures
    ∙ class-stats c.args.self.now.tree c.args.place c.in-Class.id c.in_ok-find-in-Class.field-0.now (Some c.in_ok-class-in-Class.field-0.now) c.in-Class.is
    (sym (c.find.ensures ∙ ap (qdisc_with c.in-Class.id.major) c.qdiscs.ensures) ∙ ap option_copied c.in_ok-find-in-Class.was) (sym c.class.ensures ∙ ap option_copied c.in_ok-class-in-Class.was)

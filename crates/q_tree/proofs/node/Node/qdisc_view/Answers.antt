use Rattle.std.proofs.Common.{◌∙◌, ap, arith}
use Rattle.q_model.specs.declared.qdisc_view.QdiscView.TheVariants as qdisc
use Rattle.q_tree.proofs.answers.ShowLemmas.{few-bands, view-prio}
use Rattle.q_tree.proofs.node.Node.qdisc_view.Goals as goal

pub overflow_cast-result : goal.overflow_cast-result
overflow_cast-result c = omega (arith, c.len.ensures, few-bands c.self.inside c.args.self.now c.requires c.self.view_is c.in-Prio.priomap c.in-Prio.bands c.in-Prio.is)

pub returns-in-Prio : goal.returns-in-Prio
returns-in-Prio c =
    ap (λ k. qdisc.Prio k c.in-Prio.priomap) (c.len.ensures ∙ c.in-Prio.bands.ok.0)
    ∙ view-prio c.self.inside c.args.self.now c.requires c.self.view_is c.in-Prio.priomap c.in-Prio.bands c.in-Prio.is

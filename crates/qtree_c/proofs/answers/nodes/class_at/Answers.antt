use Rattle.std.proofs.Common.{◌∙◌, sym}
use Rattle.qtree_c.proofs.answers.Telling.{class-past, class-told}
use Rattle.qtree_c.proofs.answers.nodes.class_at.Goals as goal

pub returns-in-Some-clause-class : goal.returns-in-Some-clause-class
returns-in-Some-clause-class c =
    class-told c.args.index c.args.which c.args.view.now c.of.result c.in-Some.class c.args.device.now c.tree.result.now.tree c.tree.ensures.numbers (sym c.in-Some.is ∙ c.class.ensures) c.of.ensures

pub returns-in-None-clause-class : goal.returns-in-None-clause-class
returns-in-None-clause-class c =
    class-past c.args.index c.args.which c.args.view.now c.args.device.now c.tree.result.now.tree c.tree.ensures.numbers (sym c.in-None.is ∙ c.class.ensures)

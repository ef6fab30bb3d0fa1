use Rattle.std.proofs.Common.{◌∙◌, sym, ap}
use Rattle.q_tree.specs.answers.Finding.{reached}
use Rattle.q_tree.proofs.commands.TargetLemmas.{path-shape}
use Rattle.q_tree.proofs.commands.qdiscs.Qdiscs.qdisc.Goals as goal

pub returns : goal.returns
returns c = c.reached.ensures ∙ ap (reached c.args.self.now.root.now) (c.path_to.ensures ∙ sym (path-shape c.args.handle c.args.self.now.root.now))

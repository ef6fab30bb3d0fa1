use Rattle.std.proofs.Common.{◌∙◌, sym, ap}
use Rattle.q_tree.specs.Seen.{children_seen}
use Rattle.q_tree.proofs.answers.FindLemmas.{children-read}
use Rattle.q_tree.proofs.node.Node.children.Goals as goal

pub returns-in-Prio : goal.returns-in-Prio
returns-in-Prio c = children-read c.self.inside c.args.self.now c.deref.result.now c.self.view_is (c.deref.ensures.value ∙ sym (ap children_seen c.in-Prio.is))

pub returns-in-Drr : goal.returns-in-Drr
returns-in-Drr c = children-read c.self.inside c.args.self.now c.deref-in-Drr.result.now c.self.view_is (c.deref-in-Drr.ensures.value ∙ sym (ap children_seen c.in-Drr.is))

use Rattle.std.proofs.Common.{◌∙◌, ap, arith}
use Rattle.q_model.specs.Conserved.{every_node}
use Rattle.q_model.specs.Step.{DeviceState}
use Rattle.q_model.specs.Views.{views}
use Rattle.q_tree.specs.Kept.{Kept, kept}
use Rattle.q_tree.specs.TreeSeen.{tree_seen}
use Rattle.q_tree.proofs.answers.ShowLemmas.{every-standing, views-standing}
use Rattle.q_tree.proofs.arrival.TreePuts.{levels}
use Rattle.q_tree.proofs.tree.Tree.nodes.Goals as goal
use Rattle.q_tree.proofs.TreeLemmas.{lawful-root}

pub invariant_of-result : goal.invariant_of-result
invariant_of-result c = record {
  numbered = record {
    mtu = c.self.inside.mtu;
    clock = c.self.inside.clock;
    lawful = lawful-root c.self.inside c.self.invariant.device c.self.inside.clock (omega arith) c.self.invariant.device.keeps.moment;
  };
  levels = levels c.self.inside c.self.invariant.device;
}

pub returns-clause-views : goal.returns-clause-views
returns-clause-views c =
    views-standing (tree_seen c.self.inside).tree
    ∙ ap (λ (d : DeviceState Kept). views kept d.tree) c.self.view_is

pub returns-clause-every : goal.returns-clause-every
returns-clause-every c =
    every-standing c.self.inside.root
    ∙ ap (λ (d : DeviceState Kept). every_node d.tree.root) c.self.view_is

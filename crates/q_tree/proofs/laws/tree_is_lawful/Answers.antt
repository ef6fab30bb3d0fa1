use Rattle.std.proofs.Common.{subst}
use Rattle.q_model.specs.Lawful.{IsLawfulTree}
use Rattle.q_model.specs.Step.{DeviceState}
use Rattle.q_model.specs.Tally.{totals}
use Rattle.q_tree.specs.Kept.{Kept}
use Rattle.q_tree.specs.TreeSeen.{tree_numbers}
use Rattle.q_tree.proofs.TreeLemmas.{lawful-tree}
use Rattle.q_tree.proofs.laws.tree_is_lawful.Goals as goal

pub returns : goal.returns
returns c = subst (λ (d : DeviceState Kept). IsLawfulTree totals d.clock (tree_numbers d.tree)) c.tree.view_is (lawful-tree c.tree.inside c.tree.invariant.device)

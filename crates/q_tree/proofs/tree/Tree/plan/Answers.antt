use Rattle.std.proofs.Common.{◌≡◌, ◌∙◌, ℕ, Result, sym, ap, subst, arith}
use Rattle.q_invariants.specs.Kept.{IsLawfulRoot}
use Rattle.q_model.specs.declared.command.Command.{Command}
use Rattle.q_model.specs.declared.refusal.Refusal.{Refusal}
use Rattle.q_model.specs.Make.{Device}
use Rattle.q_model.specs.Node.{Node, shape}
use Rattle.q_model.specs.Step.{DeviceState}
use Rattle.q_model.specs.TreeState.{plan}
use Rattle.q_tree.specs.commands.Commanding.{WantsMemory}
use Rattle.q_tree.specs.commands.Commands.{IsPlanOf, plan_of}
use Rattle.q_tree.specs.Kept.{Kept}
use Rattle.q_tree.specs.declared.commands.planned.Planned.{Planned}
use Rattle.q_tree.proofs.tree.Tree.plan.Goals as goal
use Rattle.q_tree.proofs.TreeLemmas.{lawful-root}

-- what is planned in the tree as it is stored is planned in it as it is seen
planned-in : (command : Command) (now : ℕ) (d : DeviceState Kept) (device : Device) (root : Node Kept) (answer : Result Planned Refusal) → device ≡ d.tree.device → root ≡ d.tree.root
    → IsPlanOf (WantsMemory command (plan device now command (shape root))) command now device root answer
    → IsPlanOf (WantsMemory command (plan_of command now d)) command now d.tree.device d.tree.root answer
planned-in command now d device root answer device_is root_is h =
    subst (λ n. IsPlanOf (WantsMemory command (plan d.tree.device now command (shape n))) command now d.tree.device n answer) root_is
    (subst (λ v. IsPlanOf (WantsMemory command (plan v now command (shape root))) command now v root answer) device_is h)

pub planned-requires : goal.planned-requires
planned-requires c = record {
  lawful = subst (λ n. IsLawfulRoot c.self.inside.mtu c.args.now n) (ap (λ (d : DeviceState Kept). d.tree.root) c.self.view_is ∙ sym c.qdiscs.ensures)
      (lawful-root c.self.inside c.self.invariant.device c.args.now (omega (arith, ap (λ (d : DeviceState Kept). d.clock) c.self.view_is, c.requires.order)) (omega (arith, c.ns.ensures.in_range)));
}

pub returns-clause-plan : goal.returns-clause-plan
returns-clause-plan c =
    planned-in c.args.command.now c.args.now c.args.self.now (record { mtu = c.self.inside.mtu; txqueuelen = c.self.inside.txqueuelen }) c.qdiscs.result.root.now c.planned.result
    (ap (λ (d : DeviceState Kept). d.tree.device) c.self.view_is) c.qdiscs.ensures c.planned.ensures.plan

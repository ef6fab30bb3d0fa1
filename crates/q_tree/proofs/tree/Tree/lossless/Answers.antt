use Rattle.std.proofs.Common.{ap, length, subst, arith}
use Rattle.q_tree.specs.commands.Commanding.{WantsMemory}
use Rattle.q_tree.specs.commands.Commands.{IsAnswered, plan_of}
use Rattle.q_tree.proofs.commands.Plans.{quiet-removed, tree-answered, tree-planned}
use Rattle.q_tree.proofs.tree.Tree.lossless.Goals as goal

pub edit-requires-clause-planned : goal.edit-requires-clause-planned
edit-requires-clause-planned c =
    let d = c.args.self.now in
    let now = c.clock-now.result in
    let command = c.args.command in
    let memory = WantsMemory command (plan_of command now d) in
    let is_plan = c.plan.ensures.plan in
    (tree-planned memory command d now c.plan.result is_plan c.in_ok-planned.planned c.in_ok-planned.was).planned

pub edit-requires-clause-sink : goal.edit-requires-clause-sink
edit-requires-clause-sink c =
    omega (arith, ap length (quiet-removed c.in_ok-planned.planned.edit c.in_ok-planned.planned.path.items c.args.self.now.tree.root (c.in_ok-planned.ensures.lossless c.requires)))

pub returns : goal.returns
returns c =
    let d = c.args.self.now in
    let now = c.clock-now.result in
    let command = c.args.command in
    let memory = WantsMemory command (plan_of command now d) in
    let is_plan = c.plan.ensures.plan in
    subst (λ t. IsAnswered (WantsMemory command (plan_of command t d)) t (plan_of command t d) d c.edit.new.self c.edit.result) c.clock-now.ensures
    (tree-answered memory command d now c.plan.result is_plan c.in_ok-planned.planned c.in_ok-planned.was c.edit.new.self c.edit.result c.edit.ensures.after c.edit.ensures.memory c.edit.ensures.same)

use Rattle.std.proofs.Common.{arith}
use Rattle.q_tree.specs.commands.Commanding.{WantsMemory}
use Rattle.q_tree.specs.commands.Commands.{plan_of}
use Rattle.q_tree.proofs.commands.Plans.{tree-answered, tree-planned, tree-room-for, tree-told}
use Rattle.q_tree.proofs.tree.Tree.command.Goals as goal

pub edit-requires-clause-planned : goal.edit-requires-clause-planned
edit-requires-clause-planned g c =
    let d = c.args.self.now in
    let command = c.args.command in
    let memory = WantsMemory command (plan_of command c.args.now d) in
    let is_plan = c.plan.ensures.plan in
    (tree-planned memory command d c.args.now c.plan.result is_plan c.in_ok-planned.planned c.in_ok-planned.was).planned

pub edit-requires-clause-sink : goal.edit-requires-clause-sink
edit-requires-clause-sink g c =
    let d = c.args.self.now in
    let command = c.args.command in
    let memory = WantsMemory command (plan_of command c.args.now d) in
    let is_plan = c.plan.ensures.plan in
    omega (arith, c.requires.sink, tree-room-for memory command d c.args.now c.plan.result is_plan c.in_ok-planned.planned c.in_ok-planned.was)

pub returns-clause-answer : goal.returns-clause-answer
returns-clause-answer g c =
    let d = c.args.self.now in
    let command = c.args.command in
    let memory = WantsMemory command (plan_of command c.args.now d) in
    let is_plan = c.plan.ensures.plan in
    tree-answered memory command d c.args.now c.plan.result is_plan c.in_ok-planned.planned c.in_ok-planned.was c.edit.new.self c.edit.result
    c.edit.ensures.after c.edit.ensures.memory c.edit.ensures.same

pub returns-clause-lost : goal.returns-clause-lost
returns-clause-lost g c =
    let d = c.args.self.now in
    let command = c.args.command in
    let memory = WantsMemory command (plan_of command c.args.now d) in
    let is_plan = c.plan.ensures.plan in
    tree-told memory command d c.args.now c.plan.result is_plan c.in_ok-planned.planned c.in_ok-planned.was
    (g.S.Sink.state c.args.sink.now) (g.S.Sink.state c.edit.new.sink) c.edit.result c.edit.ensures.told c.edit.ensures.not_lost

use Rattle.std.proofs.Common.{◌∙◌, refl, sym, ap, option_map}
use Rattle.q_model.specs.declared.command.Command.TheVariants.{ClassChange}
use Rattle.q_model.specs.declared.refusal.Refusal.TheVariants.{NoQdisc}
use Rattle.q_model.specs.Find.{path_of}
use Rattle.q_model.specs.Node.{Drr, shape}
use Rattle.q_model.specs.TreeState.{plan}
use Rattle.q_tree.specs.commands.Commands.{takes_none}
use Rattle.q_tree.proofs.commands.TargetLemmas.{reached-at, target-none, target-some}
use Rattle.q_model.specs.ClassCommands.{class_change_checks, class_changed, of_schedule, with_new_quantum}
use Rattle.q_model.specs.QdiscCommands.{retuned}
use Rattle.q_invariants.proofs.sizes.SizedPlans.{plan-class_change}
use Rattle.q_tree.specs.commands.DisciplineChanges.{requantum, rescheduled}
use Rattle.q_tree.specs.declared.commands.edit.Edit.TheVariants.{DisciplineChange}
use Rattle.q_tree.specs.declared.commands.discipline_change.DisciplineChange.TheVariants.{SetQuantum}
use Rattle.q_tree.proofs.commands.ClassPlans.{at-class, change-done, drr-refused}
use Rattle.q_tree.proofs.commands.Plans.{bounded-by, err-passed, few, own-kept, own-planned, refused-plan, shallow}
use Rattle.q_tree.specs.commands.Planning.{IsPlanBy, device_of, root_of}
use Rattle.q_tree.proofs.commands.planner.Planner.class_changed.Goals as goal

pub returns-in_default-clause-plan : goal.returns-in_default-clause-plan
returns-in_default-clause-plan c =
    let device = device_of c.args.self.now in
    let now = c.args.self.now.moment in
    let root = root_of c.args.self.now in
    let planned =
    plan-class_change (shape root) (shallow root (bounded-by c.args.self.now)) (few root (bounded-by c.args.self.now)) device now c.args.parent
    c.args.class c.args.quantum ∙ at-class c.args.parent c.args.class (class_changed c.args.class c.args.quantum) (shape root)
    (sym c.names_another.ensures ∙ c.if-names_another.false) in
    refused-plan takes_none (plan device now (ClassChange c.args.parent c.args.class c.args.quantum) (shape root)) NoQdisc
    (planned ∙ target-none root (path_of c.args.class.major (shape root)) NoQdisc
    (λ path n. of_schedule (class_changed c.args.class c.args.quantum path n) n.own.discipline)
    (sym c.qdisc.ensures ∙ ap (option_map (λ x. (x.0.items, x.1.now))) c.in_default.is))

pub returns-in_err-can_change_class-clause-plan : goal.returns-in_err-can_change_class-clause-plan
returns-in_err-can_change_class-clause-plan c =
    let device = device_of c.args.self.now in
    let now = c.args.self.now.moment in
    let root = root_of c.args.self.now in
    let n = c.in-Some.node.now in
    let path = c.in-Some.path.items in
    let planned =
    plan-class_change (shape root) (shallow root (bounded-by c.args.self.now)) (few root (bounded-by c.args.self.now)) device now c.args.parent
    c.args.class c.args.quantum ∙ at-class c.args.parent c.args.class (class_changed c.args.class c.args.quantum) (shape root)
    (sym c.names_another.ensures ∙ c.if-names_another.false) in
    let found =
    target-some root (path_of c.args.class.major (shape root)) NoQdisc
    (λ path n. of_schedule (class_changed c.args.class c.args.quantum path n) n.own.discipline) path n
    (sym c.qdisc.ensures ∙ ap (option_map (λ x. (x.0.items, x.1.now))) c.in-Some.is) in
    let e = c.in_err-can_change_class.field-0.0 in
    err-passed c.from_residual.result e (IsPlanBy c.args.self.now takes_none (ClassChange c.args.parent c.args.class c.args.quantum)) c.from_residual.ensures.1
    (refused-plan takes_none (plan device now (ClassChange c.args.parent c.args.class c.args.quantum) (shape root)) e
    (planned ∙ found ∙ drr-refused (class_change_checks c.args.class (shape n))
    (λ s. retuned (shape n) path (Drr (with_new_quantum c.args.class c.args.quantum s))) e n.own.discipline
    (sym c.can_change_class.ensures ∙ c.in_err-can_change_class.was)))

pub returns-clause-plan : goal.returns-clause-plan
returns-clause-plan c =
    let device = device_of c.args.self.now in
    let now = c.args.self.now.moment in
    let root = root_of c.args.self.now in
    let n = c.in-Some.node.now in
    let path = c.in-Some.path.items in
    let planned =
    plan-class_change (shape root) (shallow root (bounded-by c.args.self.now)) (few root (bounded-by c.args.self.now)) device now c.args.parent
    c.args.class c.args.quantum ∙ at-class c.args.parent c.args.class (class_changed c.args.class c.args.quantum) (shape root)
    (sym c.names_another.ensures ∙ c.if-names_another.false) in
    let reached = sym c.qdisc.ensures ∙ ap (option_map (λ x. (x.0.items, x.1.now))) c.in-Some.is in
    let found = target-some root (path_of c.args.class.major (shape root)) NoQdisc (λ path n. of_schedule (class_changed c.args.class c.args.quantum path n) n.own.discipline) path n reached in
    own-planned device root (record { path = c.in-Some.path; edit = DisciplineChange (SetQuantum c.args.class.minor c.args.quantum) }) tt n
    (reached-at root (path_of c.args.class.major (shape root)) path n reached).there
    (record n.own { discipline = rescheduled (requantum c.args.class.minor c.args.quantum) n.own.discipline })
    (own-kept (SetQuantum c.args.class.minor c.args.quantum) n refl refl) refl (ClassChange c.args.parent c.args.class c.args.quantum)
    c.requires.ranges now
    (planned ∙ found ∙ change-done c.args.class c.args.quantum path n (sym c.can_change_class.ensures ∙ c.in_ok-can_change_class.was)) takes_none (λ h. h)

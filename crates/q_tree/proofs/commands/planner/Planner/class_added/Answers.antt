use Rattle.std.proofs.Common.{◌∙◌, sym, ap, option_map, refl, arith}
use Rattle.q_model.specs.declared.command.Command.TheVariants.{ClassAdd}
use Rattle.q_model.specs.declared.refusal.Refusal.TheVariants.{NoQdisc}
use Rattle.q_model.specs.Find.{path_of}
use Rattle.q_model.specs.Make.{Device}
use Rattle.q_model.specs.Node.{shape}
use Rattle.q_model.specs.TreeState.{plan}
use Rattle.q_tree.specs.commands.Commands.{takes_memory}
use Rattle.q_tree.specs.declared.commands.edit.Edit.TheVariants.{DisciplineChange}
use Rattle.q_tree.specs.declared.commands.discipline_change.DisciplineChange.TheVariants.{AddClass}
use Rattle.q_tree.proofs.commands.ClassAdding.{add-nowhere, add-refused, class-add-planned}
use Rattle.q_tree.proofs.commands.Plans.{bounded-by, err-passed, refused-plan}
use Rattle.q_tree.proofs.commands.TargetLemmas.{path-short, reached-at}
use Rattle.q_tree.specs.commands.Planning.{IsPlanBy, device_of, root_of}
use Rattle.q_tree.proofs.commands.planner.Planner.class_added.Goals as goal

pub returns-in_default-clause-plan : goal.returns-in_default-clause-plan
returns-in_default-clause-plan c =
    let now = c.args.self.now.moment in
    let root = root_of c.args.self.now in
    let d : Device = device_of c.args.self.now in
    refused-plan takes_memory (plan d now (ClassAdd c.args.parent c.args.class c.args.quantum) (shape root)) NoQdisc
    (add-nowhere root (bounded-by c.args.self.now) d c.args.parent c.args.class c.args.quantum (sym c.names_another.ensures ∙ c.if-names_another.false) now
    (sym c.qdisc.ensures ∙ ap (option_map (λ x. (x.0.items, x.1.now))) c.in_default.is))

pub can_add_class-requires : goal.can_add_class-requires
can_add_class-requires c =
    let root = root_of c.args.self.now in
    let found = sym c.qdisc.ensures ∙ ap (option_map (λ x. (x.0.items, x.1.now))) c.in-Some.is in
    omega (
      arith,
      c.len.ensures.value,
      path-short c.in-Some.path.items root c.in-Some.node.now
          (reached-at root (path_of c.args.class.major (shape root)) c.in-Some.path.items c.in-Some.node.now found).there
          c.args.self.now.qdiscs.levels,
    )

pub returns-in_err-can_add_class-clause-plan : goal.returns-in_err-can_add_class-clause-plan
returns-in_err-can_add_class-clause-plan c =
    let now = c.args.self.now.moment in
    let root = root_of c.args.self.now in
    let d : Device = device_of c.args.self.now in
    let e = c.in_err-can_add_class.field-0.0 in
    err-passed c.from_residual.result e (IsPlanBy c.args.self.now takes_memory (ClassAdd c.args.parent c.args.class c.args.quantum)) c.from_residual.ensures.1
    (refused-plan takes_memory (plan d now (ClassAdd c.args.parent c.args.class c.args.quantum) (shape root)) e
    (add-refused root (bounded-by c.args.self.now) d c.args.parent c.args.class c.args.quantum (sym c.names_another.ensures ∙ c.if-names_another.false) now c.in-Some.path.items c.in-Some.node.now
    (sym c.qdisc.ensures ∙ ap (option_map (λ x. (x.0.items, x.1.now))) c.in-Some.is) c.len.result c.len.ensures.value e (sym c.can_add_class.ensures ∙ c.in_err-can_add_class.was)))

pub returns-clause-plan : goal.returns-clause-plan
returns-clause-plan c =
    let now = c.args.self.now.moment in
    let root = root_of c.args.self.now in
    let d : Device = device_of c.args.self.now in
    class-add-planned root (bounded-by c.args.self.now) d c.args.parent c.args.class c.args.quantum (sym c.names_another.ensures ∙ c.if-names_another.false) now c.in-Some.path.items c.in-Some.node.now
    (sym c.qdisc.ensures ∙ ap (option_map (λ x. (x.0.items, x.1.now))) c.in-Some.is) c.len.result c.len.ensures.value (sym c.can_add_class.ensures ∙ c.in_ok-can_add_class.was)
    c.implicit_pfifo-leaf.result c.implicit_pfifo-leaf.ensures c.quantum_or_mtu-quantum.result c.quantum_or_mtu-quantum.ensures
    (record { path = c.in-Some.path; edit = DisciplineChange (AddClass c.args.class.minor c.quantum_or_mtu-quantum.result c.implicit_pfifo-leaf.result) }) refl c.requires.ranges

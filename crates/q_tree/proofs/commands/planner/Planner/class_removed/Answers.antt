use Rattle.std.proofs.Common.{◌∙◌, sym, ap, option_map, refl}
use Rattle.q_model.specs.declared.command.Command.TheVariants.{ClassDel}
use Rattle.q_model.specs.declared.refusal.Refusal.TheVariants.{NoQdisc}
use Rattle.q_model.specs.Node.{shape}
use Rattle.q_model.specs.TreeState.{plan}
use Rattle.q_tree.specs.commands.Commands.{takes_none}
use Rattle.q_tree.specs.declared.commands.edit.Edit.TheVariants.{DisciplineChange}
use Rattle.q_tree.specs.declared.commands.discipline_change.DisciplineChange.TheVariants.{RemoveClass}
use Rattle.q_tree.proofs.commands.ClassAdding.{class-del-planned, del-nowhere, del-refused}
use Rattle.q_tree.proofs.commands.Plans.{bounded-by, err-passed, numbered-by, refused-plan}
use Rattle.q_tree.specs.commands.Planning.{IsPlanBy, device_of, root_of}
use Rattle.q_tree.proofs.commands.planner.Planner.class_removed.Goals as goal

pub returns-in_default : goal.returns-in_default
returns-in_default c =
    let root = root_of c.args.self.now in
    let device = device_of c.args.self.now in
    let now = c.args.self.now.moment in
    record {
      plan =
          refused-plan takes_none (plan device now (ClassDel c.args.parent c.args.class) (shape root)) NoQdisc
          (del-nowhere root (bounded-by c.args.self.now) device c.args.parent c.args.class (sym c.names_another.ensures ∙ c.if-names_another.false)
          now (sym c.qdisc.ensures ∙ ap (option_map (λ x. (x.0.items, x.1.now))) c.in_default.is));
    }

pub returns-in_err-can_remove_class : goal.returns-in_err-can_remove_class
returns-in_err-can_remove_class c =
    let root = root_of c.args.self.now in
    let device = device_of c.args.self.now in
    let now = c.args.self.now.moment in
    let e = c.in_err-can_remove_class.field-0.0 in
    record {
      plan =
          err-passed c.from_residual.result e (IsPlanBy c.args.self.now takes_none (ClassDel c.args.parent c.args.class)) c.from_residual.ensures.1
          (refused-plan takes_none (plan device now (ClassDel c.args.parent c.args.class) (shape root)) e
          (del-refused root (bounded-by c.args.self.now) device c.args.parent c.args.class (sym c.names_another.ensures ∙ c.if-names_another.false) now c.in-Some.path.items c.in-Some.node.now
          (sym c.qdisc.ensures ∙ ap (option_map (λ x. (x.0.items, x.1.now))) c.in-Some.is) e (sym c.can_remove_class.ensures ∙ c.in_err-can_remove_class.was)));
    }

pub returns : goal.returns
returns c =
    let root = root_of c.args.self.now in
    let device = device_of c.args.self.now in
    let now = c.args.self.now.moment in
    record {
      plan =
          class-del-planned root (bounded-by c.args.self.now) device c.args.parent c.args.class (sym c.names_another.ensures ∙ c.if-names_another.false) now c.in-Some.path.items c.in-Some.node.now
          (sym c.qdisc.ensures ∙ ap (option_map (λ x. (x.0.items, x.1.now))) c.in-Some.is)
          (sym c.can_remove_class.ensures ∙ c.in_ok-can_remove_class.was) (numbered-by c.args.self.now c.requires.lawful)
          (record { path = c.in-Some.path; edit = DisciplineChange (RemoveClass c.args.class.minor) }) refl c.requires.ranges;
    }

use Rattle.std.proofs.Common.{◌∙◌, refl, sym, ap, subst, option_map, arith}
use Rattle.q_model.specs.declared.command.Command.TheVariants.{QdiscChange}
use Rattle.q_model.specs.declared.refusal.Refusal.TheVariants.{NoQdisc}
use Rattle.q_model.specs.Make.{Device}
use Rattle.q_model.specs.Node.{shape}
use Rattle.q_model.specs.TreeState.{plan}
use Rattle.q_tree.specs.commands.Changing.{IsChange, NeedsMore}
use Rattle.q_tree.specs.declared.commands.edit.Edit.TheVariants.{DisciplineChange}
use Rattle.q_tree.proofs.commands.ChangeLemmas.{change-lawful, change-nowhere, change-planned, change-refused, change-within, plans_of}
use Rattle.q_tree.proofs.commands.Plans.{refused-plan}
use Rattle.q_tree.specs.commands.Planning.{IsPlanBy, device_of, planned_by, root_of}
use Rattle.q_tree.proofs.commands.Plans.{bounded-by, err-passed}
use Rattle.q_tree.proofs.commands.planner.Planner.changed.Goals as goal

pub returns-in_default : goal.returns-in_default
returns-in_default c =
    let root = root_of c.args.self.now in
    let d : Device = device_of c.args.self.now in
    let k = c.args.kind.now in
    record {
      plan =
          refused-plan (NeedsMore k (plan d c.args.self.now.moment (QdiscChange c.args.place c.args.handle k) (shape root)))
          (plan d c.args.self.now.moment (QdiscChange c.args.place c.args.handle k) (shape root)) NoQdisc
          (change-nowhere root (bounded-by c.args.self.now) d c.args.self.now.moment d.mtu c.requires.lawful c.args.place c.args.handle k
          (sym c.target.ensures ∙ ap (option_map (λ x. (x.0.items, x.1.now))) c.in_default.is));
    }

pub change_to-requires-clause-within : goal.change_to-requires-clause-within
change_to-requires-clause-within c =
    let root = root_of c.args.self.now in
    let d : Device = device_of c.args.self.now in
    omega (
      arith,
      change-within root (bounded-by c.args.self.now) d c.args.self.now.moment d.mtu c.requires.lawful c.args.place c.args.handle c.args.kind.now c.in-Some.path.items c.in-Some.node.now
          (sym c.target.ensures ∙ ap (option_map (λ x. (x.0.items, x.1.now))) c.in-Some.is),
    )

pub change_to-requires-clause-lawful : goal.change_to-requires-clause-lawful
change_to-requires-clause-lawful c =
    let root = root_of c.args.self.now in
    let d : Device = device_of c.args.self.now in
    change-lawful root (bounded-by c.args.self.now) d c.args.self.now.moment d.mtu c.requires.lawful c.args.place c.args.handle c.args.kind.now c.in-Some.path.items c.in-Some.node.now
    (sym c.target.ensures ∙ ap (option_map (λ x. (x.0.items, x.1.now))) c.in-Some.is)

pub returns-in_err-change : goal.returns-in_err-change
returns-in_err-change c =
    let root = root_of c.args.self.now in
    let n = c.in-Some.node.now in
    let d : Device = device_of c.args.self.now in
    let k = c.args.kind.now in
    let e = c.in_err-change.field-0.0 in
    record {
      plan =
          err-passed c.from_residual.result e (IsPlanBy c.args.self.now
          (NeedsMore k (planned_by c.args.self.now (QdiscChange c.args.place c.args.handle k))) (QdiscChange c.args.place c.args.handle k))
          c.from_residual.ensures.1
          (change-refused root (bounded-by c.args.self.now) d c.args.self.now.moment d.mtu c.requires.lawful c.args.place c.args.handle k c.in-Some.path.items n
          (sym c.target.ensures ∙ ap (option_map (λ x. (x.0.items, x.1.now))) c.in-Some.is) (NeedsMore k) e
          (subst (IsChange (NeedsMore k) (plans_of d c.args.self.now.moment (shape root) n k n.own.discipline) n) c.in_err-change.was c.change_to.ensures c.in-Some.path.items));
    }

pub returns : goal.returns
returns c =
    let root = root_of c.args.self.now in
    let n = c.in-Some.node.now in
    let d : Device = device_of c.args.self.now in
    let k = c.args.kind.now in
    record {
      plan = change-planned root (bounded-by c.args.self.now) d c.args.self.now.moment d.mtu c.requires.lawful c.args.place c.args.handle k c.in-Some.path.items n
          (sym c.target.ensures ∙ ap (option_map (λ x. (x.0.items, x.1.now))) c.in-Some.is) (NeedsMore k) c.in_ok-change.change
          (subst (IsChange (NeedsMore k) (plans_of d c.args.self.now.moment (shape root) n k n.own.discipline) n) c.in_ok-change.was c.change_to.ensures)
          (record { path = c.in-Some.path; edit = DisciplineChange c.in_ok-change.change }) refl refl c.requires.ranges;
    }

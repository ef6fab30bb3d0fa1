use Rattle.std.proofs.Common.{◌∙◌, refl, sym, ap, option_map}
use Rattle.q_model.specs.declared.command.Command.TheVariants.{FilterDel}
use Rattle.q_model.specs.declared.refusal.Refusal.TheVariants.{NoQdisc}
use Rattle.q_model.specs.Find.{path_of}
use Rattle.q_model.specs.Node.{shape}
use Rattle.q_model.specs.TreeState.{plan}
use Rattle.q_tree.specs.commands.Commands.{takes_none}
use Rattle.q_tree.proofs.commands.TargetLemmas.{reached-at, target-none, target-some}
use Rattle.std.specs.Prelude.{◌==◌, not}
use Rattle.std.specs.List.{filter}
use Rattle.q_model.specs.declared.filter.Filter.{Filter}
use Rattle.q_model.specs.FilterCommands.{filter_del_checks, filters_removed, with_filters}
use Rattle.q_invariants.proofs.sizes.SizedPlans.{plan-filter_del}
use Rattle.q_tree.specs.declared.commands.edit.Edit.TheVariants.{RemoveFilters}
use Rattle.q_tree.proofs.commands.Plans.{all-passed, bounded-by, err-passed, few, own-planned, refused-plan, same-refusal, shallow}
use Rattle.q_tree.specs.commands.Planning.{IsPlanBy, device_of, root_of}
use Rattle.q_tree.proofs.commands.planner.Planner.filters_removed.Goals as goal

pub returns-in_default-clause-plan : goal.returns-in_default-clause-plan
returns-in_default-clause-plan c =
    let device = device_of c.args.self.now in
    let now = c.args.self.now.moment in
    let root = root_of c.args.self.now in
    let planned = plan-filter_del (shape root) (shallow root (bounded-by c.args.self.now)) (few root (bounded-by c.args.self.now)) device now c.args.parent c.args.prio in
    refused-plan takes_none (plan device now (FilterDel c.args.parent c.args.prio) (shape root)) NoQdisc
    (planned ∙ target-none root (path_of c.args.parent (shape root)) NoQdisc (filters_removed c.args.prio) (sym c.qdisc.ensures ∙ ap (option_map (λ x. (x.0.items, x.1.now))) c.in_default.is))

pub returns-in_err-can_remove_filters-clause-plan : goal.returns-in_err-can_remove_filters-clause-plan
returns-in_err-can_remove_filters-clause-plan c =
    let device = device_of c.args.self.now in
    let now = c.args.self.now.moment in
    let root = root_of c.args.self.now in
    let n = c.in-Some.node.now in
    let path = c.in-Some.path.items in
    let planned = plan-filter_del (shape root) (shallow root (bounded-by c.args.self.now)) (few root (bounded-by c.args.self.now)) device now c.args.parent c.args.prio in
    let found = target-some root (path_of c.args.parent (shape root)) NoQdisc (filters_removed c.args.prio) path n (sym c.qdisc.ensures ∙ ap (option_map (λ x. (x.0.items, x.1.now))) c.in-Some.is) in
    let e = c.in_err-can_remove_filters.field-0.0 in
    err-passed c.from_residual.result e (IsPlanBy c.args.self.now takes_none (FilterDel c.args.parent c.args.prio)) c.from_residual.ensures.1
    (refused-plan takes_none (plan device now (FilterDel c.args.parent c.args.prio) (shape root)) e
    (planned ∙ found ∙ same-refusal (filter_del_checks c.args.prio (shape n)) tt
    (with_filters path (shape n) (filter (λ (f : Filter). not (f.prio == c.args.prio)) n.own.filters)) e
    (sym c.can_remove_filters.ensures ∙ c.in_err-can_remove_filters.was)))

pub returns-clause-plan : goal.returns-clause-plan
returns-clause-plan c =
    let device = device_of c.args.self.now in
    let now = c.args.self.now.moment in
    let root = root_of c.args.self.now in
    let n = c.in-Some.node.now in
    let path = c.in-Some.path.items in
    let planned = plan-filter_del (shape root) (shallow root (bounded-by c.args.self.now)) (few root (bounded-by c.args.self.now)) device now c.args.parent c.args.prio in
    let reached = sym c.qdisc.ensures ∙ ap (option_map (λ x. (x.0.items, x.1.now))) c.in-Some.is in
    let found = target-some root (path_of c.args.parent (shape root)) NoQdisc (filters_removed c.args.prio) path n reached in
    own-planned device root (record { path = c.in-Some.path; edit = RemoveFilters c.args.prio }) tt n (reached-at root (path_of c.args.parent (shape root)) path n reached).there
    (record n.own { filters = filter (λ (f : Filter). not (f.prio == c.args.prio)) n.own.filters }) refl refl (FilterDel c.args.parent c.args.prio) c.requires.ranges now
    (planned ∙ found ∙ all-passed (filter_del_checks c.args.prio (shape n)) tt
    (with_filters path (shape n) (filter (λ (f : Filter). not (f.prio == c.args.prio)) n.own.filters))
    (sym c.can_remove_filters.ensures ∙ c.in_ok-can_remove_filters.was)) takes_none (λ h. h)

use Rattle.std.proofs.Common.{◌∙◌, refl, sym, ap, option_map}
use Rattle.q_model.specs.declared.command.Command.TheVariants.{FilterAdd}
use Rattle.q_model.specs.declared.refusal.Refusal.TheVariants.{NoQdisc}
use Rattle.q_model.specs.Find.{path_of}
use Rattle.q_model.specs.Node.{shape}
use Rattle.q_model.specs.TreeState.{plan}
use Rattle.q_tree.specs.commands.Commands.{takes_memory}
use Rattle.q_tree.proofs.commands.TargetLemmas.{reached-at, target-none, target-some}
use Rattle.q_model.specs.Filters.{with_filter}
use Rattle.q_model.specs.FilterCommands.{filter_add_checks, filter_added, with_filters}
use Rattle.q_invariants.proofs.sizes.SizedPlans.{plan-filter_add}
use Rattle.q_tree.specs.declared.commands.edit.Edit.TheVariants.{AddFilter}
use Rattle.q_tree.proofs.commands.Plans.{all-passed, bounded-by, err-passed, few, own-planned, refused-plan, same-refusal, shallow}
use Rattle.q_tree.specs.commands.Planning.{IsPlanBy, device_of, root_of}
use Rattle.q_tree.proofs.commands.planner.Planner.filter_added.Goals as goal

pub returns-in_default-clause-plan : goal.returns-in_default-clause-plan
returns-in_default-clause-plan c =
    let device = device_of c.args.self.now in
    let now = c.args.self.now.moment in
    let root = root_of c.args.self.now in
    let planned = plan-filter_add (shape root) (shallow root (bounded-by c.args.self.now)) (few root (bounded-by c.args.self.now)) device now c.args.parent c.args.major c.args.filter in
    refused-plan takes_memory (plan device now (FilterAdd c.args.parent c.args.major c.args.filter) (shape root)) NoQdisc
    (planned ∙ target-none root (path_of c.args.parent (shape root)) NoQdisc (filter_added c.args.parent c.args.major c.args.filter)
    (sym c.qdisc.ensures ∙ ap (option_map (λ x. (x.0.items, x.1.now))) c.in_default.is))

pub returns-in_err-can_add_filter-clause-plan : goal.returns-in_err-can_add_filter-clause-plan
returns-in_err-can_add_filter-clause-plan c =
    let device = device_of c.args.self.now in
    let now = c.args.self.now.moment in
    let root = root_of c.args.self.now in
    let n = c.in-Some.node.now in
    let path = c.in-Some.path.items in
    let planned = plan-filter_add (shape root) (shallow root (bounded-by c.args.self.now)) (few root (bounded-by c.args.self.now)) device now c.args.parent c.args.major c.args.filter in
    let found =
    target-some root (path_of c.args.parent (shape root)) NoQdisc (filter_added c.args.parent c.args.major c.args.filter) path n
    (sym c.qdisc.ensures ∙ ap (option_map (λ x. (x.0.items, x.1.now))) c.in-Some.is) in
    let e = c.in_err-can_add_filter.field-0.0 in
    err-passed c.from_residual.result e (IsPlanBy c.args.self.now takes_memory (FilterAdd c.args.parent c.args.major c.args.filter)) c.from_residual.ensures.1
    (refused-plan takes_memory (plan device now (FilterAdd c.args.parent c.args.major c.args.filter) (shape root)) e
    (planned ∙ found ∙ same-refusal (filter_add_checks c.args.parent c.args.major c.args.filter (shape n)) tt
    (with_filters path (shape n) (with_filter c.args.filter n.own.filters)) e (sym c.can_add_filter.ensures ∙ c.in_err-can_add_filter.was)))

pub returns-clause-plan : goal.returns-clause-plan
returns-clause-plan c =
    let device = device_of c.args.self.now in
    let now = c.args.self.now.moment in
    let root = root_of c.args.self.now in
    let n = c.in-Some.node.now in
    let path = c.in-Some.path.items in
    let planned = plan-filter_add (shape root) (shallow root (bounded-by c.args.self.now)) (few root (bounded-by c.args.self.now)) device now c.args.parent c.args.major c.args.filter in
    let reached = sym c.qdisc.ensures ∙ ap (option_map (λ x. (x.0.items, x.1.now))) c.in-Some.is in
    let found = target-some root (path_of c.args.parent (shape root)) NoQdisc (filter_added c.args.parent c.args.major c.args.filter) path n reached in
    own-planned device root (record { path = c.in-Some.path; edit = AddFilter c.args.filter }) tt n (reached-at root (path_of c.args.parent (shape root)) path n reached).there
    (record n.own { filters = with_filter c.args.filter n.own.filters }) refl refl (FilterAdd c.args.parent c.args.major c.args.filter) c.requires.ranges now
    (planned ∙ found ∙ all-passed (filter_add_checks c.args.parent c.args.major c.args.filter (shape n)) tt
    (with_filters path (shape n) (with_filter c.args.filter n.own.filters)) (sym c.can_add_filter.ensures ∙ c.in_ok-can_add_filter.was))
    takes_memory (λ h. h)

use Rattle.std.proofs.Common.{◌∙◌, None, Ok, sym, ap, subst, option_map}
use Rattle.std.specs.Prelude.{is_some}
use Rattle.q_model.specs.declared.command.Command.TheVariants.{QdiscDel}
use Rattle.q_model.specs.declared.refusal.Refusal.TheVariants.{NoQdisc}
use Rattle.q_model.specs.Edit as model
use Rattle.q_model.specs.Make.{Device}
use Rattle.q_model.specs.Node.{shape}
use Rattle.q_model.specs.QdiscCommands.{leaf_at, target}
use Rattle.q_model.specs.TreeState.{plan}
use Rattle.q_invariants.proofs.sizes.SizedPlans.{plan-qdisc_del}
use Rattle.q_tree.specs.commands.Commands.{takes_none}
use Rattle.q_tree.specs.commands.Making.{IsNewNode}
use Rattle.q_tree.specs.declared.commands.edit.Edit.TheVariants.{Graft}
use Rattle.q_tree.proofs.commands.GraftLemmas.{graft-planned-for, leaf-alone, leaf-new}
use Rattle.q_tree.proofs.commands.Plans.{few, refused-plan, shallow}
use Rattle.q_tree.proofs.commands.TargetLemmas.{reached-at, target-none, target-some}
use Rattle.q_tree.specs.commands.Planning.{device_of, root_of}
use Rattle.q_tree.proofs.commands.Plans.{bounded-by}
use Rattle.q_tree.proofs.commands.planner.Planner.pruned.Goals as goal

pub returns-in_default : goal.returns-in_default
returns-in_default c =
    let root = root_of c.args.self.now in
    let d : Device = device_of c.args.self.now in
    let now = c.args.self.now.moment in
    record {
      plan =
          refused-plan takes_none (plan d now (QdiscDel c.args.place c.args.handle) (shape root)) NoQdisc
          (plan-qdisc_del (shape root) (shallow root (bounded-by c.args.self.now)) (few root (bounded-by c.args.self.now)) d now c.args.place c.args.handle
          ∙ target-none root (target c.args.place c.args.handle (shape root)) NoQdisc (λ path n. Ok (model.Graft path (leaf_at d path (shape root))))
          (sym c.target.ensures ∙ ap (option_map (λ x. (x.0.items, x.1.now))) c.in_default.is));
    }

pub returns : goal.returns
returns c =
    let root = root_of c.args.self.now in
    let d : Device = device_of c.args.self.now in
    let now = c.args.self.now.moment in
    let path = c.in-Some.path.items in
    let n = c.in-Some.field-0-1.now in
    let found = sym c.target.ensures ∙ ap (option_map (λ x. (x.0.items, x.1.now))) c.in-Some.is in
    let new : IsNewNode c.leaf_at-leaf.result (leaf_at d path (shape root)) = subst (λ way. IsNewNode c.leaf_at-leaf.result (leaf_at d way (shape root))) c.deref.ensures.0 c.leaf_at-leaf.ensures in
    record {
      plan =
          graft-planned-for takes_none d root (record { path = c.in-Some.path; edit = Graft c.leaf_at-leaf.result }) c.leaf_at-leaf.result (leaf_at d path (shape root)) new d.mtu now None
          (leaf-new d.mtu now d path root) (QdiscDel c.args.place c.args.handle) c.requires.ranges now
          (plan-qdisc_del (shape root) (shallow root (bounded-by c.args.self.now)) (few root (bounded-by c.args.self.now)) d now c.args.place c.args.handle
          ∙ target-some root (target c.args.place c.args.handle (shape root)) NoQdisc (λ path n. Ok (model.Graft path (leaf_at d path (shape root)))) path n found)
          (ap is_some (reached-at root (target c.args.place c.args.handle (shape root)) path n found).there)
          (leaf-alone d path root c.leaf_at-leaf.result new);
    }

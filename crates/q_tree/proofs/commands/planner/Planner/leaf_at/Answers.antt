use Rattle.std.proofs.Common.{◌≡◌, ◌∙◌, sym, ap, subst, Some, None, option_copied}
use Rattle.std.specs.Option.{option_map_or}
use Rattle.q_model.specs.Find.{node_at}
use Rattle.q_model.specs.Make.{Device, implicit_beneath, implicit_pfifo}
use Rattle.q_model.specs.Node.{Node}
use Rattle.q_tree.specs.commands.Making.{IsNewNode}
use Rattle.q_tree.specs.Kept.{Kept}
use Rattle.q_tree.proofs.commands.GraftLemmas.{leaf-is}
use Rattle.q_tree.specs.commands.Planning.{device_of, root_of}
use Rattle.q_tree.proofs.commands.planner.Planner.leaf_at.Goals as goal

pub returns-in_default-at : goal.returns-in_default-at
returns-in_default-at c =
    let d : Device = device_of c.args.self.now in
    let none : node_at c.in-Some.way.now (root_of c.args.self.now) ≡ None = sym c.at.ensures ∙ ap option_copied c.in_default-at.is in
    subst (IsNewNode c.implicit_pfifo-in_default-at.result)
    (sym (ap (λ o. option_map_or (λ (parent : Node Kept). implicit_beneath d parent.own.discipline) o (implicit_pfifo d)) none)
    ∙ leaf-is d c.args.path.now c.in-Some.way.now c.in-Some.field-0-0.now (root_of c.args.self.now) c.in-Some.ensures.cases.0)
    c.implicit_pfifo-in_default-at.ensures

pub returns : goal.returns
returns c =
    let d : Device = device_of c.args.self.now in
    let there : node_at c.in-Some.way.now (root_of c.args.self.now) ≡ Some c.in-Some-at.parent.now = sym c.at.ensures ∙ ap option_copied c.in-Some-at.is in
    subst (IsNewNode c.implicit_beneath.result)
    (sym (ap (λ o. option_map_or (λ (parent : Node Kept). implicit_beneath d parent.own.discipline) o (implicit_pfifo d)) there)
    ∙ leaf-is d c.args.path.now c.in-Some.way.now c.in-Some.field-0-0.now (root_of c.args.self.now) c.in-Some.ensures.cases.0)
    c.implicit_beneath.ensures

use Rattle.std.proofs.Common.{◌≡◌, ◌∙◌, ◌-◌, Err, length, refl, replicate, sym, subst}
use Rattle.q_model.specs.declared.kind.Kind.TheVariants as kind
use Rattle.q_model.specs.declared.refusal.Refusal.TheVariants.{Memory}
use Rattle.q_model.specs.Make.{Device, implicit_pfifo}
use Rattle.q_model.specs.Node.{children, shape}
use Rattle.q_model.specs.Options.{PrioSettings}
use Rattle.q_tree.specs.commands.Changing.{IsChange, IsRemade, MakesChildren}
use Rattle.q_tree.specs.commands.Commands.{IsRefused}
use Rattle.q_tree.specs.commands.Making.{AreNew}
use Rattle.q_tree.specs.declared.commands.discipline_change.DisciplineChange.TheVariants.{SetBands}
use Rattle.q_tree.proofs.commands.ChangeLemmas.{HasRoom, bands-made, bands-passed, bands-refused, more-made, plans_of, rebanded-is}
use Rattle.q_tree.proofs.commands.Plans.{err-passed, refused-plan}
use Rattle.q_tree.specs.commands.Planning.{device_of, root_of}
use Rattle.q_invariants.proofs.sizes.MadeSizes.{count-shape}
use Rattle.q_tree.proofs.commands.planner.Planner.bands.Goals as goal

pub returns-in_err-more : goal.returns-in_err-more
returns-in_err-more c =
    let n = c.args.node.now in
    let root = shape (root_of c.args.self.now) in
    let now = c.args.self.now.moment in
    let nodes = c.count_nodes-nodes.result in
    let same = count-shape (root_of c.args.self.now) ∙ sym c.count_nodes-nodes.ensures in
    let d : Device = device_of c.args.self.now in
    let s : PrioSettings = record { bands = c.options.inside.bands; priomap = c.options.inside.priomap } in
    let plans = plans_of d now root n (kind.Prio c.args.options.now) n.own.discipline in
    let e = c.in_err-more.field-0.0 in
    err-passed c.from_residual.result e (IsChange MakesChildren plans n) c.from_residual.ensures.1 (λ path.
    refused-plan (MakesChildren (plans path)) (plans path) e
    (subst (λ t. plans_of d now root n (kind.Prio t) n.own.discipline path ≡ Err e) c.options.view_is
    (bands-refused d now root n s nodes same e (sym c.leaves_needed.ensures ∙ c.in_err-more.was) path)))

pub returns-in_default : goal.returns-in_default
returns-in_default c = λ path.
    let n = c.args.node.now in
    let root = shape (root_of c.args.self.now) in
    let now = c.args.self.now.moment in
    let nodes = c.count_nodes-nodes.result in
    let same = count-shape (root_of c.args.self.now) ∙ sym c.count_nodes-nodes.ensures in
    let d : Device = device_of c.args.self.now in
    let s : PrioSettings = record { bands = c.options.inside.bands; priomap = c.options.inside.priomap } in
    let h : HasRoom d now root n s nodes same c.in_ok-more.more = bands-passed d now root n s nodes same c.in_ok-more.more (sym c.leaves_needed.ensures ∙ c.in_ok-more.was) in
    subst (λ t. IsRefused (MakesChildren (plans_of d now root n (kind.Prio t) n.own.discipline path)) (plans_of d now root n (kind.Prio t) n.own.discipline path) Memory) c.options.view_is
    (subst (λ q. IsRefused (MakesChildren q) q Memory) (sym (h.planned path)) (refl, bands-made d n s c.in_ok-more.more h.leaves_is c.in_default.ensures.memory))

pub returns : goal.returns
returns c =
    let n = c.args.node.now in
    let root = shape (root_of c.args.self.now) in
    let now = c.args.self.now.moment in
    let nodes = c.count_nodes-nodes.result in
    let same = count-shape (root_of c.args.self.now) ∙ sym c.count_nodes-nodes.ensures in
    let d : Device = device_of c.args.self.now in
    let s : PrioSettings = record { bands = c.options.inside.bands; priomap = c.options.inside.priomap } in
    let h : HasRoom d now root n s nodes same c.in_ok-more.more = bands-passed d now root n s nodes same c.in_ok-more.more (sym c.leaves_needed.ensures ∙ c.in_ok-more.was) in
    let ls = c.in-Ok.leaves in
    let new : AreNew ls.items (replicate (s.bands - length (children (shape n))) (implicit_pfifo d)) =
    subst (λ k. AreNew ls.items (replicate k (implicit_pfifo d))) h.leaves_is c.in-Ok.ensures.new in (
      subst (λ t. IsRemade (plans_of d now root n (kind.Prio t) n.own.discipline) n (SetBands s ls)) c.options.view_is
          (rebanded-is d n s ls.items new (plans_of d now root n (kind.Prio s) n.own.discipline) (SetBands s ls) h.priomap h.is h.planned refl refl refl (λ x. x)),
      λ path some. subst (λ t. MakesChildren (plans_of d now root n (kind.Prio t) n.own.discipline path)) c.options.view_is
          (subst MakesChildren (sym (h.planned path)) (more-made d n s ls.items new some)),
    )

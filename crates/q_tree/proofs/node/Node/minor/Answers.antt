use Rattle.std.proofs.Common.{◌+◌, ◌∙◌, length, sym, ap, arith}
use Rattle.std.specs.Prelude.{slice_get}
use Rattle.std.proofs.lemmas.Option.{slice_get-map}
use Rattle.q_drr.specs.Schedule.{Class}
use Rattle.q_model.specs.Numbers.{IsMinor}
use Rattle.q_tree.proofs.answers.ShowLemmas.{few-bands, minors-prio, band-number, no-band, minor-made, drr-minors, named-minor}
use Rattle.q_tree.proofs.node.Node.minor.Goals as goal

pub overflow_cast-i : goal.overflow_cast-i
overflow_cast-i c = omega (arith, c.if-i-len.true, c.len.ensures, few-bands c.self.inside c.args.self.now c.requires c.self.view_is c.in-Prio.priomap c.in-Prio.bands c.in-Prio.is)

pub overflow_add-i : goal.overflow_add-i
overflow_add-i c = omega (arith, c.if-i-len.true, c.len.ensures, few-bands c.self.inside c.args.self.now c.requires c.self.view_is c.in-Prio.priomap c.in-Prio.bands c.in-Prio.is)

pub returns-then-i-len : goal.returns-then-i-len
returns-then-i-len c =
    let few = few-bands c.self.inside c.args.self.now c.requires c.self.view_is c.in-Prio.priomap c.in-Prio.bands c.in-Prio.is in
    let fits : IsMinor (c.args.i + 1) = (omega arith, omega (arith, c.if-i-len.true, c.len.ensures, few)) in
    minor-made c.new.result (c.args.i + 1) c.new.ensures.in_range c.new.ensures.value fits
    ∙ sym (ap (λ ms. slice_get ms c.args.i) (minors-prio c.self.inside c.args.self.now c.requires c.self.view_is c.in-Prio.priomap c.in-Prio.bands c.in-Prio.is)
    ∙ band-number (length c.in-Prio.bands.items) c.args.i (omega (arith, c.if-i-len.true, c.len.ensures)))

pub returns-in-Prio : goal.returns-in-Prio
returns-in-Prio c =
    sym (ap (λ ms. slice_get ms c.args.i) (minors-prio c.self.inside c.args.self.now c.requires c.self.view_is c.in-Prio.priomap c.in-Prio.bands c.in-Prio.is)
    ∙ no-band (length c.in-Prio.bands.items) c.args.i (omega (arith, c.if-i-len.false, c.len.ensures)))

pub returns-in_err-class_at-in-Drr : goal.returns-in_err-class_at-in-Drr
returns-in_err-class_at-in-Drr c =
    c.from_residual.ensures ∙ sym c.in_err-class_at-in-Drr.was ∙ c.class_at.ensures.value
    ∙ sym (ap (λ ms. slice_get ms c.args.i) (drr-minors c.self.inside c.args.self.now c.requires c.self.view_is c.in-Drr.active c.in-Drr.classes c.in-Drr.is)
    ∙ slice_get-map (λ (k : Class). k.name) c.in-Drr.active.classes c.args.i)

pub returns-in-Drr : goal.returns-in-Drr
returns-in-Drr c =
    minor-made c.new-in-Drr.result c.in_ok-class_at-in-Drr.field-0 c.new-in-Drr.ensures.in_range c.new-in-Drr.ensures.value
    (named-minor c.self.inside c.args.self.now c.requires c.self.view_is c.in-Drr.active c.in-Drr.classes c.in-Drr.is c.args.i
    c.in_ok-class_at-in-Drr.field-0 (sym c.class_at.ensures.value ∙ c.in_ok-class_at-in-Drr.was))
    ∙ sym c.in_ok-class_at-in-Drr.was ∙ c.class_at.ensures.value
    ∙ sym (ap (λ ms. slice_get ms c.args.i) (drr-minors c.self.inside c.args.self.now c.requires c.self.view_is c.in-Drr.active c.in-Drr.classes c.in-Drr.is)
    ∙ slice_get-map (λ (k : Class). k.name) c.in-Drr.active.classes c.args.i)

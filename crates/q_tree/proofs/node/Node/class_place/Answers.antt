use Rattle.std.proofs.Common.{◌≤◌, ◌∙◌, sym, ap, subst, arith}
use Rattle.q_drr.specs.Schedule.{place_of}
use Rattle.q_tree.proofs.answers.FindLemmas.{place-inside, place-past, drr-place}
use Rattle.q_tree.proofs.node.Node.class_place.Goals as goal

pub returns-then-place-len : goal.returns-then-place-len
returns-then-place-len c =
    place-inside c.self.inside c.args.self.now c.in-Prio.priomap c.in-Prio.bands c.args.minor c.from-place.result c.self.view_is c.in-Prio.is
    (c.from-place.ensures ∙ c.number.ensures.value) (subst (λ k. 1 ≤ k) (sym c.from-place.ensures) c.number.ensures.in_range.0) (omega (arith, c.if-place-len.true, c.len.ensures))

pub returns-in-Prio : goal.returns-in-Prio
returns-in-Prio c =
    place-past c.self.inside c.args.self.now c.in-Prio.priomap c.in-Prio.bands c.args.minor c.from-place.result c.self.view_is c.in-Prio.is
    (c.from-place.ensures ∙ c.number.ensures.value) (subst (λ k. 1 ≤ k) (sym c.from-place.ensures) c.number.ensures.in_range.0) (omega (arith, c.if-place-len.false, c.len.ensures))

pub returns-in-Drr : goal.returns-in-Drr
returns-in-Drr c =
    drr-place c.self.inside c.args.self.now c.in-Drr.active c.in-Drr.classes c.args.minor c.place_of.result c.self.view_is c.in-Drr.is
    (c.place_of.ensures.value ∙ ap (λ m. place_of m c.in-Drr.active.classes) c.number-in-Drr.ensures.value)

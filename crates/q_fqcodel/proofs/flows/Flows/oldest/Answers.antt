use Rattle.std.proofs.Common.{ℕ, List, take, refl, sym, ap, ap₂, ◌∙◌, arith, add-one}
use Rattle.std.proofs.lemmas.List.{take_all}
use Rattle.q_fqcodel.specs.FqState.{Flow}
use Rattle.q_fqcodel.specs.Oldest.{earlier, earliest, first_arrivals}
use Rattle.q_fqcodel.proofs.OldestLemmas.{oldest-next}
use Rattle.q_fqcodel.proofs.flows.Flows.oldest.Goals as goal

pub loop-flow-init : goal.loop-flow-init
loop-flow-init c = refl

pub loop-flow-preserved : goal.loop-flow-preserved
loop-flow-preserved c =
    let flows : List Flow = c.args.self.now.flows in
    let n : ℕ = c.loop-flow.flow in
    c.earlier-oldest.ensures
    ∙ ap₂ earlier c.loop-flow.invariant c.first_arrival.ensures
    ∙ oldest-next n flows (omega (arith, c.loop-flow-test.true, c.len-flow-end.ensures.value))
    ∙ ap (λ (k : ℕ). earliest (first_arrivals (take k flows))) (sym (add-one n))

pub returns : goal.returns
returns c =
    let flows : List Flow = c.args.self.now.flows in
    c.loop-flow.invariant
    ∙ ap (λ (fs : List Flow). earliest (first_arrivals fs))
    (take_all c.loop-flow.flow flows (omega (arith, c.loop-flow-test.false, c.len-flow-end.ensures.value, c.loop-flow.auto.flow-end)))

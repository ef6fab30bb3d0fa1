use Rattle.std.proofs.Common.{◌≡◌, List, [], length, get_or, set, sym, ap, ◌∙◌, arith}
use Rattle.std.proofs.lemmas.List.{length-set}
use Rattle.q_packet.specs.declared.stamped.Stamped.{Stamped}
use Rattle.q_codel.specs.Codel.{CodelState, CodelVars, joined}
use Rattle.q_fqcodel.specs.Cleared.{adjust}
use Rattle.q_fqcodel.specs.FlowsState.{FlowsState}
use Rattle.q_fqcodel.specs.FqState.{rested_flow}
use Rattle.q_fqcodel.specs.Pool.{flows_from, codels_in}
use Rattle.q_fqcodel.proofs.PooledLemmas.{length-flows_from, length-codels_in, codel_at, codels_in-set, codel_written}
use Rattle.q_fqcodel.proofs.flows.Flows.rest.Goals as goal

pub index_mut-requires : goal.index_mut-requires
index_mut-requires c =
    let p = c.self.inside.parameters in
    let vs = c.self.inside.states.items in
    omega (
      arith,
      c.requires,
      ap (λ (f : FlowsState). length f.flows) c.self.view_is,
      length-flows_from c.self.inside.pool.queues (codels_in p vs)
          c.self.invariant.0,
      length-codels_in p vs,
      c.self.inside.states.ok.0,
    )

pub invariant_of-self : goal.invariant_of-self
invariant_of-self c =
    let p = c.self.inside.parameters in
    let vs = c.self.inside.states.items in
    let v = c.rest.new.self in (
      c.self.invariant.0 ∙ length-codels_in p vs ∙ sym (length-set vs c.args.flow v) ∙ sym (length-codels_in p (set vs c.args.flow v)),
      omega (arith, length-set vs c.args.flow v, c.self.invariant.1),
      c.self.invariant.2,
      c.self.invariant.3,
    )

pub returns-clause-flows : goal.returns-clause-flows
unfolding rested_flow
returns-clause-flows c =
    let p = c.self.inside.parameters in
    let vs = c.self.inside.states.items in
    let n = c.args.flow in
    let qs = c.self.inside.pool.queues in
    let q : List Stamped = get_or qs n [] in
    let was = c.index_mut.result.now in
    let v = c.rest.new.self in
    let here : rested_flow (record { queue = q; codel = get_or (codels_in p vs) n (joined p was) }) ≡ record { queue = q; codel = joined p v } =
    ap (λ (s : CodelState). rested_flow (record { queue = q; codel = s })) (codel_at p vs n was ∙ ap (joined p) (sym c.index_mut.ensures.value))
    ∙ ap (λ (x : CodelVars). record { queue = q; codel = joined p x }) (sym c.rest.ensures) in
    ap (flows_from qs) (codels_in-set p vs n v)
    ∙ codel_written n qs (codels_in p vs) (joined p v) (joined p was) rested_flow here
    ∙ ap (λ (f : FlowsState). adjust rested_flow n f.flows) c.self.view_is

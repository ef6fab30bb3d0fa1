use Rattle.std.proofs.Common.{◌≡◌, ℕ, List, [], get_or, set, length, sym, ap, ◌∙◌, arith, subst}
use Rattle.q_packet.specs.declared.stamped.Stamped.{Stamped}
use Rattle.q_codel.specs.Codel.{CodelState, CodelVars, joined}
use Rattle.q_fqcodel.specs.Cleared.{adjust}
use Rattle.q_fqcodel.specs.Pool.{flows_from, codels_in, cleared}
use Rattle.q_fqcodel.specs.FlowsState.{FlowsState}
use Rattle.q_fqcodel.specs.FqState.{queue_of}
use Rattle.q_fqcodel.specs.Put.{shortened}
use Rattle.q_fqcodel.proofs.PooledLemmas.{length-flows_from, length-codels_in, codel_at, codels_in-set, codel_written}
use Rattle.std.proofs.lemmas.List.{take_all, length-set}
use Rattle.q_packet.specs.declared.cause.Cause.TheVariants.{Purged}
use Rattle.q_codel.specs.Losses.{AreLost}
use Rattle.q_fqcodel.proofs.FlowLemmas.{length-adjust}
use Rattle.q_fqcodel.proofs.ShedLemmas.{adjust-adjust, forgotten, emptied}
use Rattle.q_fqcodel.proofs.flows.Flows.empty.Goals as goal

pub index_mut-requires : goal.index_mut-requires
index_mut-requires g c =
    let same = ap (λ (f : FlowsState). f.flows) c.self.view_is in
    let n = c.count_of-count.result in
    omega (
      arith,
      c.requires.in_range,
      ap length same,
      ap length c.lose.ensures.flows,
      length-adjust (shortened n) c.args.flow c.args.self.now.flows,
      length-flows_from c.self.inside.pool.queues (codels_in c.self.inside.parameters c.self.inside.states.items) c.self.invariant.0,
      length-codels_in c.self.inside.parameters c.self.inside.states.items,
      c.self.inside.states.ok.0,
    )

pub invariant_of-self : goal.invariant_of-self
invariant_of-self g c =
    let p = c.self.inside.parameters in
    let vs = c.self.inside.states.items in
    let v = c.new.result in
    let n : ℕ = c.args.flow in (
      c.self.invariant.0 ∙ length-codels_in p vs ∙ sym (length-set vs n v) ∙ sym (length-codels_in p (set vs n v)),
      omega (arith, length-set vs n v, c.self.invariant.1),
      c.self.invariant.2,
      c.self.invariant.3,
    )

pub returns-clause-flows : goal.returns-clause-flows
unfolding cleared
returns-clause-flows g c =
    let p = c.self.inside.parameters in
    let vs = c.self.inside.states.items in
    let n : ℕ = c.count_of-count.result in
    let m : ℕ = c.args.flow in
    let qs = c.self.inside.pool.queues in
    let v = c.new.result in
    let was = c.index_mut.result.now in
    let here : forgotten (record { queue = get_or qs m []; codel = get_or (codels_in p vs) m (joined p was) }) ≡ record { queue = get_or qs m []; codel = joined p v } =
    ap (λ (s : CodelState). forgotten (record { queue = get_or qs m []; codel = s })) (codel_at p vs m was)
    ∙ ap (λ (x : CodelVars). record { queue = get_or qs m []; codel = joined p x }) (sym c.new.ensures) in
    ap (flows_from qs) (codels_in-set p vs m v)
    ∙ codel_written m qs (codels_in p vs) (joined p v) (joined p was) forgotten here
    ∙ ap (adjust forgotten m) (ap (λ (f : FlowsState). f.flows) c.self.view_is ∙ c.lose.ensures.flows)
    ∙ adjust-adjust (shortened n) forgotten m c.args.self.now.flows
    ∙ emptied m n c.args.self.now.flows c.count_of-count.ensures

pub returns-clause-lost : goal.returns-clause-lost
returns-clause-lost g c =
    let q : List Stamped = queue_of c.args.self.now.flows c.args.flow in
    subst (λ (l : List Stamped). AreLost Purged l (g.S.Sink.state c.args.sink.now) (g.S.Sink.state c.lose.new.sink))
    (take_all c.count_of-count.result q (omega (arith, c.count_of-count.ensures))) c.lose.ensures.lost

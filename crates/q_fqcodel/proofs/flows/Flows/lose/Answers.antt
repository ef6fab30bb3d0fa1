use Rattle.std.proofs.Common.{◌≡◌, ◌≢◌, ℕ, ◌<◌, List, [], length, get_or, set, take, drop, refl, sym, ap, ◌∙◌, arith, subst}
use Rattle.std.proofs.lemmas.List.{length-set}
use Rattle.q_packet.specs.Totals.{count}
use Rattle.q_packet.specs.declared.stamped.Stamped.{Stamped}
use Rattle.q_codel.specs.Losses.{AreLost}
use Rattle.q_fqcodel.specs.Cleared.{adjust}
use Rattle.q_fqcodel.specs.FlowsState.{FlowsState}
use Rattle.q_fqcodel.specs.FqState.{queue_of}
use Rattle.q_fqcodel.specs.Pool.{flows_from, codels_in}
use Rattle.q_fqcodel.specs.Put.{shortened}
use Rattle.q_fqcodel.proofs.PooledLemmas.{queue_there, queue_written, flow_with, length-sizes, sizes_renewed}
use Rattle.q_fqcodel.proofs.ShedLemmas.{shortened_none}
use Rattle.q_fqcodel.proofs.flows.Flows.lose.Goals as goal
use Rattle.q_fqcodel.proofs.flows.Flows.lose.Goals.{Else-lost-eq0, After-lose_from}

pub returns-then-lost-eq0-clause-flows : goal.returns-then-lost-eq0-clause-flows
returns-then-lost-eq0-clause-flows g c =
    sym (shortened_none c.args.flow c.args.self.now.flows) ∙ ap (λ (n : ℕ). adjust (shortened n) c.args.flow c.args.self.now.flows) (sym c.if-lost-eq0.true)

-- the flow's queue, as the pool has it
own : (g : _) (c : After-lose_from g) → queue_of c.args.self.now.flows c.args.flow ≡ get_or c.self.inside.pool.queues c.args.flow []
own g c =
    ap (λ (f : FlowsState). queue_of f.flows c.args.flow) (sym c.self.view_is) ∙ queue_there c.args.flow c.self.inside.pool.queues
    (codels_in c.self.inside.parameters c.self.inside.states.items) c.self.invariant.0

pub lose_from-requires-clause-held : goal.lose_from-requires-clause-held
lose_from-requires-clause-held g c =
    omega (
      arith,
      c.requires.held,
      ap (λ (f : FlowsState). count (queue_of f.flows c.args.flow)) c.self.view_is,
      ap count (queue_there c.args.flow c.self.inside.pool.queues (codels_in c.self.inside.parameters c.self.inside.states.items) c.self.invariant.0),
    )

within : (g : _) (c : After-lose_from g) → c.args.lost ≢ 0 → c.args.flow < length c.self.inside.pool.queues
within g c some = flow_with c.self.inside.pool.queues c.args.flow (omega (arith, c.requires.held, ap count (own g c), some))

pub renew-requires-clause-in_range : goal.renew-requires-clause-in_range
renew-requires-clause-in_range g c =
    omega (arith, within g (goal.at.renew-requires-clause-in_range g c).After-lose_from c.if-lost-eq0.false, ap length c.self.invariant.2, length-sizes c.self.inside.pool.queues)

pub invariant_of-self : goal.invariant_of-self
invariant_of-self g c =
    let qs : List (List Stamped) = c.self.inside.pool.queues in
    let n : ℕ = c.args.flow in
    let rest : List Stamped = drop c.args.lost (get_or qs n []) in (
      ap length c.lose_from.ensures.queues ∙ length-set qs n rest ∙ c.self.invariant.0,
      c.self.invariant.1,
      sizes_renewed qs c.lose_from.new.pool.queues n rest c.renew.new.self c.bytes_of-rest.result c.lose_from.ensures.queues
          (within g (goal.at.invariant_of-self g c).After-lose_from c.if-lost-eq0.false)
          (c.renew.ensures ∙ ap (λ (l : List ℕ). set l n c.bytes_of-rest.result) c.self.invariant.2) c.bytes_of-rest.ensures.value,
      c.self.invariant.3,
    )

pub returns-clause-flows : goal.returns-clause-flows
returns-clause-flows g c =
    let qs : List (List Stamped) = c.self.inside.pool.queues in
    let n : ℕ = c.args.flow in
    let cs = (codels_in c.self.inside.parameters c.self.inside.states.items) in
    ap (λ (l : List (List Stamped)). flows_from l cs) c.lose_from.ensures.queues
    ∙ queue_written n qs (drop c.args.lost (get_or qs n [])) cs (shortened c.args.lost) (λ k. refl)
    ∙ ap (λ (f : FlowsState). adjust (shortened c.args.lost) n f.flows) c.self.view_is

pub returns-clause-lost : goal.returns-clause-lost
returns-clause-lost g c =
    subst (λ (q : List Stamped). AreLost c.args.cause (take c.args.lost q) (g.S.Sink.state c.args.sink.now) (g.S.Sink.state c.lose_from.new.sink))
    (sym (own g (goal.at.returns-clause-lost g c).After-lose_from)) c.lose_from.ensures.lost

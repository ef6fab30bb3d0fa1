use Rattle.std.proofs.Common.{◌≡◌, ℕ, ◌%◌, ◌<◌, List, [], ◌∷◌, ◌++◌, length, get_or, set, refl, ap, ◌∙◌, arith}
use Rattle.q_packet.specs.declared.stamped.Stamped.{Stamped}
use Rattle.q_fqcodel.specs.Cleared.{adjust}
use Rattle.q_fqcodel.specs.FlowsState.{FlowsState}
use Rattle.q_fqcodel.specs.FqState.{packets_of}
use Rattle.q_fqcodel.specs.Pool.{stamp, flows_from, codels_in}
use Rattle.q_fqcodel.specs.Put.{joined}
use Rattle.q_fqcodel.proofs.PooledLemmas.{length-flows_from, queue_written, packets_pooled, length-sizes, sizes_at, sizes_renewed}
use Rattle.std.proofs.lemmas.List.{length-set, get_or-set_same}
use Rattle.std.proofs.lemmas.List.Sums.{sum_by-append}
use Rattle.q_packet.specs.Totals.{size}
use Rattle.q_fqcodel.proofs.flows.Flows.push.Goals as goal
use Rattle.q_fqcodel.proofs.flows.Flows.push.Goals.{After-push-held}

pub push-held-requires-clause-place : goal.push-held-requires-clause-place
push-held-requires-clause-place c =
    let same = ap (λ (f : FlowsState). f.flows) c.self.view_is in
    omega (
      arith,
      c.requires.place,
      ap packets_of same,
      ap (λ (f : FlowsState). f.places) c.self.view_is,
      packets_pooled c.self.inside.pool.queues
          (codels_in c.self.inside.parameters c.self.inside.states.items) c.self.invariant.0,
    )

pub push-held-requires-clause-few : goal.push-held-requires-clause-few
push-held-requires-clause-few c =
    let same = ap (λ (f : FlowsState). f.flows) c.self.view_is in
    omega (arith, c.requires.few, ap packets_of same, packets_pooled c.self.inside.pool.queues (codels_in c.self.inside.parameters c.self.inside.states.items) c.self.invariant.0)

pub push-held-requires-clause-in_range : goal.push-held-requires-clause-in_range
push-held-requires-clause-in_range c =
    let same = ap (λ (f : FlowsState). f.flows) c.self.view_is in
    omega (
      arith,
      c.requires.in_range,
      ap length same,
      length-flows_from c.self.inside.pool.queues
          (codels_in c.self.inside.parameters c.self.inside.states.items) c.self.invariant.0,
      c.self.invariant.0,
    )

pub push-held-requires-clause-own : goal.push-held-requires-clause-own
push-held-requires-clause-own c =
    let count : length c.self.inside.pool.queues ≡ length c.args.self.now.flows =
    omega (
      arith,
      ap (λ (f : FlowsState). length f.flows) c.self.view_is,
      length-flows_from c.self.inside.pool.queues
          (codels_in c.self.inside.parameters c.self.inside.states.items) c.self.invariant.0,
      c.self.invariant.0,
    ) in
    ap (λ (n : ℕ). c.args.packet.now.hash % n) count ∙ c.requires.own

within : (c : After-push-held) → c.args.flow < length c.self.inside.pool.queues
within c =
    let same = ap (λ (f : FlowsState). f.flows) c.self.view_is in
    omega (
      arith,
      c.requires.in_range,
      ap length same,
      length-flows_from c.self.inside.pool.queues
          (codels_in c.self.inside.parameters c.self.inside.states.items) c.self.invariant.0,
      c.self.invariant.0,
    )

pub renew-requires-clause-in_range : goal.renew-requires-clause-in_range
renew-requires-clause-in_range c =
    let qs = c.self.inside.pool.queues in
    omega (arith, within (goal.at.renew-requires-clause-in_range c).After-push-held, ap length c.self.invariant.2, length-sizes qs)

pub renew-requires-clause-rose : goal.renew-requires-clause-rose
renew-requires-clause-rose c _ =
    let n : ℕ = c.args.flow in
    let qs : List (List Stamped) = c.self.inside.pool.queues in
    let s : Stamped = stamp c.args.packet.now c.args.now in
    let q : List Stamped = get_or qs n [] ++ s ∷ [] in
    omega (
      arith,
      ap (λ (l : List ℕ). get_or l n 0) c.self.invariant.2,
      sizes_at qs n,
      c.push-held.ensures.bytes,
      ap (λ (l : List (List Stamped)). size (get_or l n [])) c.push-held.ensures.queues,
      ap size (get_or-set_same qs n q [] (within (goal.at.renew-requires-clause-rose c).After-push-held)),
      sum_by-append (λ (x : Stamped). x.packet.len) (get_or qs n []) (s ∷ []),
    )

pub invariant_of-self : goal.invariant_of-self
invariant_of-self c =
    let qs : List (List Stamped) = c.self.inside.pool.queues in (
      ap length c.push-held.ensures.queues ∙ length-set qs _ _ ∙ c.self.invariant.0,
      c.self.invariant.1,
      sizes_renewed qs c.push-held.new.self.queues c.args.flow (get_or qs c.args.flow [] ++ (stamp c.args.packet.now c.args.now) ∷ [])
          c.renew.new.self c.push-held.result c.push-held.ensures.queues (within (goal.at.invariant_of-self c).After-push-held)
          (c.renew.ensures ∙ ap (λ (l : List ℕ). set l c.args.flow c.push-held.result) c.self.invariant.2) c.push-held.ensures.bytes,
      c.self.invariant.3,
    )

pub returns-clause-flows : goal.returns-clause-flows
returns-clause-flows c =
    let same = ap (λ (f : FlowsState). f.flows) c.self.view_is in
    let n = c.args.flow in
    let qs : List (List Stamped) = c.self.inside.pool.queues in
    let s : Stamped = (stamp c.args.packet.now c.args.now) in
    ap (λ (l : List (List Stamped)). flows_from l (codels_in c.self.inside.parameters c.self.inside.states.items)) c.push-held.ensures.queues
    ∙ queue_written n qs (get_or qs n [] ++ s ∷ []) (codels_in c.self.inside.parameters c.self.inside.states.items) (joined s) (λ k. refl)
    ∙ ap (adjust (joined s) n) same

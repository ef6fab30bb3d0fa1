use Rattle.std.proofs.Common.{◌≡◌, ℕ, ◌%◌, ◌<◌, List, [], ◌∷◌, ◌++◌, length, get_or, set, take, drop, refl, sym, ap, ◌∙◌, arith, subst}
use Rattle.std.proofs.lemmas.List.{length-set, set-set}
use Rattle.q_packet.specs.Totals.{count, size}
use Rattle.q_packet.specs.declared.stamped.Stamped.{Stamped}
use Rattle.q_packet.specs.declared.cause.Cause.TheVariants.{FatFlow}
use Rattle.q_codel.specs.Codel.{CodelState}
use Rattle.q_codel.specs.Losses.{AreLost}
use Rattle.q_fqcodel.specs.Cleared.{adjust}
use Rattle.q_fqcodel.specs.FlowsState.{FlowsState}
use Rattle.q_fqcodel.specs.FqState.{Flow, queue_of, packets_of}
use Rattle.q_fqcodel.specs.Pool.{stamp, flows_from, codels_in, sizes}
use Rattle.q_fqcodel.specs.Put.{joined, shortened}
use Rattle.q_fqcodel.proofs.PooledLemmas.{length-flows_from, queue_there, queue_written, packets_pooled, length-sizes, sizes-set, sizes_renewed}
use Rattle.q_fqcodel.proofs.flows.Flows.exchange.Goals as goal
use Rattle.q_fqcodel.proofs.flows.Flows.exchange.Goals.{After-push}

pub push-requires-clause-place : goal.push-requires-clause-place
push-requires-clause-place g c =
    let same = ap (λ (f : FlowsState). f.flows) c.self.view_is in
    omega (
      arith,
      c.requires.place,
      ap packets_of same,
      ap (λ (f : FlowsState). f.places) c.self.view_is,
      packets_pooled c.self.inside.pool.queues
          (codels_in c.self.inside.parameters c.self.inside.states.items) c.self.invariant.0,
    )

pub push-requires-clause-few : goal.push-requires-clause-few
push-requires-clause-few g c =
    let same = ap (λ (f : FlowsState). f.flows) c.self.view_is in
    omega (arith, c.requires.few, ap packets_of same, packets_pooled c.self.inside.pool.queues (codels_in c.self.inside.parameters c.self.inside.states.items) c.self.invariant.0)

pub push-requires-clause-in_range : goal.push-requires-clause-in_range
push-requires-clause-in_range g c =
    let same = ap (λ (f : FlowsState). f.flows) c.self.view_is in
    omega (
      arith,
      c.requires.in_range,
      ap length same,
      length-flows_from c.self.inside.pool.queues
          (codels_in c.self.inside.parameters c.self.inside.states.items) c.self.invariant.0,
      c.self.invariant.0,
    )

pub push-requires-clause-own : goal.push-requires-clause-own
push-requires-clause-own g c =
    let count : length c.self.inside.pool.queues ≡ length c.args.self.now.flows =
    omega (
      arith,
      ap (λ (f : FlowsState). length f.flows) c.self.view_is,
      length-flows_from c.self.inside.pool.queues
          (codels_in c.self.inside.parameters c.self.inside.states.items) c.self.invariant.0,
      c.self.invariant.0,
    ) in
    ap (λ (n : ℕ). c.args.packet.now.hash % n) count ∙ c.requires.own

within : (g : _) (c : After-push g) → c.args.flow < length c.self.inside.pool.queues
within g c =
    let same = ap (λ (f : FlowsState). f.flows) c.self.view_is in
    omega (
      arith,
      c.requires.in_range,
      ap length same,
      length-flows_from c.self.inside.pool.queues
          (codels_in c.self.inside.parameters c.self.inside.states.items) c.self.invariant.0,
      c.self.invariant.0,
    )

abbrev codels : (g : _) → After-push g → List CodelState
codels g c = codels_in c.self.inside.parameters c.self.inside.states.items

-- the queues once the packet has joined
longer : (g : _) (c : After-push g) → length c.push.new.self.queues ≡ length c.self.inside.pool.queues
longer g c = ap length c.push.ensures.queues ∙ length-set c.self.inside.pool.queues _ _

joined_is : (g : _) (c : After-push g) → flows_from c.push.new.self.queues (codels g c) ≡ adjust (joined (stamp c.args.packet.now c.args.now)) c.args.flow c.args.self.now.flows
joined_is g c =
    let n : ℕ = c.args.flow in
    let qs : List (List Stamped) = c.self.inside.pool.queues in
    let s : Stamped = (stamp c.args.packet.now c.args.now) in
    ap (λ (l : List (List Stamped)). flows_from l (codels g c)) c.push.ensures.queues
    ∙ queue_written n qs (get_or qs n [] ++ s ∷ []) (codels g c) (joined s) (λ k. refl)
    ∙ ap (λ (f : FlowsState). adjust (joined s) n f.flows) c.self.view_is

queue_is : (g : _) (c : After-push g) → queue_of (adjust (joined (stamp c.args.packet.now c.args.now)) c.args.flow c.args.self.now.flows) c.args.flow ≡ get_or c.push.new.self.queues c.args.flow []
queue_is g c =
    ap (λ (f : List Flow). queue_of f c.args.flow) (sym (joined_is g c)) ∙ queue_there c.args.flow c.push.new.self.queues (codels g c) (longer g c ∙ c.self.invariant.0)

pub lose_from-requires-clause-held : goal.lose_from-requires-clause-held
lose_from-requires-clause-held g c = omega (arith, c.requires.held, ap count (queue_is g (goal.at.lose_from-requires-clause-held g c).After-push))

pub renew-requires-clause-in_range : goal.renew-requires-clause-in_range
renew-requires-clause-in_range g c =
    omega (arith, within g (goal.at.renew-requires-clause-in_range g c).After-push, ap length c.self.invariant.2, length-sizes c.self.inside.pool.queues)

pub invariant_of-self : goal.invariant_of-self
invariant_of-self g c =
    let d = (goal.at.invariant_of-self g c).After-push in
    let n : ℕ = c.args.flow in
    let qs : List (List Stamped) = c.self.inside.pool.queues in
    let more : List (List Stamped) = c.push.new.self.queues in
    let q : List Stamped = get_or qs n [] ++ (stamp c.args.packet.now c.args.now) ∷ [] in
    let rest : List Stamped = drop c.args.lost (get_or more n []) in
    let told : c.renew.new.self ≡ set (sizes more) n c.bytes_of-kept.result =
    c.renew.ensures
    ∙ ap (λ (l : List ℕ). set l n c.bytes_of-kept.result) c.self.invariant.2
    ∙ sym (ap (λ (l : List ℕ). set l n c.bytes_of-kept.result) (ap sizes c.push.ensures.queues ∙ sizes-set qs n q) ∙ set-set (sizes qs) n (size q) c.bytes_of-kept.result) in (
      ap length c.lose_from.ensures.queues ∙ length-set more n rest ∙ longer g d ∙ c.self.invariant.0,
      c.self.invariant.1,
      sizes_renewed more c.lose_from.new.pool.queues n rest c.renew.new.self c.bytes_of-kept.result c.lose_from.ensures.queues
          (omega (arith, within g d, longer g d)) told c.bytes_of-kept.ensures.value,
      c.self.invariant.3,
    )

pub returns-clause-flows : goal.returns-clause-flows
returns-clause-flows g c =
    let d = (goal.at.returns-clause-flows g c).After-push in
    let n : ℕ = c.args.flow in
    let more : List (List Stamped) = c.push.new.self.queues in
    ap (λ (l : List (List Stamped)). flows_from l (codels g d)) c.lose_from.ensures.queues
    ∙ queue_written n more (drop c.args.lost (get_or more n [])) (codels g d) (shortened c.args.lost) (λ k. refl)
    ∙ ap (adjust (shortened c.args.lost) n) (joined_is g d)

pub returns-clause-lost : goal.returns-clause-lost
returns-clause-lost g c =
    subst (λ (q : List Stamped). AreLost FatFlow (take c.args.lost q) (g.S.Sink.state c.args.sink.now) (g.S.Sink.state c.lose_from.new.sink))
    (sym (queue_is g (goal.at.returns-clause-lost g c).After-push)) c.lose_from.ensures.lost

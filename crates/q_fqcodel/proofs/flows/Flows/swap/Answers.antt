use Rattle.std.proofs.Common.{◌≡◌, ℕ, ◌%◌, ◌<◌, List, [], ◌∷◌, ◌++◌, length, get_or, set, take, drop, refl, sym, ap, ◌∙◌, arith, subst}
use Rattle.std.proofs.lemmas.List.{length-set, get_or-set_other}
use Rattle.q_packet.specs.Totals.{count}
use Rattle.q_packet.specs.declared.stamped.Stamped.{Stamped}
use Rattle.q_packet.specs.declared.cause.Cause.TheVariants.{FatFlow}
use Rattle.q_codel.specs.Codel.{CodelState}
use Rattle.q_codel.specs.Losses.{AreLost}
use Rattle.q_fqcodel.specs.Cleared.{adjust}
use Rattle.q_fqcodel.specs.FlowsState.{FlowsState}
use Rattle.q_fqcodel.specs.FqState.{Flow, queue_of, packets_of}
use Rattle.q_fqcodel.specs.Pool.{stamp, flows_from, codels_in, sizes}
use Rattle.q_fqcodel.specs.Put.{joined, shortened}
use Rattle.q_fqcodel.proofs.MovedLemmas.{fuller, moved_is, first_kept, grown, fallen, one_told, both_told}
use Rattle.q_fqcodel.proofs.PooledLemmas.{length-flows_from, queue_there, queue_written, flow_with, sizes_at, length-sizes, packets_pooled}
use Rattle.q_fqcodel.proofs.flows.Flows.swap.Goals as goal
use Rattle.q_fqcodel.proofs.flows.Flows.swap.Goals.{After-replace-own, After-renew-2}

pub replace-own-requires-clause-in_range : goal.replace-own-requires-clause-in_range
replace-own-requires-clause-in_range g c =
    let same = ap (λ (f : FlowsState). f.flows) c.self.view_is in
    omega (
      arith,
      c.requires.in_range,
      ap length same,
      length-flows_from c.self.inside.pool.queues
          (codels_in c.self.inside.parameters c.self.inside.states.items) c.self.invariant.0,
      c.self.invariant.0,
    )

pub replace-own-requires-clause-own : goal.replace-own-requires-clause-own
replace-own-requires-clause-own g c =
    let count : length c.self.inside.pool.queues ≡ length c.args.self.now.flows =
    omega (
      arith,
      ap (λ (f : FlowsState). length f.flows) c.self.view_is,
      length-flows_from c.self.inside.pool.queues
          (codels_in c.self.inside.parameters c.self.inside.states.items) c.self.invariant.0,
      c.self.invariant.0,
    ) in
    ap (λ (n : ℕ). c.args.packet.now.hash % n) count ∙ c.requires.own

pub replace-own-requires-clause-place : goal.replace-own-requires-clause-place
replace-own-requires-clause-place g c =
    let same = ap (λ (f : FlowsState). f.flows) c.self.view_is in
    omega (
      arith,
      c.requires.place,
      ap packets_of same,
      ap (λ (f : FlowsState). f.places) c.self.view_is,
      packets_pooled c.self.inside.pool.queues
          (codels_in c.self.inside.parameters c.self.inside.states.items) c.self.invariant.0,
    )

pub replace-own-requires-clause-few : goal.replace-own-requires-clause-few
replace-own-requires-clause-few g c =
    let same = ap (λ (f : FlowsState). f.flows) c.self.view_is in
    omega (arith, c.requires.few, ap packets_of same, packets_pooled c.self.inside.pool.queues (codels_in c.self.inside.parameters c.self.inside.states.items) c.self.invariant.0)

pub replace-own-requires-clause-some : goal.replace-own-requires-clause-some
replace-own-requires-clause-some g c =
    omega (
      arith,
      c.requires.held,
      ap (λ (f : FlowsState). count (queue_of f.flows c.args.fat)) c.self.view_is,
      ap count (queue_there c.args.fat c.self.inside.pool.queues (codels_in c.self.inside.parameters c.self.inside.states.items) c.self.invariant.0),
    )

abbrev codels : (g : _) → After-replace-own g → List CodelState
codels g c = codels_in c.self.inside.parameters c.self.inside.states.items

-- the fat flow has a packet
some : (g : _) (c : After-replace-own g) → 0 < count (get_or c.self.inside.pool.queues c.args.fat [])
some g c =
    omega (
      arith,
      c.requires.held,
      ap (λ (f : FlowsState). count (queue_of f.flows c.args.fat)) c.self.view_is,
      ap count (queue_there c.args.fat c.self.inside.pool.queues (codels g c) c.self.invariant.0),
    )

within : (g : _) (c : After-replace-own g) → c.args.flow < length c.self.inside.pool.queues
within g c =
    let same = ap (λ (f : FlowsState). f.flows) c.self.view_is in
    omega (arith, c.requires.in_range, ap length same, length-flows_from c.self.inside.pool.queues (codels g c) c.self.invariant.0, c.self.invariant.0)

-- the queues once the packet has joined
abbrev more : (g : _) → After-replace-own g → List (List Stamped)
more g c = fuller c.self.inside.pool.queues c.args.fat c.args.flow (stamp c.args.packet.now c.args.now) (some g c) (within g c)

joined_is : (g : _) (c : After-replace-own g) → flows_from (more g c) (codels g c) ≡ adjust (joined (stamp c.args.packet.now c.args.now)) c.args.flow c.args.self.now.flows
joined_is g c =
    let n : ℕ = c.args.flow in
    let qs : List (List Stamped) = c.self.inside.pool.queues in
    let s : Stamped = (stamp c.args.packet.now c.args.now) in
    queue_written n qs (get_or qs n [] ++ s ∷ []) (codels g c) (joined s) (λ k. refl)
    ∙ ap (λ (f : FlowsState). adjust (joined s) n f.flows) c.self.view_is

longer : (g : _) (c : After-replace-own g) → length (more g c) ≡ length (codels g c)
longer g c = length-set c.self.inside.pool.queues c.args.flow (get_or c.self.inside.pool.queues c.args.flow [] ++ (stamp c.args.packet.now c.args.now) ∷ []) ∙ c.self.invariant.0

queue_is : (g : _) (c : After-replace-own g) → queue_of (adjust (joined (stamp c.args.packet.now c.args.now)) c.args.flow c.args.self.now.flows) c.args.fat ≡ get_or (more g c) c.args.fat []
queue_is g c = ap (λ (f : List Flow). queue_of f c.args.fat) (sym (joined_is g c)) ∙ queue_there c.args.fat (more g c) (codels g c) (longer g c)

flows_are : (g : _) (c : After-replace-own g)
    → flows_from c.replace-own.new.self.queues (codels g c) ≡ adjust (shortened 1) c.args.fat
    (adjust (joined (stamp c.args.packet.now c.args.now)) c.args.flow c.args.self.now.flows)
flows_are g c =
    let qs : List (List Stamped) = c.self.inside.pool.queues in
    ap (λ (l : List (List Stamped)). flows_from l (codels g c)) (c.replace-own.ensures.queues ∙ moved_is qs c.args.fat c.args.flow (stamp c.args.packet.now c.args.now) (some g c) (within g c))
    ∙ queue_written c.args.fat (more g c) (drop 1 (get_or (more g c) c.args.fat [])) (codels g c) (shortened 1) (λ k. refl)
    ∙ ap (adjust (shortened 1) c.args.fat) (joined_is g c)

lengths : (g : _) (c : After-replace-own g) → length c.replace-own.new.self.queues ≡ length (codels g c)
lengths g c =
    let qs : List (List Stamped) = c.self.inside.pool.queues in
    ap length (c.replace-own.ensures.queues ∙ moved_is qs c.args.fat c.args.flow (stamp c.args.packet.now c.args.now) (some g c) (within g c))
    ∙ length-set (more g c) c.args.fat (drop 1 (get_or (more g c) c.args.fat []))
    ∙ longer g c

in_winners : (g : _) (c : After-replace-own g) → c.args.flow < length c.self.inside.winners
in_winners g c = omega (arith, within g c, ap length c.self.invariant.2, length-sizes c.self.inside.pool.queues)

pub renew-requires-clause-in_range : goal.renew-requires-clause-in_range
renew-requires-clause-in_range g c = in_winners g (goal.at.renew-requires-clause-in_range g c).After-replace-own

pub invariant_of-self : goal.invariant_of-self
invariant_of-self g c =
    let d = (goal.at.invariant_of-self g c).After-replace-own in (
      lengths g d,
      c.self.invariant.1,
      one_told c.self.inside.pool.queues c.args.fat c.args.flow (stamp c.args.packet.now c.args.now) (some g d) (within g d) c.replace-own.new.self.queues c.replace-own.ensures.queues
          c.renew.new.self c.replace-own.result (c.renew.ensures ∙ ap (λ (l : List ℕ). set l c.args.flow c.replace-own.result) c.self.invariant.2) c.replace-own.ensures.bytes c.if-fat-flow.true,
      c.self.invariant.3,
    )

pub returns-then-fat-flow-clause-flows : goal.returns-then-fat-flow-clause-flows
returns-then-fat-flow-clause-flows g c = flows_are g (goal.at.returns-then-fat-flow-clause-flows g c).After-replace-own

pub returns-then-fat-flow-clause-lost : goal.returns-then-fat-flow-clause-lost
returns-then-fat-flow-clause-lost g c =
    let d = (goal.at.returns-then-fat-flow-clause-lost g c).After-replace-own in
    subst (λ (q : List Stamped). AreLost FatFlow q (g.S.Sink.state c.args.sink.now) (g.S.Sink.state c.replace-own.new.sink))
    (sym (ap (take 1) (queue_is g d) ∙ first_kept c.self.inside.pool.queues c.args.fat c.args.flow (stamp c.args.packet.now c.args.now) (some g d) (within g d))) c.replace-own.ensures.lost

pub renew-requires-2-clause-in_range : goal.renew-requires-2-clause-in_range
renew-requires-2-clause-in_range g c = in_winners g (goal.at.renew-requires-2-clause-in_range g c).After-replace-own

pub renew-requires-2-clause-rose : goal.renew-requires-2-clause-rose
renew-requires-2-clause-rose g c _ =
    let d = (goal.at.renew-requires-2-clause-rose g c).After-replace-own in
    let qs : List (List Stamped) = c.self.inside.pool.queues in
    omega (
      arith,
      ap (λ (l : List ℕ). get_or l c.args.flow 0) c.self.invariant.2,
      sizes_at qs c.args.flow,
      grown qs c.args.fat c.args.flow (stamp c.args.packet.now c.args.now) (some g d) (within g d) c.replace-own.new.self.queues
          c.replace-own.ensures.queues c.replace-own.result c.replace-own.ensures.bytes c.if-fat-flow.false,
    )

told : (g : _) (c : After-renew-2 g) → c.renew-2.new.self ≡ set (sizes c.self.inside.pool.queues) c.args.flow c.replace-own.result
told g c = c.renew-2.ensures ∙ ap (λ (l : List ℕ). set l c.args.flow c.replace-own.result) c.self.invariant.2

pub bytes_at-rest-requires : goal.bytes_at-rest-requires
bytes_at-rest-requires g c =
    let d = (goal.at.bytes_at-rest-requires g c).After-replace-own in
    omega (arith, flow_with c.self.inside.pool.queues c.args.fat (some g d), lengths g d, c.self.invariant.0)

pub renew-requires-3-clause-in_range : goal.renew-requires-3-clause-in_range
renew-requires-3-clause-in_range g c =
    let d = (goal.at.renew-requires-3-clause-in_range g c).After-replace-own in
    let e = (goal.at.renew-requires-3-clause-in_range g c).After-renew-2 in
    omega (
      arith,
      flow_with c.self.inside.pool.queues c.args.fat (some g d),
      ap length (told g e),
      length-set (sizes c.self.inside.pool.queues) c.args.flow c.replace-own.result,
      length-sizes c.self.inside.pool.queues,
    )

pub renew-requires-3-clause-fell : goal.renew-requires-3-clause-fell
renew-requires-3-clause-fell g c _ =
    let d = (goal.at.renew-requires-3-clause-fell g c).After-replace-own in
    let e = (goal.at.renew-requires-3-clause-fell g c).After-renew-2 in
    let qs : List (List Stamped) = c.self.inside.pool.queues in
    omega (
      arith,
      ap (λ (l : List ℕ). get_or l c.args.fat 0) (told g e),
      get_or-set_other (sizes qs) c.args.flow c.args.fat c.replace-own.result 0 c.if-fat-flow.false,
      sizes_at qs c.args.fat,
      fallen qs c.args.fat c.args.flow (stamp c.args.packet.now c.args.now) (some g d) (within g d) c.replace-own.new.self.queues
          c.replace-own.ensures.queues c.bytes_at-rest.result c.bytes_at-rest.ensures.value c.if-fat-flow.false,
    )

pub invariant_of-self-2 : goal.invariant_of-self-2
invariant_of-self-2 g c =
    let d = (goal.at.invariant_of-self-2 g c).After-replace-own in
    let e = (goal.at.invariant_of-self-2 g c).After-renew-2 in (
      lengths g d,
      c.self.invariant.1,
      both_told c.self.inside.pool.queues c.args.fat c.args.flow (stamp c.args.packet.now c.args.now) (some g d) (within g d) c.replace-own.new.self.queues c.replace-own.ensures.queues
          c.renew-2.new.self c.replace-own.result (told g e) c.replace-own.ensures.bytes
          c.renew-3.new.self c.bytes_at-rest.result c.renew-3.ensures c.bytes_at-rest.ensures.value c.if-fat-flow.false,
      c.self.invariant.3,
    )

pub returns-clause-flows : goal.returns-clause-flows
returns-clause-flows g c = flows_are g (goal.at.returns-clause-flows g c).After-replace-own

pub returns-clause-lost : goal.returns-clause-lost
returns-clause-lost g c =
    let d = (goal.at.returns-clause-lost g c).After-replace-own in
    subst (λ (q : List Stamped). AreLost FatFlow q (g.S.Sink.state c.args.sink.now) (g.S.Sink.state c.replace-own.new.sink))
    (sym (ap (take 1) (queue_is g d) ∙ first_kept c.self.inside.pool.queues c.args.fat c.args.flow (stamp c.args.packet.now c.args.now) (some g d) (within g d))) c.replace-own.ensures.lost

use Rattle.std.proofs.Common.{◌≡◌, ℕ, ◌-◌, ◌<◌, List, [], length, take, drop, get_or, set, sym, ap, ap₂, ◌∙◌, arith, subst, Option, IfSome, Some, option_map, true, false}
use Rattle.std.specs.Prelude.{slice_get}
use Rattle.std.proofs.lemmas.List.{length-set, get_or_default, get_or-set_same}
use Rattle.q_packet.specs.Totals.{count, size}
use Rattle.q_packet.specs.declared.stamped.Stamped.{Stamped}
use Rattle.q_codel.specs.Codel.{CodelState, CodelVars, joined, sent, is_late}
use Rattle.q_fqcodel.specs.Cleared.{adjust}
use Rattle.q_fqcodel.specs.FlowsState.{FlowsState}
use Rattle.q_fqcodel.specs.FqState.{Flow, queue_of}
use Rattle.q_fqcodel.specs.Pool.{flows_from, codels_in}
use Rattle.q_fqcodel.specs.Take.{taken_as, packet_sent, packets_dropped, flow_after}
use Rattle.q_fqcodel.proofs.PassedLemmas.{Passed, passed, front_within, behind_is, late}
use Rattle.q_fqcodel.proofs.PooledLemmas.{length-flows_from, flow_read, queue_there, flow_written, length-sizes, sizes_at, sizes_renewed, length-codels_in, codel_at, codels_in-set}
use Rattle.q_fqcodel.proofs.flows.Flows.pass_into.Goals as goal
use Rattle.q_fqcodel.proofs.flows.Flows.pass_into.Goals.{After-index-codel, After-take_of_into, After-index_mut}

pub peek-front-requires : goal.peek-front-requires
peek-front-requires c =
    let same = ap (λ (f : FlowsState). f.flows) c.self.view_is in
    omega (
      arith,
      c.requires.some,
      ap count (queue_there c.args.flow c.self.inside.pool.queues (codels_in c.self.inside.parameters c.self.inside.states.items) c.self.invariant.0),
      ap (λ (fs : List Flow). count (queue_of fs c.args.flow)) same,
    )

pub overflow_sub-behind : goal.overflow_sub-behind
overflow_sub-behind c = front_within _ c.peek-front.result.0 c.peek-front.result.1 c.peek-front.ensures.front c.peek-front.ensures.bytes

pub index-codel-requires : goal.index-codel-requires
index-codel-requires c =
    let same = ap (λ (f : FlowsState). f.flows) c.self.view_is in
    omega (
      arith,
      c.requires.in_range,
      ap length same,
      length-flows_from c.self.inside.pool.queues
          (codels_in c.self.inside.parameters c.self.inside.states.items) c.self.invariant.0,
      length-codels_in c.self.inside.parameters
          c.self.inside.states.items,
      c.self.inside.states.ok.0,
    )

within : (c : After-index-codel) → c.args.flow < length (codels_in c.self.inside.parameters c.self.inside.states.items)
within c =
    let same = ap (λ (f : FlowsState). f.flows) c.self.view_is in
    omega (arith, c.requires.in_range, ap length same, length-flows_from c.self.inside.pool.queues (codels_in c.self.inside.parameters c.self.inside.states.items) c.self.invariant.0)

pub index_mut-requires : goal.index_mut-requires
index_mut-requires c =
    omega (arith, within (goal.at.index_mut-requires c).After-index-codel, length-codels_in c.self.inside.parameters c.self.inside.states.items, c.self.inside.states.ok.0)

-- what CoDel knew of the flow
abbrev was : After-index-codel → CodelState
was c = joined c.self.inside.parameters c.index-codel.result.now

read : (c : After-index-codel) → was c ≡ get_or (codels_in c.self.inside.parameters c.self.inside.states.items) c.args.flow (was c)
read c = ap (joined c.self.inside.parameters) c.index-codel.ensures ∙ sym (codel_at c.self.inside.parameters c.self.inside.states.items c.args.flow c.index-codel.result.now)

-- the flow, as the model has it
there : (c : After-index-codel) → slice_get c.args.self.now.flows c.args.flow ≡ Some (record { queue = get_or c.self.inside.pool.queues c.args.flow []; codel = was c })
there c =
    flow_read c.args.flow c.self.inside.pool.queues (codels_in c.self.inside.parameters c.self.inside.states.items) (was c) c.args.self.now.flows c.self.invariant.0 (within c) (read c)
    (ap (λ (f : FlowsState). f.flows) c.self.view_is)

-- its head has gone
passes : (c : After-take_of_into)
    → Passed (joined c.self.inside.parameters c.index-codel.result.now) c.args.now (get_or c.self.inside.pool.queues c.args.flow []) c.peek-front.result.0 c.take_of_into.new.out
    (joined c.self.inside.parameters c.in-Some.after)
passes c =
    passed _ _ c.args.now _ c.peek-front.result.0 c.peek-front.result.1 c.take_of_into.new.out
    c.peek-front.ensures.front c.peek-front.ensures.bytes c.take_of_into.ensures.given c.in-Some.ensures.passed

-- the state that is written is the one that was read
same : (c : After-index_mut) → c.index_mut.result.now ≡ c.index-codel.result.now
same c =
    let vs = c.self.inside.states.items in
    let d = (goal.at.pass-requires c).After-index-codel in
    let inside : c.args.flow < length vs = omega (arith, within d, length-codels_in c.self.inside.parameters vs, c.self.inside.states.ok.0) in
    c.index_mut.ensures.value ∙ get_or_default vs c.args.flow c.index_mut.result.now c.index-codel.result.now inside ∙ sym c.index-codel.ensures

pub pass-requires : goal.pass-requires
pass-requires c =
    c.in-Some.ensures.kept
    ∙ ap (λ (v : CodelVars). record v { first_above_time = c.in-Some.after.first_above_time; dropping = false }) (sym (same c))

pub renew-requires-clause-in_range : goal.renew-requires-clause-in_range
renew-requires-clause-in_range c =
    omega (arith, within (goal.at.renew-requires-clause-in_range c).After-index-codel, c.self.invariant.0, ap length c.self.invariant.2, length-sizes c.self.inside.pool.queues)

pub renew-requires-clause-fell : goal.renew-requires-clause-fell
renew-requires-clause-fell c _ = omega (arith, ap (λ (l : List ℕ). get_or l c.args.flow 0) c.self.invariant.2, sizes_at c.self.inside.pool.queues c.args.flow, c.peek-front.ensures.bytes)

-- its head is late
pub returns-in_default-clause-late : goal.returns-in_default-clause-late
returns-in_default-clause-late c =
    let d = (goal.at.returns-in_default-clause-late c).After-index-codel in
    subst (λ (o : Option Flow). IfSome o (λ f. is_late f.codel c.args.now f.queue ≡ true)) (sym (there d))
    (late (was d) c.args.now (get_or c.self.inside.pool.queues c.args.flow []) c.peek-front.result.0 c.peek-front.result.1 c.peek-front.ensures.front
    c.peek-front.ensures.bytes c.in_default.ensures.late)

pub invariant_of-self : goal.invariant_of-self
invariant_of-self c =
    let p = c.self.inside.parameters in
    let vs = c.self.inside.states.items in
    let v = c.pass.new.self in
    let qs : List (List Stamped) = c.self.inside.pool.queues in
    let n : ℕ = c.args.flow in
    let q : List Stamped = drop 1 (get_or qs n []) in
    let d = goal.at.invariant_of-self c in
    let new : List (List Stamped) = c.take_of_into.new.self.queues in
    let inside : n < length qs = omega (arith, within d.After-index-codel, c.self.invariant.0) in (
      ap length c.take_of_into.ensures.queues ∙ length-set qs n q ∙ c.self.invariant.0 ∙ length-codels_in p vs ∙ sym (length-set vs n v) ∙ sym (length-codels_in p (set vs n v)),
      omega (arith, c.self.invariant.1, length-set vs n v),
      sizes_renewed qs new n q c.renew.new.self (c.peek-front.result.1 - c.peek-front.result.0.len) c.take_of_into.ensures.queues inside
          (c.renew.ensures ∙ ap (λ (l : List ℕ). set l n (c.peek-front.result.1 - c.peek-front.result.0.len)) c.self.invariant.2)
          (behind_is _ c.peek-front.result.0 c.peek-front.result.1 c.peek-front.ensures.front c.peek-front.ensures.bytes
          ∙ ap size (sym (get_or-set_same qs n q [] inside))
          ∙ ap (λ (l : List (List Stamped)). size (get_or l n [])) (sym c.take_of_into.ensures.queues)),
      c.self.invariant.3,
    )

pub returns-clause-sent : goal.returns-clause-sent
unfolding packet_sent
returns-clause-sent c =
    let d = goal.at.returns-clause-sent c in
    subst (λ (o : Option Flow). IfSome o (λ f. taken_as c.take_of_into.new.out false ≡ packet_sent c.args.now f)) (sym (there d.After-index-codel)) (passes d.After-take_of_into).sent

pub returns-clause-at : goal.returns-clause-at
returns-clause-at c =
    let d = goal.at.returns-clause-at c in
    subst (λ (o : Option Flow). IfSome o (λ f. Some c.peek-front.result.0.at ≡ option_map (λ (s : Stamped). s.at) (sent f.codel c.args.now f.queue))) (sym (there d.After-index-codel))
    (passes d.After-take_of_into).at

pub returns-clause-some : goal.returns-clause-some
returns-clause-some c = omega (arith, (passes (goal.at.returns-clause-some c).After-take_of_into).len, c.take_of_into.ensures.some)

pub returns-clause-dropped : goal.returns-clause-dropped
unfolding packets_dropped
returns-clause-dropped c =
    let d = goal.at.returns-clause-dropped c in
    let q : List Stamped = get_or c.self.inside.pool.queues c.args.flow [] in
    subst (λ (o : Option Flow). IfSome o (λ f. packets_dropped c.args.now f ≡ [])) (sym (there d.After-index-codel))
    (ap (λ (m : ℕ). take m q) (passes d.After-take_of_into).none)

pub returns-clause-flows : goal.returns-clause-flows
unfolding flow_after
returns-clause-flows c =
    let d = goal.at.returns-clause-flows c in
    let p = c.self.inside.parameters in
    let vs = c.self.inside.states.items in
    let cs : List CodelState = codels_in p vs in
    let n = c.args.flow in
    let qs : List (List Stamped) = c.self.inside.pool.queues in
    let before : CodelState = joined p c.index-codel.result.now in
    let now : CodelState = joined p c.pass.new.self in
    let q : List Stamped = get_or qs n [] in
    let way = passes d.After-take_of_into in
    let here : flow_after c.args.now (record { queue = q; codel = get_or cs n before }) ≡ record { queue = drop 1 q; codel = now } =
    ap (λ (s : CodelState). flow_after c.args.now (record { queue = q; codel = s })) (sym (read d.After-index-codel))
    ∙ ap₂ (λ (l : List Stamped) (s : CodelState). record { queue = l; codel = s }) (sym way.left_is) (sym way.after_is ∙ ap (joined p) (sym c.pass.ensures)) in
    ap₂ (λ (l : List (List Stamped)) (k : List CodelState). flows_from l k) c.take_of_into.ensures.queues (codels_in-set p vs n c.pass.new.self)
    ∙ flow_written n qs (drop 1 q) cs now before (flow_after c.args.now) here
    ∙ ap (λ (f : FlowsState). adjust (flow_after c.args.now) n f.flows) c.self.view_is

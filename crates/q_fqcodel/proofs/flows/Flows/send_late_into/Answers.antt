use Rattle.std.proofs.Common.{◌≡◌, ℕ, ◌-◌, ◌<◌, ◌==◌, nat_lt, not, List, [], length, get_or, set, refl, sym, ap, ap₂, ◌∙◌, arith, subst}
use Rattle.q_packet.specs.Totals.{count}
use Rattle.q_packet.specs.declared.stamped.Stamped.{Stamped}
use Rattle.std.specs.Prelude.{slice_get}
use Rattle.q_codel.specs.Codel.{CodelState, joined, sent, taken, is_late}
use Rattle.q_fqcodel.specs.Cleared.{adjust}
use Rattle.q_fqcodel.specs.FlowsState.{FlowsState}
use Rattle.q_fqcodel.specs.FqState.{Flow, queue_of}
use Rattle.q_fqcodel.specs.Pool.{flows_from, codels_in}
use Rattle.q_fqcodel.proofs.PooledLemmas.{length-flows_from, flow_read, queue_there, flow_written, length-sizes, sizes_renewed, length-codels_in, codel_at, codels_in-set}
use Rattle.std.proofs.lemmas.List.{length-set}
use Rattle.std.proofs.Common.{Option, Some, IfSome, IsSome, option_map, true}
use Rattle.q_packet.specs.declared.cause.Cause.TheVariants.{CoDel}
use Rattle.q_codel.specs.Losses.{AreLost}
use Rattle.q_codel.specs.declared.codel.Taken.{Taken}
use Rattle.q_fqcodel.proofs.SentLemmas.{rest_count, drops_told}
use Rattle.q_fqcodel.specs.Take.{taken_as, packet_sent, packets_dropped, flow_after}
use Rattle.q_fqcodel.proofs.flows.Flows.send_late_into.Goals as goal
use Rattle.q_fqcodel.proofs.flows.Flows.send_late_into.Goals.{After-index_mut-codel, After-send_late_from-leaving}

pub index_mut-codel-requires : goal.index_mut-codel-requires
index_mut-codel-requires g c =
    let same = ap (λ (f : FlowsState). f.flows) c.self.view_is in
    omega (
      arith,
      c.requires.in_range,
      ap length same,
      length-flows_from c.self.inside.pool.queues
          (codels_in c.self.inside.parameters c.self.inside.states.items) c.self.invariant.0,
      length-codels_in c.self.inside.parameters
          c.self.inside.states.items,
      c.self.inside.states.ok.0,
    )

omega_within : (g : _) (c : After-index_mut-codel g) → c.args.flow < length (codels_in c.self.inside.parameters c.self.inside.states.items)
omega_within g c =
    let same = ap (λ (f : FlowsState). f.flows) c.self.view_is in
    omega (arith, c.requires.in_range, ap length same, length-flows_from c.self.inside.pool.queues (codels_in c.self.inside.parameters c.self.inside.states.items) c.self.invariant.0)

-- what CoDel knows of the flow
read : (g : _) (c : After-index_mut-codel g)
    → joined c.self.inside.parameters c.index_mut-codel.result.now ≡ get_or (codels_in c.self.inside.parameters c.self.inside.states.items)
    c.args.flow (joined c.self.inside.parameters c.index_mut-codel.result.now)
read g c = ap (joined c.self.inside.parameters) c.index_mut-codel.ensures.value ∙ sym (codel_at c.self.inside.parameters c.self.inside.states.items c.args.flow c.index_mut-codel.result.now)

-- the flow, as the model has it
there : (g : _) (c : After-index_mut-codel g)
    → slice_get c.args.self.now.flows c.args.flow ≡ Some (record { queue = get_or c.self.inside.pool.queues c.args.flow []; codel = joined c.self.inside.parameters c.index_mut-codel.result.now })
there g c =
    flow_read c.args.flow c.self.inside.pool.queues (codels_in c.self.inside.parameters c.self.inside.states.items)
    (joined c.self.inside.parameters c.index_mut-codel.result.now) c.args.self.now.flows c.self.invariant.0
    (omega_within g c) (read g c) (ap (λ (f : FlowsState). f.flows) c.self.view_is)

pub peek-front-requires : goal.peek-front-requires
peek-front-requires g c =
    let same = ap (λ (f : FlowsState). f.flows) c.self.view_is in
    omega (
      arith,
      c.requires.some,
      ap count (queue_there c.args.flow c.self.inside.pool.queues (codels_in c.self.inside.parameters c.self.inside.states.items) c.self.invariant.0),
      ap (λ (fs : List Flow). count (queue_of fs c.args.flow)) same,
    )

pub count_at-held-requires : goal.count_at-held-requires
count_at-held-requires g c =
    let same = ap (λ (f : FlowsState). f.flows) c.self.view_is in
    omega (
      arith,
      c.requires.in_range,
      ap length same,
      length-flows_from c.self.inside.pool.queues
          (codels_in c.self.inside.parameters c.self.inside.states.items) c.self.invariant.0,
      c.self.invariant.0,
    )

pub count_at-rest-requires : goal.count_at-rest-requires
count_at-rest-requires g c =
    let d = (goal.at.count_at-rest-requires g c).After-index_mut-codel in
    let qs : List (List Stamped) = c.self.inside.pool.queues in
    omega (arith, omega_within g d, c.self.invariant.0, ap length c.send_late_from-leaving.ensures.others, length-set qs c.args.flow (get_or c.send_late_from-leaving.new.pool.queues c.args.flow []))

pub bytes_at-bytes-requires : goal.bytes_at-bytes-requires
bytes_at-bytes-requires g c =
    let d = (goal.at.bytes_at-bytes-requires g c).After-index_mut-codel in
    let qs : List (List Stamped) = c.self.inside.pool.queues in
    omega (arith, omega_within g d, c.self.invariant.0, ap length c.send_late_from-leaving.ensures.others, length-set qs c.args.flow (get_or c.send_late_from-leaving.new.pool.queues c.args.flow []))

pub send_late_from-leaving-requires-clause-late : goal.send_late_from-leaving-requires-clause-late
send_late_from-leaving-requires-clause-late g c =
    subst (λ (o : Option Flow). IfSome o (λ f. is_late f.codel c.args.now f.queue ≡ true)) (there g (goal.at.send_late_from-leaving-requires-clause-late g c).After-index_mut-codel) c.requires.late

pub send_late_from-leaving-requires-clause-room : goal.send_late_from-leaving-requires-clause-room
send_late_from-leaving-requires-clause-room g c =
    let same = ap (λ (f : FlowsState). f.flows) c.self.view_is in
    omega (
      arith,
      c.requires.room,
      ap count (queue_there c.args.flow c.self.inside.pool.queues (codels_in c.self.inside.parameters c.self.inside.states.items) c.self.invariant.0),
      ap (λ (fs : List Flow). count (queue_of fs c.args.flow)) same,
    )

-- what CoDel knew of the flow, and its queue
abbrev was : (g : _) → After-send_late_from-leaving g → CodelState
was g c = joined c.self.inside.parameters c.index_mut-codel.result.now

abbrev queue : (g : _) → After-send_late_from-leaving g → List Stamped
queue g c = get_or c.self.inside.pool.queues c.args.flow []

sends : (g : _) (c : After-send_late_from-leaving g) → IsSome (taken (was g c) c.args.now (queue g c))
sends g c = subst (λ (o : Option Taken). IsSome o) c.send_late_from-leaving.ensures.sent refl

pub overflow_sub-result : goal.overflow_sub-result
overflow_sub-result g c =
    let d = (goal.at.overflow_sub-result g c).After-send_late_from-leaving in
    omega (
      arith,
      rest_count c.count_at-held.result c.count_at-rest.result (was g d) c.args.now (queue g d) (get_or c.send_late_from-leaving.new.pool.queues c.args.flow [])
          c.count_at-held.ensures c.count_at-rest.ensures c.send_late_from-leaving.ensures.left (sends g d),
    )

pub returns-clause-sent : goal.returns-clause-sent
unfolding packet_sent
returns-clause-sent g c =
    subst (λ (o : Option Flow). IfSome o (λ f. taken_as c.send_late_from-leaving.new.out c.send_late_from-leaving.result.marked ≡ packet_sent c.args.now f))
    (sym (there g (goal.at.returns-clause-sent g c).After-index_mut-codel))
    c.send_late_from-leaving.ensures.sent

pub returns-clause-at : goal.returns-clause-at
returns-clause-at g c =
    subst (λ (o : Option Flow). IfSome o (λ f. Some c.send_late_from-leaving.result.at ≡ option_map (λ (s : Stamped). s.at) (sent f.codel c.args.now f.queue)))
    (sym (there g (goal.at.returns-clause-at g c).After-index_mut-codel))
    c.send_late_from-leaving.ensures.at

pub returns-clause-dropped : goal.returns-clause-dropped
unfolding packets_dropped
returns-clause-dropped g c =
    let d = (goal.at.returns-clause-dropped g c).After-send_late_from-leaving in
    let rest = rest_count c.count_at-held.result c.count_at-rest.result (was g d) c.args.now (queue g d) (get_or c.send_late_from-leaving.new.pool.queues c.args.flow [])
    c.count_at-held.ensures c.count_at-rest.ensures c.send_late_from-leaving.ensures.left (sends g d) in
    subst (λ (o : Option Flow). IfSome o (λ f. nat_lt 1 (c.count_at-held.result - c.count_at-rest.result) ≡ not (count (packets_dropped c.args.now f) == 0)))
    (sym (there g (goal.at.returns-clause-dropped g c).After-index_mut-codel))
    (drops_told c.count_at-held.result c.count_at-rest.result (was g d) c.args.now (queue g d) rest (sends g d))

pub returns-clause-flows : goal.returns-clause-flows
unfolding flow_after
returns-clause-flows g c =
    let p = c.self.inside.parameters in
    let vs = c.self.inside.states.items in
    let cs : List CodelState = codels_in p vs in
    let n = c.args.flow in
    let qs : List (List Stamped) = c.self.inside.pool.queues in
    let was : CodelState = joined p c.index_mut-codel.result.now in
    let now : CodelState = joined p c.send_late_from-leaving.new.codel in
    let q : List Stamped = get_or qs n [] in
    let left : List Stamped = get_or c.send_late_from-leaving.new.pool.queues n [] in
    let here : flow_after c.args.now (record { queue = q; codel = get_or cs n was }) ≡ record { queue = left; codel = now } =
    ap (λ (s : CodelState). flow_after c.args.now (record { queue = q; codel = s })) (sym (read g (goal.at.returns-clause-flows g c).After-index_mut-codel))
    ∙ ap₂ (λ (l : List Stamped) (s : CodelState). record { queue = l; codel = s }) (sym c.send_late_from-leaving.ensures.left) (sym c.send_late_from-leaving.ensures.state) in
    ap₂ (λ (l : List (List Stamped)) (k : List CodelState). flows_from l k) c.send_late_from-leaving.ensures.others (codels_in-set p vs n c.send_late_from-leaving.new.codel)
    ∙ flow_written n qs left cs now was (flow_after c.args.now) here
    ∙ ap (λ (f : FlowsState). adjust (flow_after c.args.now) n f.flows) c.self.view_is

pub returns-clause-lost : goal.returns-clause-lost
unfolding packets_dropped
returns-clause-lost g c =
    subst (λ (o : Option Flow). IfSome o (λ f. AreLost CoDel (packets_dropped c.args.now f) (g.S.Sink.state c.args.sink.now) (g.S.Sink.state c.send_late_from-leaving.new.sink)))
    (sym (there g (goal.at.returns-clause-lost g c).After-index_mut-codel))
    c.send_late_from-leaving.ensures.lost

pub renew-requires-clause-in_range : goal.renew-requires-clause-in_range
renew-requires-clause-in_range g c =
    let d = (goal.at.renew-requires-clause-in_range g c).After-index_mut-codel in
    omega (arith, omega_within g d, c.self.invariant.0, ap length c.self.invariant.2, length-sizes c.self.inside.pool.queues)

pub invariant_of-self : goal.invariant_of-self
invariant_of-self g c =
    let p = c.self.inside.parameters in
    let vs = c.self.inside.states.items in
    let v = c.send_late_from-leaving.new.codel in
    let qs : List (List Stamped) = c.self.inside.pool.queues in
    let n : ℕ = c.args.flow in
    let d = (goal.at.invariant_of-self g c).After-index_mut-codel in
    let new : List (List Stamped) = c.send_late_from-leaving.new.pool.queues in (
      ap length c.send_late_from-leaving.ensures.others ∙ length-set qs n (get_or new n []) ∙ c.self.invariant.0 ∙ length-codels_in p vs
          ∙ sym (length-set vs n v) ∙ sym (length-codels_in p (set vs n v)),
      omega (arith, c.self.invariant.1, length-set vs n v),
      sizes_renewed qs new n (get_or new n []) c.renew.new.self c.bytes_at-bytes.result c.send_late_from-leaving.ensures.others (omega (arith, omega_within g d, c.self.invariant.0))
          (c.renew.ensures ∙ ap (λ (l : List ℕ). set l n c.bytes_at-bytes.result) c.self.invariant.2) c.bytes_at-bytes.ensures.value,
      c.self.invariant.3,
    )

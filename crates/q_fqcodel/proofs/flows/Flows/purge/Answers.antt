use Rattle.std.proofs.Common.{◌≡◌, ℕ, suc, ◌<◌, List, [], ◌++◌, length, take, drop, map, replicate, refl, sym, ap, ap₂, ◌∙◌, arith, append-nil, add-one, subst}
use Rattle.std.proofs.lemmas.List.{take_all, drop_all}
use Rattle.q_packet.specs.Totals.{count}
use Rattle.q_packet.specs.declared.stamped.Stamped.{Stamped}
use Rattle.q_packet.specs.declared.cause.Cause.TheVariants.{Purged}
use Rattle.q_codel.specs.Codel.{CodelParams, joined, vars_at_first}
use Rattle.q_codel.specs.Losses.{AreLost, SinkState}
use Rattle.q_codel.proofs.SinkLemmas.{lost_both, room_lost, told_nothing}
use Rattle.q_fqcodel.specs.Cleared.{adjust}
use Rattle.q_fqcodel.specs.FlowsState.{FlowsState}
use Rattle.q_fqcodel.specs.FqState.{FqSettings, Flow, queue_of, all_packets}
use Rattle.q_fqcodel.specs.Pool.{cleared}
use Rattle.q_fqcodel.proofs.CountLemmas.{packets_counted}
use Rattle.q_fqcodel.proofs.PooledLemmas.{length-codels_in, cleared_retuned}
use Rattle.q_fqcodel.proofs.ShedLemmas.{purged_next, purged_at, all_packets_more, packets_of_more, packets_of_part, all_packets-nil}
use Rattle.q_fqcodel.proofs.flows.Flows.purge.Goals as goal
use Rattle.q_fqcodel.proofs.flows.Flows.purge.Goals.{After-empty, After-loop-flow}

pub loop-flow-init : goal.loop-flow-init
loop-flow-init g c = record {
  flows = refl;
  places = refl;
  lost = subst (λ (l : List Stamped). AreLost Purged l (g.S.Sink.state c.args.sink.now) (g.S.Sink.state c.args.sink.now)) (sym all_packets-nil) (told_nothing (g.S.Sink.state c.args.sink.now));
  kept = g.met.S.Sink.keeps_same c.args.sink.now;
}

-- the packets of the next flow, which are as they were
next : (g : _) (c : After-empty g) → queue_of c.loop-flow.self.flows c.loop-flow.flow ≡ queue_of c.args.self.now.flows c.loop-flow.flow
next g c =
    ap (λ (fs : List Flow). queue_of fs c.loop-flow.flow) c.loop-flow.invariant.flows
    ∙ purged_at cleared c.loop-flow.flow c.args.self.now.flows (omega (arith, c.loop-flow-test.true, c.len-flow-end.ensures.value))

pub empty-requires-clause-room : goal.empty-requires-clause-room
empty-requires-clause-room g c =
    let flows : List Flow = c.args.self.now.flows in
    let n : ℕ = c.loop-flow.flow in
    let within : n < length flows = omega (arith, c.loop-flow-test.true, c.len-flow-end.ensures.value) in
    let q : queue_of c.loop-flow.self.flows n ≡ queue_of flows n = ap (λ (fs : List Flow). queue_of fs n) c.loop-flow.invariant.flows ∙ purged_at cleared n flows within in
    let before : List Stamped = all_packets (take n flows) in
    omega (
      arith,
      ap count q,
      packets_of_more n flows within,
      packets_of_part (suc n) flows,
      packets_counted (take n flows),
      room_lost Purged before (g.S.Sink.state c.args.sink.now) (g.S.Sink.state c.loop-flow.sink) c.loop-flow.invariant.lost,
      c.requires,
    )

pub loop-flow-preserved : goal.loop-flow-preserved
loop-flow-preserved g c =
    let flows : List Flow = c.args.self.now.flows in
    let n : ℕ = c.loop-flow.flow in
    let within : n < length flows = omega (arith, c.loop-flow-test.true, c.len-flow-end.ensures.value) in
    let q = next g c in
    let before : List Stamped = all_packets (take n flows) in
    let old : SinkState = g.S.Sink.state c.args.sink.now in
    let now : SinkState = g.S.Sink.state c.loop-flow.sink in
    let new : SinkState = g.S.Sink.state c.empty.new.sink in
    record {
      flows =
          c.empty.ensures.flows
          ∙ ap (adjust cleared n) c.loop-flow.invariant.flows
          ∙ purged_next cleared n flows within
          ∙ ap (λ (k : ℕ). map cleared (take k flows) ++ drop k flows) (sym (add-one n));
      places = c.empty.ensures.places ∙ c.loop-flow.invariant.places;
      lost = subst (λ (l : List Stamped). AreLost Purged l old new) (all_packets_more n flows within ∙ ap (λ (k : ℕ). all_packets (take k flows)) (sym (add-one n)))
          (lost_both Purged before (queue_of flows n) old now new c.loop-flow.invariant.lost (subst (λ (l : List Stamped). AreLost Purged l now new) q c.empty.ensures.lost));
      kept = g.met.S.Sink.keeps_on c.args.sink.now c.loop-flow.sink c.empty.new.sink c.loop-flow.invariant.kept c.empty.ensures.kept;
    }

done : (g : _) (c : After-loop-flow g) → c.loop-flow.flow ≡ length c.args.self.now.flows
done g c = omega (arith, c.loop-flow-test.false, c.len-flow-end.ensures.value, c.loop-flow.auto.flow-end)

whole : (g : _) (c : After-loop-flow g) → take c.loop-flow.flow c.args.self.now.flows ≡ c.args.self.now.flows
whole g c = take_all c.loop-flow.flow c.args.self.now.flows (omega (arith, done g c))

all_cleared : (g : _) (c : After-loop-flow g) → c.loop-flow.self.flows ≡ map cleared c.args.self.now.flows
all_cleared g c =
    c.loop-flow.invariant.flows
    ∙ ap₂ (λ (k l : List Flow). map cleared k ++ l) (whole g c) (drop_all c.loop-flow.flow c.args.self.now.flows (omega (arith, done g c)))
    ∙ append-nil (map cleared c.args.self.now.flows)

pub returns-clause-lost : goal.returns-clause-lost
returns-clause-lost g c =
    subst (λ (fs : List Flow). AreLost Purged (all_packets fs) (g.S.Sink.state c.args.sink.now) (g.S.Sink.state c.loop-flow.sink))
    (whole g (goal.at.returns-clause-lost g c).After-loop-flow) c.loop-flow.invariant.lost

pub invariant_of-self : goal.invariant_of-self
invariant_of-self g c =
    let vs = c.self-2.inside.states.items in (
      c.self-2.invariant.0 ∙ length-codels_in c.self-2.inside.parameters vs ∙ sym (length-codels_in c.parameters_of-self-inside.result vs),
      c.self-2.invariant.1,
      c.self-2.invariant.2,
      ap (λ (p : CodelParams). p.mtu) c.parameters_of-self-inside.ensures ∙ sym (ap (λ (s : FqSettings). s.mtu) c.settings.view_is),
    )

pub returns-clause-flows : goal.returns-clause-flows
returns-clause-flows g c =
    let qs = c.self-2.inside.pool.queues in
    let vs = c.self-2.inside.states.items in
    let old : List Flow = c.args.self.now.flows in
    cleared_retuned c.self-2.inside.parameters c.parameters_of-self-inside.result qs vs old c.self-2.invariant.0
    (ap (λ (f : FlowsState). f.flows) c.self-2.view_is ∙ all_cleared g (goal.at.returns-clause-flows g c).After-loop-flow)
    ∙ ap (λ (p : CodelParams). replicate (length old) (record { queue = []; codel = joined p vars_at_first })) c.parameters_of-self-inside.ensures

use Rattle.std.proofs.Common.{◌<◌, List, length, ap, ◌∙◌, arith}
use Rattle.q_codel.specs.Codel.{CodelState}
use Rattle.q_fqcodel.specs.FlowsState.{FlowsState}
use Rattle.q_fqcodel.specs.FqState.{packets_of}
use Rattle.q_fqcodel.specs.Pool.{PoolState, packets_in, flows_from, codels_in}
use Rattle.q_fqcodel.proofs.PooledLemmas.{packets_pooled}
use Rattle.std.proofs.Common.{Result, Ok, Err, OnOk}
use Rattle.q_fqcodel.proofs.flows.Flows.reserve.Goals as goal

on_ok : {E : Type 0} (r : Result (Unit {0}) E) (P Q : Type 0) → (P → Q) → OnOk r P → OnOk r Q
on_ok (Ok x) P Q f p = f p
on_ok (Err e) P Q f p = p

pub returns-clause-ok : goal.returns-clause-ok
returns-clause-ok c =
    let all = ap length c.reserve.ensures.queues ∙ c.self.invariant.0 in
    on_ok c.reserve.result _ _ (λ (p : packets_in c.reserve.new.self.queues < c.reserve.new.self.places). omega
    (arith, p, packets_pooled c.reserve.new.self.queues (codels_in c.self.inside.parameters c.self.inside.states.items) all)) c.reserve.ensures.ok

pub returns-clause-succeeds : goal.returns-clause-succeeds
returns-clause-succeeds c h =
    let same = ap (λ (f : FlowsState). f.flows) c.self.view_is in
    c.reserve.ensures.succeeds (omega (
      arith,
      h,
      ap packets_of same,
      ap (λ (f : FlowsState). f.places) c.self.view_is,
      packets_pooled
          c.self.inside.pool.queues (codels_in c.self.inside.parameters c.self.inside.states.items) c.self.invariant.0,
    ))

pub returns-clause-had_room : goal.returns-clause-had_room
returns-clause-had_room c h =
    let same = ap (λ (f : FlowsState). f.flows) c.self.view_is in
    let cs : List CodelState = codels_in c.self.inside.parameters c.self.inside.states.items in
    ap (λ (p : PoolState). record { flows = flows_from p.queues cs; places = p.places })
    (c.reserve.ensures.had_room (omega (arith, h, ap packets_of same, ap (λ (f : FlowsState). f.places) c.self.view_is, packets_pooled c.self.inside.pool.queues cs c.self.invariant.0)))
    ∙ c.self.view_is

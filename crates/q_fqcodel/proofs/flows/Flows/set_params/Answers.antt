use Rattle.std.proofs.Common.{◌≡◌, ℕ, Option, IfSome, subst, map, sym, ap, ◌∙◌}
use Rattle.q_codel.specs.Codel.{CodelParams}
use Rattle.q_fqcodel.specs.FlowsState.{FlowsState}
use Rattle.q_fqcodel.specs.FqState.{retuned}
use Rattle.q_fqcodel.specs.Pool.{flows_from, codels_in}
use Rattle.q_fqcodel.proofs.PooledLemmas.{length-codels_in, codels_retuned}
use Rattle.q_fqcodel.proofs.ShedLemmas.{flows_from-retuned}
use Rattle.q_fqcodel.proofs.flows.Flows.set_params.Goals as goal
use Rattle.q_fqcodel.proofs.flows.Flows.set_params.Goals.{After-unwrap-self-inside}

-- the settings that are written
tuned : (c : After-unwrap-self-inside) → c.unwrap-self-inside.result ≡ record c.self.inside.parameters { target = c.args.target; interval = c.args.interval; ecn = c.args.ecn }
tuned c =
    subst (λ (o : Option CodelParams). IfSome o
    (λ p. p ≡ record { target = c.args.target; interval = c.args.interval; mtu = c.self.inside.mtu; ecn = c.args.ecn }))
    c.unwrap-self-inside.ensures c.new.ensures.value
    ∙ ap (λ (m : ℕ). record { target = c.args.target; interval = c.args.interval; mtu = m; ecn = c.args.ecn }) (sym c.self.invariant.3)

pub invariant_of-self : goal.invariant_of-self
invariant_of-self c = (
  c.self.invariant.0 ∙ length-codels_in c.self.inside.parameters c.self.inside.states.items ∙ sym (length-codels_in c.unwrap-self-inside.result c.self.inside.states.items),
  c.self.invariant.1,
  c.self.invariant.2,
  ap (λ (p : CodelParams). p.mtu) (tuned (goal.at.invariant_of-self c).After-unwrap-self-inside) ∙ c.self.invariant.3,
)

pub returns-clause-flows : goal.returns-clause-flows
returns-clause-flows c =
    let qs = c.self.inside.pool.queues in
    let p : CodelParams = c.self.inside.parameters in
    let vs = c.self.inside.states.items in
    ap (flows_from qs) (codels_retuned p c.unwrap-self-inside.result c.args.target c.args.interval c.args.ecn vs (tuned (goal.at.returns-clause-flows c).After-unwrap-self-inside))
    ∙ flows_from-retuned c.args.target c.args.interval c.args.ecn qs (codels_in p vs)
    ∙ ap (λ (f : FlowsState). map (retuned c.args.target c.args.interval c.args.ecn) f.flows) c.self.view_is

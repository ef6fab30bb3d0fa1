use Rattle.std.proofs.Common.{◌≡◌, ℕ, List, [], length, replicate, sym, ap, ap₂, ◌∙◌, arith}
use Rattle.std.proofs.lemmas.List.{length-replicate}
use Rattle.q_packet.specs.declared.stamped.Stamped.{Stamped}
use Rattle.q_codel.specs.Codel.{CodelState, CodelVars, CodelParams, joined, vars_at_first}
use Rattle.q_fqcodel.specs.FqState.{FqSettings}
use Rattle.q_fqcodel.specs.Pool.{flows_from, codels_in, sizes}
use Rattle.q_fqcodel.proofs.PooledLemmas.{sizes_first, codels_first, length-codels_in}
use Rattle.q_fqcodel.proofs.ShedLemmas.{flows_first}
use Rattle.q_fqcodel.proofs.flows.Flows.new.Goals as goal
use Rattle.q_fqcodel.proofs.flows.Flows.new.Goals.{After-parameters_of}

states : (c : After-parameters_of) → c.in_ok-states.states.items ≡ replicate c.settings.inside.flows vars_at_first
states c = c.in_ok-states.ensures.items_if_clones_equal (λ y h. h) ∙ ap (λ (v : CodelVars). replicate c.settings.inside.flows v) c.new-2.ensures

pub invariant_of-result : goal.invariant_of-result
invariant_of-result c =
    let n : ℕ = c.settings.inside.flows in
    let items = states (goal.at.invariant_of-result c).After-parameters_of in
    let queues = ap length c.in_ok-pool.ensures.queues ∙ length-replicate n [] in
    let all = ap length items ∙ length-replicate n vars_at_first in (
      queues ∙ sym all ∙ sym (length-codels_in c.parameters_of.result c.in_ok-states.states.items),
      omega (arith, all, c.settings.invariant.flows_high),
      c.in_ok-winners.ensures ∙ sym (sizes_first n) ∙ ap sizes (sym c.in_ok-pool.ensures.queues),
      ap (λ (p : CodelParams). p.mtu) c.parameters_of.ensures ∙ sym (ap (λ (s : FqSettings). s.mtu) c.settings-2.view_is),
    )

pub returns-clause-flows : goal.returns-clause-flows
returns-clause-flows c =
    let n : ℕ = c.settings.inside.flows in
    let r : CodelParams = c.parameters_of.result in
    ap₂ (λ (q : List (List Stamped)) (l : List CodelState). flows_from q l) c.in_ok-pool.ensures.queues
    (ap (codels_in r) (states (goal.at.returns-clause-flows c).After-parameters_of) ∙ codels_first r n)
    ∙ flows_first (joined r vars_at_first) n
    ∙ ap₂ (λ (m : ℕ) (k : CodelParams). replicate m (record { queue = []; codel = joined k vars_at_first })) (ap (λ (s : FqSettings). s.flows) c.settings.view_is) c.parameters_of.ensures

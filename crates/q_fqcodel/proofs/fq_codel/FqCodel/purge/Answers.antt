use Rattle.std.proofs.Common.{◌≡◌, ℕ, List, replicate, sym, ap, ◌∙◌, subst}
use Rattle.q_fqcodel.specs.FlowsState.{state_of}
use Rattle.q_fqcodel.specs.FqState.{FqSettings, Flow, FqState, FqView, first_flow, first_state}
use Rattle.q_fqcodel.specs.Lawful.{IsLawful}
use Rattle.q_fqcodel.specs.Links.{ListsState}
use Rattle.q_fqcodel.proofs.LawfulLemmas.{lawful_first}
use Rattle.q_fqcodel.proofs.fq_codel.FqCodel.purge.Goals as goal
use Rattle.q_fqcodel.proofs.fq_codel.FqCodel.purge.Goals.{After-clear}

-- the state after
made : (g : _) (c : After-clear g) → state_of c.self.inside.settings c.purge.new.self c.clear.new.self.new_flows c.clear.new.self.old_flows ≡ first_state c.self.inside.settings
made g c =
    let settings : FqSettings = c.self.inside.settings in
    let flows : c.purge.new.self.flows ≡ replicate settings.flows (first_flow settings) =
    c.purge.ensures.flows ∙ ap (λ (n : ℕ). replicate n (first_flow settings)) c.self.invariant.0.each_flow in
    ap (λ (f : List Flow). record { settings = settings; flows = f; new_flows = c.clear.new.self.new_flows; old_flows = c.clear.new.self.old_flows }) flows
    ∙ ap (λ (v : ListsState). record { settings = settings; flows = replicate settings.flows (first_flow settings); new_flows = v.new_flows; old_flows = v.old_flows }) c.clear.ensures

pub invariant_of-self : goal.invariant_of-self
invariant_of-self g c =
    let d = (goal.at.invariant_of-self g c).After-clear in (
      subst (λ (s : FqState). IsLawful s) (sym (made g d)) (lawful_first c.self.inside.settings),
      ap (λ (v : ListsState). v.room) c.clear.ensures ∙ c.self.invariant.1,
    )

pub returns-clause-after : goal.returns-clause-after
returns-clause-after g c = made g (goal.at.returns-clause-after g c).After-clear ∙ ap (λ (v : FqView). first_state v.state.settings) c.self.view_is

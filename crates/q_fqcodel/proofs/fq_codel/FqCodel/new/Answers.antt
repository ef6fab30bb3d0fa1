use Rattle.std.proofs.Common.{◌≡◌, List, replicate, sym, ap, ◌∙◌, subst}
use Rattle.q_fqcodel.specs.FlowsState.{state_of}
use Rattle.q_fqcodel.specs.FqState.{FqSettings, Flow, FqState, first_flow, first_state}
use Rattle.q_fqcodel.specs.Lawful.{IsLawful}
use Rattle.q_fqcodel.specs.Links.{ListsState}
use Rattle.q_fqcodel.proofs.LawfulLemmas.{lawful_first}
use Rattle.q_fqcodel.proofs.fq_codel.FqCodel.new.Goals as goal
use Rattle.q_fqcodel.proofs.fq_codel.FqCodel.new.Goals.{In_ok-lists}

-- the state that is made
made : (c : In_ok-lists) → state_of c.args.settings c.in_ok-flows.flows c.in_ok-lists.lists.new_flows c.in_ok-lists.lists.old_flows ≡ first_state c.args.settings
made c =
    let settings : FqSettings = c.args.settings in
    ap (λ (f : List Flow). record { settings = settings; flows = f; new_flows = c.in_ok-lists.lists.new_flows; old_flows = c.in_ok-lists.lists.old_flows }) c.in_ok-flows.ensures.flows
    ∙ ap (λ (v : ListsState). record { settings = settings; flows = replicate settings.flows (first_flow settings); new_flows = v.new_flows; old_flows = v.old_flows }) c.in_ok-lists.ensures

pub invariant_of-result : goal.invariant_of-result
invariant_of-result c =
    let d = (goal.at.invariant_of-result c).In_ok-lists in (
      subst (λ (s : FqState). IsLawful s) (sym (made d)) (lawful_first c.args.settings),
      ap (λ (v : ListsState). v.room) c.in_ok-lists.ensures ∙ ap (λ (x : FqSettings). x.flows) c.settings.view_is,
    )

pub returns-clause-state : goal.returns-clause-state
returns-clause-state c = made (goal.at.returns-clause-state c).In_ok-lists

use Rattle.std.proofs.Common.{◌≡◌, List, map, sym, ap, ◌∙◌, subst}
use Rattle.q_fqcodel.specs.FlowsState.{state_of}
use Rattle.q_fqcodel.specs.FqState.{FqSettings, Flow, FqState, FqView, retuned}
use Rattle.q_fqcodel.specs.Lawful.{IsLawful}
use Rattle.q_fqcodel.proofs.LawfulLemmas.{lawful_changed}
use Rattle.q_fqcodel.proofs.fq_codel.FqCodel.change.Goals as goal

pub invariant_of-self : goal.invariant_of-self
invariant_of-self c =
    let s : FqState = state_of c.self.inside.settings c.self.inside.flows c.self.inside.lists.new_flows c.self.inside.lists.old_flows in
    let settings : FqSettings = c.args.settings in
    let flows : settings.flows ≡ s.settings.flows = c.requires.flows ∙ ap (λ (x : FqView). x.state.settings.flows) (sym c.self.view_is) in
    let tuned : c.set_params.new.self.flows ≡ map (retuned settings.target settings.interval settings.ecn) s.flows =
    c.set_params.ensures.flows ∙ ap (λ (x : FqSettings). map (retuned x.target x.interval x.ecn) s.flows) c.settings.view_is in (
      subst (λ (f : List Flow). IsLawful (record s { settings = settings; flows = f })) (sym tuned) (lawful_changed s settings c.self.invariant.0 flows),
      c.self.invariant.1 ∙ sym flows,
    )

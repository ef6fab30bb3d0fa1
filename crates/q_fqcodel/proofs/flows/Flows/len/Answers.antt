use Rattle.std.proofs.Common.{length, sym, ap, ◌∙◌}
use Rattle.q_fqcodel.specs.Pool.{codels_in}
use Rattle.q_fqcodel.specs.FlowsState.{FlowsState}
use Rattle.q_fqcodel.proofs.PooledLemmas.{length-flows_from, length-codels_in}
use Rattle.q_fqcodel.proofs.flows.Flows.len.Goals as goal

pub returns-clause-value : goal.returns-clause-value
returns-clause-value c =
    c.len.ensures ∙ c.self.inside.states.ok.0 ∙ sym (length-codels_in c.self.inside.parameters c.self.inside.states.items)
    ∙ sym (length-flows_from c.self.inside.pool.queues (codels_in c.self.inside.parameters c.self.inside.states.items) c.self.invariant.0)
    ∙ ap (λ (f : FlowsState). length f.flows) c.self.view_is
